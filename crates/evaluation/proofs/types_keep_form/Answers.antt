use Rattle.evaluation.proofs.Forms.{types_keep_form}
use Rattle.evaluation.proofs.types_keep_form.Goals as goal

pub returns : goal.returns
returns c = types_keep_form

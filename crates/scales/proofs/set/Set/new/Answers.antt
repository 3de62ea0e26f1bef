use Rattle.std.proofs.Common.{ℕ, ◌+◌, get_or, refl, subst, arith}
use lib.Bits.{bit_or}
use Rattle.scales.proofs.SetCode.{Marked, marked_none, marked_more, marked_set, marked_nothing, one_shl}
use Rattle.scales.proofs.set.Set.new.Goals as goal

pub loop-n-init : goal.loop-n-init
loop-n-init c = (omega arith, marked_none c.args.members.now)

pub loop-n-preserved : goal.loop-n-preserved
loop-n-preserved c =
    let xs = c.args.members.now in
    let i = c.loop-n.n-index in
    let x = get_or xs i 0 in
    (omega arith, subst (λ (p : ℕ). Marked xs (i + 1) (bit_or c.loop-n.mask p)) (one_shl x (omega arith)) (marked_more xs i c.loop-n.mask x c.loop-n.invariant.1 refl (omega arith)))

pub returns-then-mask-gt0 : goal.returns-then-mask-gt0
returns-then-mask-gt0 c = marked_set c.args.members.now c.loop-n.n-index _ (omega arith) c.loop-n.invariant.1

pub returns-else-mask-gt0 : goal.returns-else-mask-gt0
returns-else-mask-gt0 c = marked_nothing c.args.members.now c.loop-n.n-index c.loop-n.mask (omega arith) (omega arith) c.loop-n.invariant.1

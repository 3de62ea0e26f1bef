use Rattle.std.proofs.Common.{◌≡◌, ◌<◌, length, get_or, refl, ap, arith, rules}
use Rattle.std.proofs.lemmas.List.{get_or_read}
use Rattle.flight.specs.Tables.{tables, no_binding}
use Rattle.flight.specs.declared.machine.Control.TheVariants.{Eval}
use Rattle.flight.proofs.Leads.{leads_at, name_later, name_kept, name_store}
use Rattle.flight.proofs.machine.Machine.look.Goals as goal

pub returns-in-Thunk : goal.returns-in-Thunk
returns-in-Thunk c ns gs P =
    let t = tables c.args.self.now in
    let few = P.sound.log in
    let len : c.len.result ≡ length t.log = search rules in
    let lt : length t.log < 4096 = omega arith in
    let x : c.index-b.result.now ≡ get_or t.bindings c.find-at.result no_binding = search (rules, get_or_read) in
    leads_at ns gs t _ _ _ _ _ c.note_lookup.ensures (ap Eval (c.below.ensures P.least))
    (name_later ns gs t c.args.spot P c.args.level c.find-at.result c.index-b.result.now (c.find-at.ensures.finds (record { ns = ns; lv = P.lv; sound = P.sound })) x
    c.in-Thunk.kid c.in-Thunk.outer c.in-Thunk.is lt)

pub returns-in-Kept : goal.returns-in-Kept
returns-in-Kept c ns gs P =
    let t = tables c.args.self.now in
    let few = P.sound.log in
    let len : c.len.result ≡ length t.log = search rules in
    let lt : length t.log < 4096 = omega arith in
    let x : c.index-b.result.now ≡ get_or t.bindings c.find-at.result no_binding = search (rules, get_or_read) in
    leads_at ns gs t _ _ _ _ _ c.note_lookup-in-Kept.ensures refl
    (name_kept ns gs t c.args.spot P c.args.level c.find-at.result c.index-b.result.now (c.find-at.ensures.finds (record { ns = ns; lv = P.lv; sound = P.sound })) x
    c.in-Kept.v c.in-Kept.is lt)

pub returns-in-Store : goal.returns-in-Store
returns-in-Store c ns gs P =
    let t = tables c.args.self.now in
    let few = P.sound.log in
    let len : c.len.result ≡ length t.log = search rules in
    let lt : length t.log < 4096 = omega arith in
    let x : c.index-b.result.now ≡ get_or t.bindings c.find-at.result no_binding = search (rules, get_or_read) in
    name_store ns gs t c.args.spot P c.args.level c.find-at.result c.index-b.result.now (c.find-at.ensures.finds (record { ns = ns; lv = P.lv; sound = P.sound })) x
    c.in-Store.is lt

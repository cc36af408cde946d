use Rattle.std.proofs.Common.{List, sym, subst}
use Rattle.std.specs.Prelude.{Contains, ◌↔◌}
use Rattle.std.proofs.lemmas.Result.{on_ok_weaker}
use Rattle.dep_form.specs.declared.rules.Var.{Var}
use Rattle.constraint_form.specs.Variables.{Operand, StandsFor}
use Rattle.constraint_rules.specs.Settings.{place_of}
use Rattle.constraint_rules.specs.Slots.{IsNumberIn}
use Rattle.constraint_rules.proofs.FormParts.{copies_grown}
use Rattle.constraint_rules.proofs.values.push_joining_use.Goals as goal

pub returns : goal.returns
returns c = λ p s names set.
    let x = c.args.x.now in
    let held = c.in_ok-from.ensures p s set.has in
    on_ok_weaker c.push_copies.result (λ g. copies_grown (Contains c.as_slice.result.now) (IsNumberIn p s x.body.now x.point.now.pc c.args.slot_use.now.slot)
    (λ y. StandsFor names y (Operand (place_of x) c.args.slot_use.now.operand)) _ c.own.result c.args.rules.now.items c.push_copies.new.rules.items
    (subst (λ (xs : List Var). (v : Var) → Contains xs v ↔ IsNumberIn p s x.body.now x.point.now.pc c.args.slot_use.now.slot v) (sym c.as_slice.ensures.value) held) (c.own.ensures p s names set) g) c.push_copies.ensures

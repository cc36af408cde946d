use Rattle.std.proofs.Common.{◌≡◌, Bool, true, false, not, refl, sym, ◌∙◌}
use Rattle.mod_ref.proofs.Members.{some_element, no_element}
use Rattle.input_tables.proofs.solved.goes_outside.Goals as goal

not_true : (b : Bool) → not b ≡ true → b ≡ false
not_true true h = absurd (cc h)
not_true false h = refl

not_false : (b : Bool) → not b ≡ false → b ≡ true
not_false true h = refl
not_false false h = absurd (cc h)

pub returns-clause-some : goal.returns-clause-some
returns-clause-some c = λ s solved h.
    let e = some_element c.receivers_of.result.now (sym c.is_empty.ensures ∙ not_true c.is_empty.result h) in
    (e.0, (c.receivers_of.ensures s e.0 solved).0 e.1)

pub returns-clause-none : goal.returns-clause-none
returns-clause-none c = λ s o solved h gone. no_element c.receivers_of.result.now o (sym c.is_empty.ensures ∙ not_false c.is_empty.result h) ((c.receivers_of.ensures s o solved).1 gone)

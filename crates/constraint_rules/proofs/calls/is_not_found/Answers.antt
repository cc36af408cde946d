use Rattle.std.proofs.Common.{sym}
use Rattle.std.proofs.lemmas.Bool.{false≢true}
use Rattle.constraint_rules.specs.Naming.{key_in}
use Rattle.constraint_rules.proofs.OfTargets.{not_found_named, not_found_unnamed}
use Rattle.constraint_rules.proofs.calls.is_not_found.Goals as goal

pub returns-in-Some : goal.returns-in-Some
returns-in-Some c = λ p s names set placed.
    not_found_named c.args.t.now c.args.x.now p s names set placed (key_in c.in-Some.r) c.finds_none.result (sym c.in-Some.ensures) (c.finds_none.ensures p set.of)

pub returns-in-None : goal.returns-in-None
returns-in-None c = λ p s names set placed.
    (λ e. absurd (false≢true e), λ h. absurd (not_found_unnamed c.args.t.now c.args.x.now p s names set placed (sym c.in-None.ensures) h))

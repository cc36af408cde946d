use Rattle.std.proofs.Common.{sym}
use Rattle.std.proofs.lemmas.Result.{IfOk-weaker}
use Rattle.constraint_rules.specs.Naming.{key_in}
use Rattle.constraint_rules.proofs.OfNames.{named_here}
use Rattle.constraint_rules.proofs.OfTargets.{called_unnamed}
use Rattle.constraint_rules.proofs.calls.called.Goals as goal

pub returns-in-Some : goal.returns-in-Some
returns-in-Some c = IfOk-weaker c.found_by.result _ _ (λ o told p s names set placed.
    told p s names set placed (named_here c.args.t.now c.args.x.now p s names set placed (key_in c.in-Some.r) (sym c.in-Some.ensures))) c.found_by.ensures

pub returns-in-None : goal.returns-in-None
returns-in-None c = λ p s names set placed. called_unnamed c.args.t.now c.args.x.now p s names set placed (sym c.in-None.ensures)

use Rattle.std.proofs.Common.{refl}
use Rattle.std.proofs.lemmas.Result.{IfOk-weaker}
use Rattle.constraint_rules.specs.Naming.{key_in}
use Rattle.constraint_rules.proofs.OfTargets.{special_placed, class_there}
use Rattle.constraint_rules.proofs.calls.special_at.Goals as goal

pub returns-in-Some : goal.returns-in-Some
returns-in-Some c = IfOk-weaker c.special.result _ _ (λ o told p s names set placed.
    special_placed c.args.t.now c.args.x.now p s names set placed (key_in c.args.r) c.in-Some.current o ((c.in-Some.ensures p set.of c.in-Some.current).1 refl) (told p set.of)) c.special.ensures

pub returns-in-None : goal.returns-in-None
returns-in-None c = λ p s names set placed. absurd (class_there c.args.t.now c.args.x.now p s names set placed (c.in-None.ensures p set.of))

use Rattle.std.proofs.lemmas.Result.{on_ok_weaker}
use Rattle.constraint_rules.proofs.Growths.{both_grown}
use Rattle.constraint_rules.proofs.statement.push_copied.Goals as goal

pub returns : goal.returns
returns c = λ p s names set placed.
    on_ok_weaker c.push_joining.result (λ g. both_grown _ _ _ _ _ (c.in_ok-push_copying.ensures p s names set placed) (both_grown _ _ _ _ _ (c.in_ok-push_casting.ensures p s names set placed)
    (both_grown _ _ _ _ _ (c.in_ok-push_answering.ensures p s names set placed) (both_grown _ _ _ _ _ (c.in_ok-push_writing_static.ensures p s names set placed) g)))) (c.push_joining.ensures p s names set placed)

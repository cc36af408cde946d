use Rattle.std.proofs.lemmas.Result.{on_ok_weaker}
use Rattle.constraint_rules.proofs.Growths.{both_grown}
use Rattle.constraint_rules.proofs.statement.push_rules.Goals as goal

pub returns : goal.returns
returns c = λ p s names set placed.
    on_ok_weaker c.push_throws.result (λ g. both_grown _ _ _ _ _ (c.in_ok-push_copied.ensures p s names set placed) (both_grown _ _ _ _ _ (c.in_ok-push_heap.ensures p s names set placed)
    (both_grown _ _ _ _ _ (c.in_ok-push_fresh.ensures p s names set placed) (both_grown _ _ _ _ _ (c.in_ok-push_calls.ensures p s names set placed) g)))) (c.push_throws.ensures p s names set placed)

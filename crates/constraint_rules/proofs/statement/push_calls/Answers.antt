use Rattle.std.proofs.lemmas.Result.{on_ok_weaker}
use Rattle.constraint_rules.specs.Settings.{place_of}
use Rattle.constraint_rules.specs.Statements.{Calling, GoingOutside, Selecting}
use Rattle.constraint_rules.proofs.Growths.{both_grown, one_grown}
use Rattle.constraint_rules.proofs.statement.push_calls.Goals as goal

pub returns : goal.returns
returns c = λ p s names set placed.
    let at = place_of c.args.x.now in
    on_ok_weaker c.push_found-3.result (λ g. (both_grown _ _ _ _ _ (one_grown (Calling p s names at) c.in_ok-rule.rule _ _ (c.in_ok-rule.ensures p s names set placed) c.in_ok-push_found.ensures) (both_grown _ _ _ _ _ (one_grown (GoingOutside p s names at) c.going_outside.result _ _ (c.going_outside.ensures p s names set placed) c.in_ok-push_found-2.ensures) (one_grown (Selecting p s names at) c.selecting.result _ _ (c.selecting.ensures p s names set placed) g)))) c.push_found-3.ensures

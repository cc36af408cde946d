use Rattle.std.proofs.lemmas.Result.{on_ok_weaker}
use Rattle.constraint_rules.specs.Settings.{place_of}
use Rattle.constraint_rules.specs.Statements.{Leaving}
use Rattle.constraint_rules.proofs.Growths.{both_grown, one_grown}
use Rattle.constraint_rules.proofs.statement.push_throws.Goals as goal

pub returns : goal.returns
returns c = λ p s names set placed.
    let at = place_of c.args.x.now in
    on_ok_weaker c.push_found.result (λ g. (both_grown _ _ _ _ _ (c.in_ok-push_catching.ensures p s names set placed) (one_grown (Leaving p s names at) c.leaving.result _ _ (c.leaving.ensures p s names set placed) g))) c.push_found.ensures

use Rattle.std.proofs.lemmas.Result.{on_ok_weaker}
use Rattle.constraint_rules.specs.Settings.{place_of}
use Rattle.constraint_rules.specs.Statements.{Allocating, ReadingFresh}
use Rattle.constraint_rules.proofs.Growths.{both_grown, one_grown}
use Rattle.constraint_rules.proofs.statement.push_fresh.Goals as goal

pub returns : goal.returns
returns c = λ p s names set placed.
    let at = place_of c.args.x.now in
    on_ok_weaker c.push_found-2.result (λ g. (both_grown _ _ _ _ _ (c.in_ok-push_initializing.ensures p s names set placed) (both_grown _ _ _ _ _ (one_grown (Allocating p s names at) c.allocating.result _ _ (c.allocating.ensures p s names set placed) c.in_ok-push_found.ensures) (both_grown _ _ _ _ _ (c.in_ok-push_nesting.ensures p s names set placed) (one_grown (ReadingFresh p s names at) c.reading_fresh.result _ _ (c.reading_fresh.ensures p s names set placed) g))))) c.push_found-2.ensures

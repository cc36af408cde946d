use Rattle.std.proofs.lemmas.Result.{on_ok_weaker}
use Rattle.constraint_rules.specs.Entries.{IsGiven}
use Rattle.constraint_rules.proofs.Growths.{both_grown, one_grown}
use Rattle.constraint_rules.proofs.OfRoots.{first_initialized}
use Rattle.constraint_rules.proofs.root.push_entry.Goals as goal

pub returns : goal.returns
returns c = λ p s names set site.
    let e = c.args.entry.now in
    on_ok_weaker c.push_initializers.result (λ g. both_grown _ _ _ _ _ c.in_ok-push.ensures (both_grown _ _ _ _ _
    (one_grown (IsGiven p s e) c.giving.result _ _ (c.giving.ensures p s names set site) c.in_ok-push_found.ensures)
    (first_initialized c.args.t.now.h.now p set.of e c.class_of.result _ _ (c.class_of.ensures p set.of) g))) (c.push_initializers.ensures p s names set)

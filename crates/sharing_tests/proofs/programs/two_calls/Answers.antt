use Rattle.std.proofs.Common.{length, refl, ap}
use Rattle.sharing_tests.proofs.PartFacts.{two_parts}
use Rattle.sharing_tests.proofs.programs.two_calls.Goals as goal

pub facts_of-requires-clause-program : goal.facts_of-requires-clause-program
facts_of-requires-clause-program c = two_parts _ _ _ _ c.in_ok-id.id c.in_ok-main.main 4 (length c.in_ok-texts.texts.items) c.in_ok-inputs.inputs.items c.in_ok-exits.exits.items _ c.in_ok-id.ensures c.in_ok-main.ensures c.in_ok-inputs.ensures.items c.in_ok-exits.ensures.items refl (ap length c.in_ok-texts.ensures.items) refl refl

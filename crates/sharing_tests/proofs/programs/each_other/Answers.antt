use Rattle.std.proofs.Common.{length, refl, ap}
use Rattle.sharing_tests.proofs.PartFacts.{three_parts}
use Rattle.sharing_tests.proofs.programs.each_other.Goals as goal

pub facts_of-requires-clause-program : goal.facts_of-requires-clause-program
facts_of-requires-clause-program c = three_parts _ _ _ _ _ _ c.in_ok-even.even c.in_ok-odd.odd c.in_ok-main.main 4 8 (length c.in_ok-texts.texts.items) c.in_ok-inputs.inputs.items c.in_ok-exits.exits.items _ c.in_ok-even.ensures c.in_ok-odd.ensures c.in_ok-main.ensures c.in_ok-inputs.ensures.items c.in_ok-exits.ensures.items refl refl (ap length c.in_ok-texts.ensures.items) refl refl

use Rattle.std.proofs.Common.{map}
use Rattle.std.specs.Prelude.{option_map}
use Rattle.hierarchy.specs.Places.{declared_at}
use Rattle.call_graph.specs.Looking.{AreEntriesBelow}
use Rattle.call_graph.proofs.entry_methods.listed.Given as goal

abbrev pub invariant-loop-number : goal.invariant-loop-number
invariant-loop-number l = AreEntriesBelow l.classes (map declared_at l.places) (option_map (λ b. b.now) l.main) l.all.items l.number

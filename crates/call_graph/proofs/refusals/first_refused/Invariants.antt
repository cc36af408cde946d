use Rattle.std.proofs.Common.{map}
use Rattle.hierarchy.specs.Places.{declared_at}
use Rattle.call_graph.specs.Refusals.{IsFirst}
use Rattle.call_graph.proofs.Naming.{RefusedBelow}
use Rattle.call_graph.proofs.refusals.first_refused.Given as goal

abbrev pub invariant-loop-number : goal.invariant-loop-number
invariant-loop-number l = IsFirst (RefusedBelow l.scene.classes.now (map declared_at l.scene.places.now) l.scene.system.now l.number) l.first

use Rattle.std.proofs.Common.{map}
use Rattle.hierarchy.specs.Places.{declared_at}
use Rattle.class_loader.specs.Below.{AreBodiesBelow}
use Rattle.class_loader.proofs.listing.listed.Given as goal

abbrev pub invariant-loop-number : goal.invariant-loop-number
invariant-loop-number l = AreBodiesBelow l.classes (map declared_at l.places) l.all.items l.number

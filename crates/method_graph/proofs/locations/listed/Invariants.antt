use Rattle.std.proofs.Common.{◌≡◌, ℕ, [], take}
use Rattle.worklists.specs.Growth.{Grows, FromOne}
use Rattle.slicer_ids.specs.declared.ids.NodeId.{NodeId}
use Rattle.slicer_ids.specs.declared.ids.LocId.{LocId}
use Rattle.method_graph.specs.declared.locations.Access.{Access}
use Rattle.method_graph.specs.Accesses.{access_of}
use Rattle.method_graph.proofs.locations.listed.Given as goal

abbrev pub invariant-loop-access : goal.invariant-loop-access
invariant-loop-access l = Grows [] l.all.items (FromOne (λ (y : ℕ × NodeId × LocId) (x : Access). x ≡ access_of y) (take l.access-index l.accesses))

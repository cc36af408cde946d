use Rattle.std.proofs.Common.{◌≡◌, ℕ, [], refl}
use Rattle.worklists.proofs.Growing.{Grows-more, of_whole}
use Rattle.slicer_ids.specs.declared.ids.NodeId.{NodeId}
use Rattle.slicer_ids.specs.declared.ids.LocId.{LocId}
use Rattle.method_graph.specs.declared.locations.Access.{Access}
use Rattle.method_graph.specs.Accesses.{access_of}
use Rattle.method_graph.proofs.locations.listed.Goals as goal

pub loop-access-preserved : goal.loop-access-preserved
loop-access-preserved c = Grows-more (λ (y : ℕ × NodeId × LocId) (x : Access). x ≡ access_of y) c.args.accesses.now c.loop-access.access-index _ [] c.loop-access.all.items c.add.new.items.items c.loop-access-test.true c.loop-access.invariant c.in_ok-add.ensures.grown

pub returns : goal.returns
returns c = of_whole (λ (y : ℕ × NodeId × LocId) (x : Access). x ≡ access_of y) c.args.accesses.now c.loop-access.access-index [] c.loop-access.all.items refl c.loop-access-test.false c.loop-access.invariant

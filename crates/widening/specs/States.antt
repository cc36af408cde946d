-- What a widened slice keeps.
use Rattle.std.specs.Prelude.{◌≡◌, ◌<◌, ℕ, List, [], length, Contains, Option}
use Rattle.slicer_ids.specs.declared.ids.NodeId.{NodeId}
use Rattle.dep_form.specs.declared.facts.Facts.{Facts}
use Rattle.tabulate.specs.declared.found.Found.{Found}
use Rattle.tabulate.specs.declared.method.Method.{Method}
use Rattle.tabulate.specs.Frames.{count}
use Rattle.tabulate.specs.Found.{got_of, todo_of, waits_of}
use Rattle.thin_slice.specs.declared.marked.MarkedNodes.{MarkedNodes}
use Rattle.thin_slice.specs.declared.needs.Phase.TheVariants.{Up, Down}
use Rattle.thin_slice.specs.Marks.{AreNodesOf, found}
use Rattle.widening.specs.declared.state.State.{State}
use Rattle.widening.specs.Edges.{Widened, AreExpansions}
use Rattle.widening.specs.Pairs.{ArePairs, AreWhole, AreNeeded, IsDone, Has, Waits, Either, AtNodes}
use Rattle.widening.specs.Marks.{IsMarking, IsBegun, AreLeading}

-- what is kept is the slice of the seeds with its accesses expanded
pub record IsSliced (f : Facts) (seeds : List NodeId) (ms : List (Option Method)) (s : State) : Type 0 where
  pub expansions : AreExpansions f s.expansions
  pub pairs : AreWhole f (Widened f s.expansions) ms s.pairs
  pub needed : AreNeeded f (Widened f s.expansions) seeds s.pairs.asked.items
  pub there : (n : NodeId) → Contains seeds n → Contains (found s.up) n
  pub up : AreNodesOf f s.up
  pub up_leads : AreLeading (Widened f s.expansions) seeds Up (found s.up)
  pub up_steps : IsMarking f (Widened f s.expansions) Up ms s.pairs.asked.items (length (found s.up)) (found s.up)
  pub ups : (n : NodeId) → Contains (found s.up) n → Contains (found s.down) n
  pub down : AreNodesOf f s.down
  pub down_leads : AreLeading (Widened f s.expansions) seeds Down (found s.down)
  pub down_steps : IsMarking f (Widened f s.expansions) Down ms s.pairs.asked.items (length (found s.down)) (found s.down)

-- it is part of that slice. What follows from the pairs of some nodes and by steps back from them may be missing, and steps back
-- from others than the first `ups` nodes of the first phase
pub record IsGrowing (f : Facts) (seeds again : List NodeId) (ups : ℕ) (ms : List (Option Method)) (s : State) : Type 0 where
  pub expansions : AreExpansions f s.expansions
  pub nodes : (n : NodeId) → Contains again n → n.0 < count f
  pub pairs : ArePairs f (Widened f s.expansions) ms s.pairs
  pub done : IsDone f (Widened f s.expansions) (Has f s.pairs) (Either (Waits f s.pairs) (AtNodes again))
  pub needed : AreNeeded f (Widened f s.expansions) seeds s.pairs.asked.items
  pub there : (n : NodeId) → Contains seeds n → Contains (found s.up) n
  pub up : AreNodesOf f s.up
  pub up_leads : AreLeading (Widened f s.expansions) seeds Up (found s.up)
  pub up_begun : IsBegun f (Widened f s.expansions) Up again ms s.pairs.asked.items ups (found s.up)
  pub down : AreNodesOf f s.down
  pub down_leads : AreLeading (Widened f s.expansions) seeds Down (found s.down)
  pub down_begun : IsBegun f (Widened f s.expansions) Down again ms s.pairs.asked.items (length (found s.down)) (found s.down)

-- the same pairs, by method
pub record AreSameFound (ts ts' : List Found) : Type 0 where
  pub len : length ts' ≡ length ts
  pub got : (m : ℕ) → got_of ts' m ≡ got_of ts m
  pub todo : (m : ℕ) → todo_of ts' m ≡ todo_of ts m
  pub waits : (m : ℕ) → waits_of ts' m ≡ waits_of ts m

pub record IsSameMarked (x y : MarkedNodes) : Type 0 where
  pub marks : y.marks.items ≡ x.marks.items
  pub order : y.order.items ≡ x.order.items
  pub count : y.count ≡ x.count

-- a copy, in which nothing waits
pub record IsCopyOf (x y : State) : Type 0 where
  pub accesses : y.expansions.accesses.items ≡ x.expansions.accesses.items
  pub marks : y.expansions.marks.items ≡ x.expansions.marks.items
  pub asked : y.pairs.asked.items ≡ x.pairs.asked.items
  pub found : AreSameFound x.pairs.found.items y.pairs.found.items
  pub queue : y.pairs.queue.items ≡ []
  pub up : IsSameMarked x.up y.up
  pub down : IsSameMarked x.down y.down

use Rattle.std.proofs.Common.{List, take, Contains, subst}
use Rattle.slicer_ids.specs.declared.ids.NodeId.{NodeId}
use Rattle.thin_slice.specs.Marks.{found}
use Rattle.worklists.specs.Growth.{Grows}
use Rattle.widening.proofs.MarkLaws.{marked_low}
use Rattle.widening.proofs.state.add_marked.Goals as goal

pub add_nodes-requires-clause-nodes : goal.add_nodes-requires-clause-nodes
add_nodes-requires-clause-nodes c = λ n k. marked_low c.args.f.now c.args.others.now c.requires.others n (subst (λ (xs : List NodeId). Contains (take c.args.others.now.count xs) n) c.deref.ensures.value k)

pub returns-clause-grown : goal.returns-clause-grown
returns-clause-grown c = subst (λ (xs : List NodeId). Grows (found c.args.marks.now) (found c.add_nodes.new.marks) (Contains (take c.args.others.now.count xs))) c.deref.ensures.value c.add_nodes.ensures.grown

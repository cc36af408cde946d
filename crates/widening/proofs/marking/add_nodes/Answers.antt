use Rattle.std.proofs.Common.{◌∙◌, List, get_or, subst, Contains, arith}
use Rattle.std.proofs.lemmas.List.{take_all}
use Rattle.std.proofs.lemmas.List.Elements.{Contains-get_or}
use Rattle.slicer_ids.specs.declared.ids.NodeId.{NodeId}
use Rattle.worklists.specs.Growth.{Grows}
use Rattle.thin_slice.specs.Marks.{found}
use Rattle.thin_slice.proofs.Starting.{seed_more}
use Rattle.widening.proofs.marking.add_nodes.Goals as goal

pub loop-node-preserved : goal.loop-node-preserved
loop-node-preserved c = record {
  marks = record { set = c.add.ensures.set; size = c.add.ensures.size ∙ c.loop-node.invariant.marks.size };
  grown = seed_more c.args.nodes.now c.loop-node.node-index _ (found c.args.marks.now) (found c.loop-node.marks) (found c.add.new.self) c.loop-node-test.true c.loop-node.invariant.grown c.add.ensures.grown;
}

pub returns-clause-grown : goal.returns-clause-grown
returns-clause-grown c = subst (λ (xs : List NodeId). Grows (found c.args.marks.now) (found c.loop-node.marks) (Contains xs)) (take_all c.loop-node.node-index c.args.nodes.now c.loop-node-test.false) c.loop-node.invariant.grown

pub add-requires-clause-within : goal.add-requires-clause-within
add-requires-clause-within c =
    let none : NodeId = record { 0 = 0 } in
    let k = c.loop-node.node-index in
    omega (arith, c.requires.nodes (get_or c.args.nodes.now k none) (Contains-get_or c.args.nodes.now k none c.loop-node-test.true), c.loop-node.invariant.marks.size)

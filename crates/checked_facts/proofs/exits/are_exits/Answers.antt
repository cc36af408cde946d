use Rattle.slicer_ids.specs.declared.ids.NodeId.{NodeId}
use Rattle.slicer_ids.specs.declared.ids.MethodId.{MethodId}
use Rattle.dep_form.specs.Inputs.{IsExitNode}
use Rattle.checked_facts.proofs.Ranges.{all_next}
use Rattle.checked_facts.proofs.exits.are_exits.Goals as goal

pub loop-n-preserved : goal.loop-n-preserved
loop-n-preserved c =
    all_next (λ (n : NodeId). (m : MethodId) × IsExitNode c.args.inputs.now n m) c.args.exits.now c.loop-n.n-index _ c.loop-n-test.true c.loop-n.invariant
    (c.is_exit_node.ensures c.if-not-is_exit_node.false)

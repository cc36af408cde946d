use Rattle.std.proofs.Common.{sym, subst, List, Contains}
use Rattle.std.proofs.lemmas.List.{take_all}
use Rattle.slicer_ids.specs.declared.ids.NodeId.{NodeId}
use Rattle.thin_slice.proofs.Marking.{nothing_listed}
use Rattle.thin_slice.proofs.marked.unmark.Goals as goal

pub returns-clause-set : goal.returns-clause-set
returns-clause-set c =
    nothing_listed c.loop-node.marks.items (λ n m.
    let left = c.loop-node.invariant.left n m in
    left.1 (subst (λ (xs : List NodeId). Contains xs n) (sym (take_all c.loop-node.node-index c.args.nodes.now c.loop-node-test.false)) (c.requires.marked n left.0)))

use Rattle.std.proofs.Common.{◌≡◌, ◌-◌, List, length, sym, subst}
use Rattle.slicer_ids.proofs.GrowingOrder.{reworded}
use Rattle.slicer_ids.specs.Sets.{IsOrderedListOf}
use Rattle.slicer_ids.specs.declared.ids.MethodId.{MethodId}
use Rattle.slicer_ids.specs.declared.ids.NodeId.{NodeId}
use Rattle.dep_form.specs.Inputs.{IsExitNode}
use Rattle.dep_form.specs.WithinFacts.{NodeBefore}
use Rattle.worklists.proofs.Growing.{FromBelow}
use Rattle.exit_lists.specs.Exits.{IsExitOf}
use Rattle.exit_lists.proofs.Rising.{to_exit, from_exit}
use Rattle.exit_lists.proofs.collecting.exits.Goals as goal

pub returns : goal.returns
returns c =
    let inputs = c.args.inputs.now in
    let count = c.saturating_sub-methods.result in
    let all : count ≡ length inputs - 1 = c.saturating_sub-methods.ensures in
    subst (λ (xs : List NodeId). IsOrderedListOf NodeBefore xs (λ n. (m : MethodId) × IsExitNode inputs n m)) (sym c.from_vec.ensures)
    (reworded NodeBefore c.in_ok-exits.exits.items (FromBelow (IsExitOf inputs) count) (λ n. (m : MethodId) × IsExitNode inputs n m) (to_exit inputs count all) (from_exit inputs count all) c.in_ok-exits.ensures)

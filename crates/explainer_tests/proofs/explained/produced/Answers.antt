use Rattle.std.proofs.Common.{◌<◌, List, All, Contains, sym, subst}
use Rattle.slicer_ids.specs.declared.ids.Mode.TheVariants.{Thin}
use Rattle.slicer_ids.specs.declared.ids.NodeId.{NodeId}
use Rattle.slicer_ids.specs.declared.ids.Statement.{Statement}
use Rattle.slicer_ids.specs.Order.{StatementBefore}
use Rattle.slicer_ids.specs.Sets.{IsOrderedListOf}
use Rattle.dep_form.specs.Firsts.{node_count}
use Rattle.dep_form.specs.Slices.{StatementsOf}
use Rattle.session_slices.specs.Needs.{SliceOf}
use Rattle.session_slices.proofs.Slicing.{object_nodes}
use Rattle.explainer_tests.proofs.explained.produced.Goals as goal

pub find_from-requires-clause-seeds : goal.find_from-requires-clause-seeds
find_from-requires-clause-seeds g c =
    subst (λ (ns : List NodeId). All (λ (n : NodeId). n.0 < node_count c.args.f.now.inputs) ns) (sym c.items.ensures) (object_nodes c.args.f.now c.requires.access.0 c.args.a.now c.requires.access.1)

pub returns : goal.returns
returns g c = record {
  statements =
      subst (λ (ns : List NodeId). IsOrderedListOf StatementBefore c.in_ok-statements.statements.items (StatementsOf c.args.f.now.inputs (SliceOf c.args.f.now Thin (Contains ns)))) c.items.ensures
      (subst (λ (ss : List Statement). IsOrderedListOf StatementBefore ss (StatementsOf c.args.f.now.inputs (SliceOf c.args.f.now Thin (Contains c.items.result.now)))) (sym c.in_ok-statements.ensures) c.in_ok-find_from.ensures.statements);
}

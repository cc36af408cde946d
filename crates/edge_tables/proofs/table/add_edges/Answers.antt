use Rattle.std.proofs.Common.{◌≡◌, ◌⊎◌, ◌↔◌, List, Contains, inl, inr, sym, subst}
use Rattle.dep_form.specs.declared.node.Node.{Node}
use Rattle.dep_form.specs.declared.node.Node.TheVariants.{HeapArg}
use Rattle.mod_ref.proofs.Gaining.{gains_both}
use Rattle.mod_ref.proofs.Touched.{both_told}
use Rattle.edge_tables.specs.Calls.{BackFlow, IntoFlow}
use Rattle.edge_tables.specs.Rows.{IsFlowEdge}
use Rattle.edge_tables.specs.Table.{LocalFlow, OtherFlow}
use Rattle.edge_tables.proofs.Joined.{other_is}
use Rattle.edge_tables.proofs.table.add_edges.Goals as goal

pub returns : goal.returns
returns c = λ p of.
    let y = c.args.scene.now in
    let s = y.system.now in
    both_told c.add_back.result c.args.edges.now.items c.add_into.new.edges.items c.add_back.new.edges.items
    (λ x. IsFlowEdge y.rows.now y.firsts.now (LocalFlow p s) c.args.m x ⊎ IsFlowEdge y.rows.now y.firsts.now (IntoFlow s y.entries.now) c.args.m x) (IsFlowEdge y.rows.now y.firsts.now (BackFlow s y.entries.now) c.args.m) (IsFlowEdge y.rows.now y.firsts.now (OtherFlow p s y.entries.now) c.args.m)
    (other_is p s y.entries.now y.rows.now y.firsts.now c.args.m)
    (gains_both c.args.edges.now.items c.add_local.new.edges.items c.add_into.new.edges.items (IsFlowEdge y.rows.now y.firsts.now (LocalFlow p s) c.args.m) (IsFlowEdge y.rows.now y.firsts.now (IntoFlow s y.entries.now) c.args.m) (c.in_ok-add_local.ensures p of) c.in_ok-add_into.ensures) c.add_back.ensures

pub add_local-requires-clause-calls : goal.add_local-requires-clause-calls
add_local-requires-clause-calls c = λ root j n among.
    let (v, at, same, first) = c.row_of-row.ensures.row in
    c.requires.scene.root c.args.m v root at j n (subst (λ (ns : List Node). Contains ns (HeapArg j n)) (sym same) among)

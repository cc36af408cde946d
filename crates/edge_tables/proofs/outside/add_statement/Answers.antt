use Rattle.std.proofs.Common.{List, sym, subst}
use Rattle.dep_form.specs.declared.call_site.CallSite.{CallSite}
use Rattle.method_facts.specs.Calls.{IsCallAt}
use Rattle.mod_ref.proofs.Gaining.{gains_none}
use Rattle.mod_ref.proofs.Touched.{told}
use Rattle.edge_tables.specs.Outside.{IsCallEdge, IsStatementEdge}
use Rattle.edge_tables.proofs.OutsideEdges.{statement_is}
use Rattle.edge_tables.proofs.outside.add_statement.Goals as goal

pub returns-in-None : goal.returns-in-None
returns-in-None c = gains_none c.args.edges.now.items (IsStatementEdge c.args.row.now.first c.args.row.now.nodes.now c.args.scene.now.system.now c.args.t c.args.i) (λ x h. c.in-None.ensures h.0 (subst (λ (ks : List CallSite). IsCallAt ks c.args.t h.0) (sym c.items.ensures) h.1))

pub returns-in-Some : goal.returns-in-Some
returns-in-Some c =
    let first = c.args.row.now.first in
    let nodes = c.args.row.now.nodes.now in
    let s = c.args.scene.now.system.now in
    told c.add_call.result c.args.edges.now.items c.add_call.new.edges.items (IsCallEdge first nodes s c.in-Some.c c.args.t.pc c.args.i) (IsStatementEdge first nodes s c.args.t c.args.i)
    (statement_is first nodes s c.args.t c.args.i c.requires.scene.placed c.in-Some.c (subst (λ (ks : List CallSite). IsCallAt ks c.args.t c.in-Some.c) c.items.ensures c.in-Some.ensures)) c.add_call.ensures

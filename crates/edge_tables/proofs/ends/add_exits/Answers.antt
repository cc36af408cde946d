use Rattle.std.proofs.Common.{◌≡◌, ◌↔◌, List, Contains, sym, subst}
use Rattle.dep_form.specs.declared.node.Edge.{Edge}
use Rattle.edge_tables.specs.Ends.{EndFlow}
use Rattle.edge_tables.specs.Rows.{IsLocalEdge}
use Rattle.edge_tables.proofs.EndFlows.{appended, ends_are}
use Rattle.edge_tables.proofs.ends.add_exits.Goals as goal

pub returns : goal.returns
returns c = λ p of handlers.
    let first = c.args.row.now.first in
    let nodes = c.args.row.now.nodes.now in
    appended c.append.result c.args.edges.now.items c.as_slice.result.now c.append.new.edges.items (IsLocalEdge first nodes (EndFlow p c.args.m))
    (λ x.
    let is = c.in_ok-exits.ensures.members p of.bodies_are of.coded handlers x in
    let same = ends_are p c.args.m first nodes x in
    (λ h. same.0 (is.0 (subst (λ (es : List Edge). Contains es x) c.as_slice.ensures.value h)), λ h. subst (λ (es : List Edge). Contains es x) (sym c.as_slice.ensures.value) (is.1 (same.1 h)))) c.append.ensures

use Rattle.std.proofs.Common.{◌≡◌, ℕ, List, sym, subst, ◌∙◌}
use Rattle.std.proofs.lemmas.Option.{same_Some}
use Rattle.dep_form.specs.declared.rules.OutsideRule.{OutsideRule}
use Rattle.mod_ref.proofs.Gaining.{gains_none}
use Rattle.mod_ref.proofs.Touched.{told}
use Rattle.edge_tables.specs.Outside.{IsArgumentEdge, IsCallEdge}
use Rattle.edge_tables.proofs.OutsideEdges.{call_is}
use Rattle.edge_tables.proofs.outside.add_call.Goals as goal

pub returns-then-goes_outside : goal.returns-then-goes_outside
returns-then-goes_outside c =
    let first = c.args.row.now.first in
    let nodes = c.args.row.now.nodes.now in
    let s = c.args.scene.now.system.now in
    told c.add_argument.result c.args.edges.now.items c.add_argument.new.edges.items (IsArgumentEdge first nodes c.items.result.now c.args.pc c.args.i) (IsCallEdge first nodes s c.args.c c.args.pc c.args.i)
    (call_is first nodes s c.args.c c.args.pc c.args.i (c.goes_outside.ensures.some s c.requires.scene.solved c.if-goes_outside.true) c.rule_of-rule.result.now c.rule_of-rule.ensures c.items.result.now c.items.ensures) c.add_argument.ensures

pub returns-else-goes_outside : goal.returns-else-goes_outside
returns-else-goes_outside c =
    let s = c.args.scene.now.system.now in
    gains_none c.args.edges.now.items (IsCallEdge c.args.row.now.first c.args.row.now.nodes.now s c.args.c c.args.pc c.args.i)
    (λ x h. c.goes_outside.ensures.none s h.0.0 c.requires.scene.solved c.if-goes_outside.false h.0.1)

use Rattle.std.proofs.Common.{◌≡◌, List, Some, sym, subst, ◌∙◌}
use Rattle.std.proofs.lemmas.Option.{same_Some, slice_get_within}
use Rattle.std.proofs.lemmas.Result.{on_ok_weaker}
use Rattle.class_form.specs.declared.body.Body.{Body}
use Rattle.class_form.specs.declared.body.Instr.{Instr}
use Rattle.dep_form.proofs.Searching.{all_at}
use Rattle.worklists.specs.Growth.{FromOne}
use Rattle.node_tables.specs.Rows.{IsBodyAt}
use Rattle.node_tables.specs.Scenes.{IsInOrder}
use Rattle.node_tables.specs.Segments.{AddsNodes}
use Rattle.node_tables.specs.Statements.{AtInstr}
use Rattle.node_tables.proofs.InstrLoops.{body_nodes}
use Rattle.node_tables.proofs.rows.add_body.Goals as goal

pub body_at-body-requires : goal.body_at-body-requires
body_at-body-requires c = slice_get_within c.args.scene.now.bodies.now c.args.number c.requires.number.0 c.requires.number.1.0

pub add_instrs-requires-clause-order : goal.add_instrs-requires-clause-order
add_instrs-requires-clause-order c = all_at IsInOrder c.args.scene.now.bodies.now c.requires.scene.ordered c.args.number c.body_at-body.result.now c.body_at-body.ensures

pub returns : goal.returns
returns c =
    let x = c.args.scene.now in
    let bodies = x.bodies.now in
    let b = c.body_at-body.result.now in
    let is = subst (λ (z : Body). IsBodyAt bodies c.args.m c.args.number z) (same_Some c.requires.number.0 b (sym c.requires.number.1.0 ∙ c.body_at-body.ensures)) c.requires.number.1 in
    on_ok_weaker c.add_instrs.result
    (λ h. body_nodes x c.requires.scene.bodies c.args.m c.args.number b c.args.nodes.now.items c.add_instrs.new.nodes.items is
    (subst (λ (xs : List Instr). AddsNodes c.args.nodes.now.items c.add_instrs.new.nodes.items (FromOne (AtInstr x.system.now x.effects.now b) xs)) c.items.ensures h)) c.add_instrs.ensures

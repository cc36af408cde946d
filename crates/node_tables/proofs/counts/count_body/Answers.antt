use Rattle.std.proofs.Common.{◌≡◌, List, Some, sym, subst, ◌∙◌}
use Rattle.std.proofs.lemmas.Option.{same_Some, slice_get_within}
use Rattle.std.proofs.lemmas.Result.{IfOk-weaker}
use Rattle.class_form.specs.declared.body.Body.{Body}
use Rattle.class_form.specs.declared.body.Instr.{Instr}
use Rattle.dep_form.proofs.Searching.{all_at}
use Rattle.worklists.specs.Growth.{FromOne}
use Rattle.node_tables.specs.Rows.{AtBody, HasNodes, IsBodyAt}
use Rattle.node_tables.specs.Scenes.{IsInOrder}
use Rattle.node_tables.specs.Statements.{AtInstr}
use Rattle.node_tables.proofs.NodeCounts.{body_counted}
use Rattle.node_tables.proofs.counts.count_body.Goals as goal

pub body_at-body-requires : goal.body_at-body-requires
body_at-body-requires c = slice_get_within c.args.scene.now.bodies.now c.args.number c.requires.number.0 c.requires.number.1.0

pub count_instrs-requires-clause-order : goal.count_instrs-requires-clause-order
count_instrs-requires-clause-order c = all_at IsInOrder c.args.scene.now.bodies.now c.requires.scene.ordered c.args.number c.body_at-body.result.now c.body_at-body.ensures

pub returns : goal.returns
returns c =
    let x = c.args.scene.now in
    let bodies = x.bodies.now in
    let b = c.body_at-body.result.now in
    let is = subst (λ (z : Body). IsBodyAt bodies c.args.m c.args.number z) (same_Some c.requires.number.0 b (sym c.requires.number.1.0 ∙ c.body_at-body.ensures)) c.requires.number.1 in
    IfOk-weaker c.count_instrs.result (λ n. HasNodes (FromOne (AtInstr x.system.now x.effects.now b) c.items.result.now) n) (λ n. HasNodes (AtBody x c.args.m) n)
    (λ n h. body_counted x c.requires.scene.bodies c.args.m c.args.number b n is (subst (λ (xs : List Instr). HasNodes (FromOne (AtInstr x.system.now x.effects.now b) xs) n) c.items.ensures h)) c.count_instrs.ensures

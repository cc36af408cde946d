use Rattle.std.proofs.Common.{◌<◌, List, [], refl, sym, subst}
use Rattle.class_form.specs.declared.body.Instr.{Instr}
use Rattle.class_form.specs.declared.body.Point.{Point}
use Rattle.worklists.specs.Growth.{FromOne}
use Rattle.variable_tables.specs.Growth.{GrowsInOrder}
use Rattle.variable_tables.specs.Statements.{Rises, ArePoints, PointHas}
use Rattle.variable_tables.proofs.InOrder.{grows_rising, grows_start, from_whole, from_nothing, chosen_all}
use Rattle.variable_tables.proofs.Orders.{points_rise}
use Rattle.variable_tables.proofs.statements.pcs_of.Goals as goal

pub loop-point-init : goal.loop-point-init
loop-point-init c =
    subst (λ zs. GrowsInOrder Rises [] zs (FromOne (PointHas c.args.kind c.args.body.now.instrs) [])) (sym c.new-pcs.ensures.items)
    (grows_start Rises (λ x. ⊥) (PointHas c.args.kind c.args.body.now.instrs) [])

pub loop-point-preserved : goal.loop-point-preserved
loop-point-preserved c =
    let items = c.items-point-items.result.now in
    grows_rising Rises (λ x. ⊥) (λ (p q : Point). p.pc < q.pc) (PointHas c.args.kind c.args.body.now.instrs) items c.loop-point.point-index c.point-item.result
    [] c.loop-point.pcs.items c.push_point.new.pcs.items
    (subst ArePoints (sym c.items-point-items.ensures) c.requires.points) (points_rise c.args.kind c.args.body.now.instrs) c.loop-point-test.true c.point-item.is c.loop-point.invariant
    (subst (λ (is : List Instr). GrowsInOrder Rises c.loop-point.pcs.items c.push_point.new.pcs.items (PointHas c.args.kind is c.point-item.result)) c.items.ensures c.in_ok-push_point.ensures)

pub returns : goal.returns
returns c =
    let items = c.items-point-items.result.now in
    let R = PointHas c.args.kind c.args.body.now.instrs in
    let whole = from_whole Rises (λ x. ⊥) R items c.loop-point.point-index [] c.loop-point.pcs.items c.loop-point-test.false c.loop-point.invariant in
    chosen_all Rises c.loop-point.pcs.items (FromOne R c.args.body.now.shape.points)
    (from_nothing Rises (λ x. ⊥) [] c.loop-point.pcs.items (FromOne R c.args.body.now.shape.points) refl
    (subst (λ (ps : List Point). GrowsInOrder Rises [] c.loop-point.pcs.items (FromOne R ps)) c.items-point-items.ensures whole))

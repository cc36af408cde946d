use Rattle.std.proofs.Common.{◌<◌, List, sym, subst, Contains}
use Rattle.class_form.specs.declared.body.Point.{Point}
use Rattle.worklists.specs.Growth.{FromOne}
use Rattle.variable_tables.specs.Growth.{GrowsBut}
use Rattle.variable_tables.specs.Statements.{ArePoints}
use Rattle.variable_tables.specs.Operands.{OperandBefore, HasDefinition, IsReadThere}
use Rattle.variable_tables.proofs.InOrder.{grows_rising, grows_start, from_whole}
use Rattle.variable_tables.proofs.Orders.{places_rise}
use Rattle.variable_tables.proofs.operands.push_body.Goals as goal

pub loop-point-init : goal.loop-point-init
loop-point-init c = λ p of has. grows_start OperandBefore (HasDefinition p c.args.methods.now) (IsReadThere p c.args.body.now) c.args.operands.now.items

pub push_statement-requires : goal.push_statement-requires
push_statement-requires c =
    let items = c.items-point-items.result.now in
    let x = c.point-item.result in
    let among : Contains items x = (c.loop-point.point-index, c.loop-point-test.true, sym c.point-item.is) in
    record { order = c.requires.order; has = c.requires.has; body = c.requires.body; point = subst (λ (ps : List Point). Contains ps x) c.items-point-items.ensures among }

pub loop-point-preserved : goal.loop-point-preserved
loop-point-preserved c = λ p of has.
    let items = c.items-point-items.result.now in
    let x = c.point-item.result in
    let b = c.args.body.now in
    grows_rising OperandBefore (HasDefinition p c.args.methods.now) (λ (q r : Point). q.pc < r.pc) (IsReadThere p b) items c.loop-point.point-index x
    c.args.operands.now.items c.loop-point.operands.items c.push_statement.new.operands.items
    (subst ArePoints (sym c.items-point-items.ensures) c.requires.body.flow.order) (places_rise p b) c.loop-point-test.true c.point-item.is (c.loop-point.invariant p of has)
    (c.in_ok-push_statement.ensures p of has)

pub returns : goal.returns
returns c = λ p of has.
    let items = c.items-point-items.result.now in
    let R = IsReadThere p c.args.body.now in
    let whole = from_whole OperandBefore (HasDefinition p c.args.methods.now) R items c.loop-point.point-index c.args.operands.now.items c.loop-point.operands.items c.loop-point-test.false
    (c.loop-point.invariant p of has) in
    subst (λ (ps : List Point). GrowsBut OperandBefore (HasDefinition p c.args.methods.now) c.args.operands.now.items c.loop-point.operands.items (FromOne R ps)) c.items-point-items.ensures whole

use Rattle.std.proofs.Common.{arith}
use Rattle.worklists.proofs.Growing.{FromBelow}
use Rattle.variable_tables.specs.Operands.{OperandBefore, IsDefined, IsReadAt, IsReadBy}
use Rattle.variable_tables.proofs.InOrder.{grows_none, grows_next, grows_same}
use Rattle.variable_tables.proofs.Orders.{operands_rise}
use Rattle.variable_tables.proofs.Reading.{below_to, below_from}
use Rattle.variable_tables.proofs.operands.push_operands.Goals as goal

pub loop-operand-init : goal.loop-operand-init
loop-operand-init c =
    grows_none OperandBefore (IsDefined c.args.methods.now c.args.body.now) c.args.operands.now.items _ (λ k f. absurd (omega (arith, f.1)))

pub loop-operand-preserved : goal.loop-operand-preserved
loop-operand-preserved c =
    let b = c.args.body.now in
    let pc = c.args.point.now.pc in
    grows_next OperandBefore (IsDefined c.args.methods.now b) (IsReadAt b pc c.args.op c.args.arguments) c.loop-operand.operand
    c.args.operands.now.items c.loop-operand.operands.items c.push_operand.new.operands.items
    (λ i x y lt. operands_rise b pc c.args.op c.args.arguments i c.loop-operand.operand x y lt) c.loop-operand.invariant c.in_ok-push_operand.ensures

pub returns : goal.returns
returns c =
    let b = c.args.body.now in
    let pc = c.args.point.now.pc in
    grows_same OperandBefore (IsDefined c.args.methods.now b) c.args.operands.now.items c.loop-operand.operands.items
    (FromBelow (IsReadAt b pc c.args.op c.args.arguments) c.loop-operand.operand) (IsReadBy b pc c.args.op c.args.arguments) (IsDefined c.args.methods.now b)
    (below_to b pc c.args.op c.args.arguments c.loop-operand.operand) (below_from b pc c.args.op c.args.arguments c.loop-operand.operand (omega arith) (omega arith))
    (λ k r d. d) (λ k r d. d) c.loop-operand.invariant

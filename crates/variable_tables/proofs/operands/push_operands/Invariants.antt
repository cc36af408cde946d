use Rattle.worklists.proofs.Growing.{FromBelow}
use Rattle.variable_tables.specs.Growth.{GrowsBut}
use Rattle.variable_tables.specs.Operands.{OperandBefore, IsDefined, IsReadAt}
use Rattle.variable_tables.proofs.operands.push_operands.Given as goal

abbrev pub invariant-loop-operand : goal.invariant-loop-operand
invariant-loop-operand l =
    GrowsBut OperandBefore (IsDefined l.methods l.body) l.initial.operands.items l.operands.items (FromBelow (IsReadAt l.body l.point.pc l.op l.arguments) l.operand)

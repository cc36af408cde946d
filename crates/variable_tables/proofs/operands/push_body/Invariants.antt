use Rattle.std.proofs.Common.{take, Contains}
use Rattle.worklists.specs.Growth.{FromOne}
use Rattle.program_form.specs.Programs.{Program}
use Rattle.signature_tables.specs.Programs.{IsOfClasses}
use Rattle.variable_tables.specs.Growth.{GrowsBut}
use Rattle.variable_tables.specs.Operands.{OperandBefore, HasDefinition, IsReadThere}
use Rattle.variable_tables.proofs.operands.push_body.Given as goal

abbrev pub invariant-loop-point : goal.invariant-loop-point
invariant-loop-point l = (p : Program) → IsOfClasses l.h p → Contains p.bodies l.body →
    GrowsBut OperandBefore (HasDefinition p l.methods) l.initial.operands.items l.operands.items (FromOne (IsReadThere p l.body) (take l.point-index l.point-items))

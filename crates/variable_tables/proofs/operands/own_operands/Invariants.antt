use Rattle.std.proofs.Common.{◌≡◌, [], take}
use Rattle.worklists.specs.Growth.{FromOne}
use Rattle.class_form.specs.declared.body.Body.{Body}
use Rattle.program_form.specs.Programs.{Program}
use Rattle.signature_tables.specs.Programs.{IsOfClasses}
use Rattle.variable_tables.specs.Growth.{GrowsBut}
use Rattle.variable_tables.specs.Operands.{OperandBefore, HasDefinition, IsReadThere}
use Rattle.variable_tables.proofs.operands.own_operands.Given as goal

abbrev pub invariant-loop-body : goal.invariant-loop-body
invariant-loop-body l = (p : Program) → IsOfClasses l.h p → p.bodies ≡ l.bodies →
    GrowsBut OperandBefore (HasDefinition p l.methods) [] l.operands.items (FromOne (λ (b : Body). FromOne (IsReadThere p b) b.shape.points) (take l.body-index l.bodies))

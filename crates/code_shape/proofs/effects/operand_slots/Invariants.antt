use Rattle.std.proofs.Common.{◌≡◌, ◌≤◌, ◌*◌, take}
use Rattle.class_form.specs.Shapes.{operand_slots}
use Rattle.code_shape.proofs.effects.operand_slots.Given as goal

abbrev pub invariant-loop-operand : goal.invariant-loop-operand
invariant-loop-operand l = (l.slots ≡ operand_slots (take l.operand-index l.operands)) × (l.slots ≤ 255 * l.operand-index)

use Rattle.std.proofs.Common.{All, take}
use Rattle.class_form.specs.Shapes.{HasLocal}
use Rattle.code_shape.proofs.locals.check_locals.Given as goal

abbrev pub invariant-loop-instr : goal.invariant-loop-instr
invariant-loop-instr l = All (HasLocal l.body) (take l.instr-index l.instrs)

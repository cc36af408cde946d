use Rattle.std.specs.Prelude.{take}
use Rattle.worklists.specs.Growth.{Grows, FromOne}
use Rattle.dep_form.specs.declared.system.System.{System}
use Rattle.program_form.specs.Programs.{Program}
use Rattle.variable_tables.specs.Tables.{HasVariables}
use Rattle.constraint_rules.specs.Slots.{IsNumberOfUse}
use Rattle.constraint_rules.proofs.definitions.push_uses.Given as goal

abbrev pub invariant-loop-slot_use : goal.invariant-loop-slot_use
invariant-loop-slot_use l = (p : Program) (s : System) → HasVariables s l.variables →
    Grows l.initial.vars.items l.vars.items (FromOne (IsNumberOfUse p s l.body l.point.pc l.operand) (take l.slot_use-index l.slot_use-items))

use Rattle.std.specs.Prelude.{take}
use Rattle.worklists.specs.Growth.{Grows, FromOne}
use Rattle.class_form.specs.declared.body.Def.{Def}
use Rattle.dep_form.specs.declared.system.System.{System}
use Rattle.program_form.specs.Programs.{Program}
use Rattle.program_form.specs.Facts.{variable_of}
use Rattle.program_form.specs.Systems.{VariableNumber}
use Rattle.variable_tables.specs.Tables.{HasVariables}
use Rattle.constraint_rules.proofs.definitions.push_numbers.Given as goal

abbrev pub invariant-loop-def : goal.invariant-loop-def
invariant-loop-def l = (p : Program) (s : System) → HasVariables s l.variables →
    Grows l.initial.vars.items l.vars.items (FromOne (λ (d : Def). VariableNumber p s (variable_of l.method d)) (take l.def-index l.defs))

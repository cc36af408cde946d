-- The variables of the definitions that hold in a slot.
use Rattle.std.specs.Prelude.{◌≡◌, ℕ, List, None}
use Rattle.slicer_ids.specs.declared.ids.Statement.{Statement}
use Rattle.class_form.specs.Reaching.{HoldsAt}
use Rattle.class_form.specs.declared.body.Body.{Body}
use Rattle.class_form.specs.declared.body.Def.{Def}
use Rattle.class_form.specs.declared.body.SlotUse.{SlotUse}
use Rattle.dep_form.specs.declared.rules.Var.{Var}
use Rattle.dep_form.specs.declared.rules.Rule.{Rule}
use Rattle.dep_form.specs.declared.system.System.{System}
use Rattle.program_form.specs.Programs.{Program}
use Rattle.program_form.specs.Facts.{variable_of}
use Rattle.program_form.specs.Systems.{VariableNumber}
use Rattle.constraint_form.specs.Variables.{Meaning, Operand, StandsFor}
use Rattle.constraint_rules.specs.Forms.{CopyOf}

-- a definition that holds in the slot before the instruction at a program counter has this variable
abbrev pub IsNumberIn : Program → System → Body → ℕ → ℕ → Var → Type 0
IsNumberIn p s b pc slot x = (d : Def) × HoldsAt b.shape pc slot d × VariableNumber p s (variable_of b.method d) x

-- .. in a slot that the operand uses
abbrev pub IsNumberOfUse : Program → System → Body → ℕ → ℕ → SlotUse → Var → Type 0
IsNumberOfUse p s b pc operand u x = (u.operand ≡ operand) × IsNumberIn p s b pc u.slot x

-- .. and the operand has a variable of its own, to which it is copied
abbrev pub IsJoinedBy : Program → System → List Meaning → Statement → Body → SlotUse → Rule → Type 0
IsJoinedBy p s names t b u r = CopyOf (IsNumberIn p s b t.pc u.slot) (λ y. StandsFor names y (Operand t u.operand)) None r

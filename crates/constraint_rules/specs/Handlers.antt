-- Handlers as they stand in the code of a method.
use Rattle.std.specs.Prelude.{◌≡◌, ◌<◌, ◌≤◌, ℕ, List, Option, Contains}
use Rattle.slicer_ids.specs.declared.ids.ClassId.{ClassId}
use Rattle.slicer_ids.specs.declared.ids.Statement.{Statement}
use Rattle.class_form.specs.declared.class_file.Attribute.{Attribute}
use Rattle.class_form.specs.declared.class_file.Content.TheVariants.{Code}
use Rattle.class_form.specs.declared.class_file.CodeBody.{CodeBody}
use Rattle.class_form.specs.declared.class_file.Handler.{Handler}
use Rattle.dep_form.specs.declared.rules.Rule.{Rule}
use Rattle.dep_form.specs.declared.system.System.{System}
use Rattle.program_form.specs.Programs.{Program}
use Rattle.program_form.specs.Facts.{CaughtAt}
use Rattle.program_form.specs.Systems.{VariableNumber}
use Rattle.constraint_form.specs.Variables.{Meaning}
use Rattle.constraint_form.specs.Rules.{IsRaisedAs, IsHandlerFilter}
use Rattle.constraint_rules.specs.Forms.{CopyOf}

-- the range of the handler has the program counter
abbrev pub Covers : ℕ → Handler → Type 0
Covers pc h = (h.start ≤ pc) × (pc < h.end)

abbrev pub IsCatchAll : ℕ → Handler → Type 0
IsCatchAll pc h = (h.catch_type ≡ 0) × Covers pc h

-- the handler catches what the statement raises
abbrev pub IsCaughtBy : Program → System → List Meaning → Statement → Handler → Rule → Type 0
IsCaughtBy p s names t h r =
    (keep : Option ClassId) × IsHandlerFilter p t h keep
    × CopyOf (IsRaisedAs p s names t) (VariableNumber p s (CaughtAt t.method h.handler)) keep r

-- .. one of those of an attribute that cover it
abbrev pub IsCaughtIn : Program → System → List Meaning → Statement → Attribute → Rule → Type 0
IsCaughtIn p s names t a r =
    (c : CodeBody) × (a.content ≡ Code c) × (h : Handler) × Contains c.handlers h × Covers t.pc h × IsCaughtBy p s names t h r

abbrev pub IsAllCaughtIn : ℕ → Attribute → Type 0
IsAllCaughtIn pc a = (c : CodeBody) × (a.content ≡ Code c) × (h : Handler) × Contains c.handlers h × IsCatchAll pc h

-- The constraints of a program, in order of their methods.
use Rattle.std.specs.Prelude.{◌≡◌, ◌≤◌, List, All, Contains, map}
use Rattle.slicer_ids.specs.declared.ids.MethodId.{MethodId}
use Rattle.slicer_ids.specs.declared.ids.Statement.{Statement}
use Rattle.dep_form.specs.declared.rules.Rule.{Rule}
use Rattle.dep_form.specs.declared.rules.Constraint.{Constraint}
use Rattle.dep_form.specs.declared.system.System.{System}
use Rattle.program_form.specs.Programs.{Program}
use Rattle.constraint_form.specs.Variables.{Meaning}
use Rattle.constraint_rules.specs.Settings.{IsPlaced, place_of}
use Rattle.constraint_rules.specs.Statements.{IsRuleAt}
use Rattle.constraint_rules.specs.declared.tables.Reachable.{Reachable}
use Rattle.constraints.specs.Places.{IsStatement}

abbrev pub MethodRises : Constraint → Constraint → Type 0
MethodRises a b = a.method.0 ≤ b.method.0

-- one of the rules, where the method is reached
abbrev pub IsOneOf : MethodId → List Rule → Constraint → Type 0
IsOneOf m rules c = (c.method ≡ m) × Contains rules c.rule

-- a constraint of the instruction
abbrev pub IsConstraintAt : Program → System → List Meaning → Reachable → Constraint → Type 0
IsConstraintAt p s names x c = (c.method ≡ x.body.now.method) × IsRuleAt p s names (place_of x) c.rule

-- the instructions are those of all statements of the program
pub record AreAllPlaces (p : Program) (xs : List Reachable) : Type 0 where
  pub each : All (IsPlaced p) xs
  pub whole : (t : Statement) → IsStatement p t → Contains (map place_of xs) t

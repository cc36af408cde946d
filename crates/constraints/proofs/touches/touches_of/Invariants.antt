use Rattle.std.proofs.Common.{List, [], take}
use Rattle.std.specs.Prelude.{All}
use Rattle.worklists.specs.Growth.{FromOne}
use Rattle.dep_form.specs.declared.system.System.{System}
use Rattle.program_form.specs.Programs.{Program}
use Rattle.constraint_form.specs.Variables.{Meaning}
use Rattle.variable_tables.specs.Growth.{GrowsInOrder}
use Rattle.constraint_rules.specs.Settings.{IsSetting, IsPlaced}
use Rattle.constraints.specs.Touches.{TouchRises}
use Rattle.constraints.proofs.OfTouches.{OfPlace}
use Rattle.constraints.proofs.touches.touches_of.Given as goal

abbrev pub invariant-loop-x : goal.invariant-loop-x
invariant-loop-x l = (p : Program) (s : System) (names : List Meaning) → IsSetting l.t p s names → All (IsPlaced p) l.places
    → GrowsInOrder TouchRises [] l.touches.items (FromOne (OfPlace p s names) (take l.x-index l.places))

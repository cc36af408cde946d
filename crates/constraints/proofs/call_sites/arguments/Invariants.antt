use Rattle.std.proofs.Common.{◌≡◌, List, length}
use Rattle.dep_form.specs.declared.system.System.{System}
use Rattle.program_form.specs.Programs.{Program}
use Rattle.constraint_form.specs.Variables.{Meaning}
use Rattle.constraint_rules.specs.Settings.{IsSetting, IsPlaced, place_of}
use Rattle.constraints.specs.Calls.{AreArguments}
use Rattle.constraints.proofs.call_sites.arguments.Given as goal

abbrev pub invariant-loop-i : goal.invariant-loop-i
invariant-loop-i l = record {
  size : length l.vars.items ≡ l.i;
  each : (p : Program) (s : System) (names : List Meaning) → IsSetting l.t p s names → IsPlaced p l.x → AreArguments p s names (place_of l.x) l.vars.items;
}

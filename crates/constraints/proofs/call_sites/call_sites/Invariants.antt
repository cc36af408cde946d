use Rattle.std.proofs.Common.{List, [], take}
use Rattle.std.specs.Prelude.{map, All}
use Rattle.worklists.specs.Growth.{FromOne}
use Rattle.dep_form.specs.declared.system.System.{System}
use Rattle.program_form.specs.Programs.{Program}
use Rattle.constraint_form.specs.Variables.{Meaning}
use Rattle.variable_tables.specs.Growth.{GrowsInOrder}
use Rattle.variable_tables.specs.Tables.{thrown_by_call}
use Rattle.constraint_rules.specs.Settings.{IsSetting, IsPlaced}
use Rattle.constraints.specs.Calls.{IsKnownCall, ThrownBefore, IsThrownAt}
use Rattle.constraints.proofs.call_sites.call_sites.Given as goal

abbrev pub invariant-loop-x : goal.invariant-loop-x
invariant-loop-x l = record {
  thrown : (p : Program) (s : System) (names : List Meaning) → IsSetting l.t p s names → All (IsPlaced p) l.places
      → GrowsInOrder ThrownBefore [] (map thrown_by_call l.calls.items) (FromOne (IsThrownAt l.t.variables.now.exceptions) (take l.x-index l.places));
  known : (p : Program) (s : System) (names : List Meaning) → IsSetting l.t p s names → All (IsPlaced p) l.places → All (IsKnownCall p s names) l.calls.items;
}

use Rattle.std.proofs.Common.{◌≡◌, length, Some}
use Rattle.std.specs.Prelude.{slice_get}
use Rattle.slicer_ids.specs.declared.ids.MethodId.{MethodId}
use Rattle.dep_form.specs.declared.rules.MethodVars.{MethodVars}
use Rattle.program_form.specs.Programs.{Program}
use Rattle.signature_tables.specs.Programs.{IsOfClasses}
use Rattle.variable_tables.specs.Tables.{AreNumbered, IsOfMethod}
use Rattle.variable_tables.proofs.method_vars.all_methods.Given as goal

abbrev pub invariant-loop-number : goal.invariant-loop-number
invariant-loop-number l = record {
  size : length l.methods.items ≡ l.number;
  numbers : AreNumbered l.initial.fresh.next l.methods.items l.fresh.next;
  each : (p : Program) → IsOfClasses l.h p → p.bodies ≡ l.bodies → (m : MethodId) (v : MethodVars) → slice_get l.methods.items m.0 ≡ Some v → IsOfMethod p m v;
}

-- What the parts that nodes are read from keep.
use Rattle.std.specs.Prelude.{◌≡◌, ◌<◌, ◌≤◌, ◌↔◌, ℕ, Bool, true, List, All, Some, length, slice_get}
use Rattle.std.specs.Ordering.{nat_cmp}
use Rattle.slicer_ids.specs.declared.ids.MethodId.{MethodId}
use Rattle.class_form.specs.declared.body.Body.{Body}
use Rattle.class_form.specs.declared.body.Instr.{Instr}
use Rattle.class_form.specs.declared.body.Point.{Point}
use Rattle.dep_form.specs.Constraints.{IsMethodVars}
use Rattle.dep_form.specs.Effects.{IsModRefOf}
use Rattle.dep_form.specs.Orders.{RiseBy}
use Rattle.dep_form.specs.Solutions.{IsSolutionOf}
use Rattle.dep_form.specs.declared.rules.MethodVars.{MethodVars}
use Rattle.program_form.specs.Programs.{Program}
use Rattle.program_code.specs.Codes.{IsProgramOfCode}
use Rattle.constraint_form.specs.Asked.{IsReadProgram}
use Rattle.constraint_form.specs.ConstraintSystems.{IsConstraintSystem}
use Rattle.fact_form.specs.EntryCalls.{AreEntryCalls, IsGiven}
use Rattle.fact_form.specs.NodeNumbers.{IsAnswering}
use Rattle.mod_ref.specs.Direct.{IsSmall}
use Rattle.method_facts.specs.Calls.{ArePlaced}
use Rattle.node_tables.specs.declared.scene.Scene.{Scene}

-- instructions and points are in order of their program counters
pub record IsInOrder (b : Body) : Type 0 where
  pub instrs : RiseBy nat_cmp (λ (i : Instr). i.pc) b.instrs
  pub points : RiseBy nat_cmp (λ (t : Point). t.pc) b.shape.points

pub record IsScene (x : Scene) : Type 0 where
  pub solved : IsSolutionOf x.system.now x.solution.now
  pub effects : IsModRefOf x.system.now x.effects.now
  pub small : IsSmall x.system.now
  pub placed : ArePlaced x.system.now.calls
  pub formals : (m : MethodId) (v : MethodVars) → IsMethodVars x.system.now m v → length v.formals ≤ 256
  pub bodies : RiseBy nat_cmp (λ (b : Body). b.method.0) x.bodies.now
  pub ordered : All IsInOrder x.bodies.now
  pub answering : length x.answering.now ≡ length x.system.now.methods
  pub few_entries : length x.entries.now ≤ 65536
  pub entered : All (λ (t : MethodId). t.0 < length x.system.now.methods) x.entries.now
  pub given : length x.given.now ≡ length x.entries.now
  pub gives : (k : ℕ) (t : MethodId) (b : Bool) → slice_get x.entries.now k ≡ Some t → slice_get x.given.now k ≡ Some b → (b ≡ true) ↔ IsGiven x.system.now t

-- the program that the parts are those of
pub record IsProgramOf (x : Scene) (p : Program) : Type 0 where
  pub bodies : p.bodies ≡ x.bodies.now
  pub asked : IsReadProgram p
  pub coded : IsProgramOfCode p
  pub constraints : IsConstraintSystem p x.system.now
  pub entry_calls : AreEntryCalls p x.system.now x.entries.now
  pub answers : (m : MethodId) (b : Bool) → slice_get x.answering.now m.0 ≡ Some b → (b ≡ true) ↔ IsAnswering p m

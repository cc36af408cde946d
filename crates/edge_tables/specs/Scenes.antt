-- What the parts keep that edges are read from.
use Rattle.std.specs.Prelude.{◌≡◌, ◌<◌, ◌≤◌, ◌+◌, ◌^◌, ℕ, suc, List, Some, All, Contains, length, slice_get}
use Rattle.std.specs.Global.{Vec}
use Rattle.slicer_ids.specs.declared.ids.LocId.{LocId}
use Rattle.slicer_ids.specs.declared.ids.MethodId.{MethodId}
use Rattle.dep_form.specs.declared.node.Node.{Node}
use Rattle.dep_form.specs.declared.node.Node.TheVariants.{HeapArg}
use Rattle.dep_form.specs.Constraints.{IsRoot}
use Rattle.std.specs.Ordering.{nat_cmp}
use Rattle.class_form.specs.ClassRules.{IsClassFile}
use Rattle.class_form.specs.declared.body.Body.{Body}
use Rattle.dep_form.specs.Orders.{RiseBy}
use Rattle.dep_form.specs.Solutions.{IsSolutionOf}
use Rattle.program_form.specs.Programs.{Program}
use Rattle.fact_form.specs.Handed.{IsProgramWith}
use Rattle.mod_ref.specs.Direct.{IsSmall}
use Rattle.method_facts.specs.Calls.{ArePlaced}
use Rattle.node_tables.specs.Scenes.{IsInOrder}
use Rattle.edge_tables.specs.declared.scene.Scene.{Scene}
use Rattle.edge_tables.specs.Rows.{AreRows}

pub record IsScene (x : Scene) : Type 0 where
  pub files : All IsClassFile x.h.now
  pub bodies : RiseBy nat_cmp (λ (b : Body). b.method.0) x.bodies.now
  pub ordered : All IsInOrder x.bodies.now
  pub solved : IsSolutionOf x.system.now x.solution.now
  pub small : IsSmall x.system.now
  pub placed : ArePlaced x.system.now.calls
  pub rows : AreRows x.rows.now x.firsts.now
  pub count : length x.rows.now ≡ suc (length x.system.now.methods)
  pub root : (m : MethodId) (row : Vec Node) → IsRoot x.system.now m → slice_get x.rows.now m.0 ≡ Some row → (j : ℕ) (n : LocId) → Contains row.items (HeapArg j n) → j < length x.entries.now
  pub few_entries : length x.entries.now ≤ 65536
  pub numbers : length x.system.now.calls + length x.entries.now < 2 ^ 32

-- the program that the parts are those of
abbrev pub IsOfProgram : Scene → Program → Type 0
IsOfProgram x p = IsProgramWith x.h.now x.bodies.now x.system.now p

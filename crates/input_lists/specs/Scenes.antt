-- What the parts keep that inputs are made of.
use Rattle.std.specs.Prelude.{◌≡◌, ◌<◌, ◌^◌, true, false, All, length, map}
use Rattle.std.specs.Global.{Vec}
use Rattle.dep_form.specs.declared.node.Node.{Node}
use Rattle.dep_form.specs.declared.effects.ModRef.{ModRef}
use Rattle.dep_form.specs.Effects.{IsModRefOf}
use Rattle.fact_form.specs.EntryCalls.{AreEntryCalls}
use Rattle.fact_form.specs.FactTables.{AreNodeRows}
use Rattle.program_form.specs.Programs.{Program}
use Rattle.edge_tables.specs.declared.scene.Scene.{Scene as EdgeScene}
use Rattle.edge_tables.specs.Links.{AreLinks}
use Rattle.edge_tables.specs.Scenes.{IsOfProgram, IsScene as IsEdgeScene}
use Rattle.input_tables.specs.Edges.{HasReach}
use Rattle.input_tables.specs.Effects.{IsHeapOf}
use Rattle.input_tables.specs.Scenes.{IsScene as IsHeapScene}
use Rattle.input_lists.specs.declared.scene.Scene.{Scene}

-- a program has these parts, and the rows are those of its nodes
abbrev pub IsNumberedProgram : EdgeScene → ModRef → Program → Type 0
IsNumberedProgram x mr p =
    IsOfProgram x p × AreEntryCalls p x.system.now x.entries.now
    × AreNodeRows p x.system.now mr x.entries.now (map (λ (row : Vec Node). row.items) x.rows.now)

-- what edges are read from, of some program
pub record IsNumberedScene (x : EdgeScene) (mr : ModRef) : Type 0 where
  pub edges : IsEdgeScene x
  pub reaches : All HasReach x.bodies.now
  pub effects : IsModRefOf x.system.now mr
  pub few : length mr.locations < 2 ^ 32
  pub program : (p : Program) × IsNumberedProgram x mr p

-- .. with the calls, and with the definitions and uses of locations
pub record IsScene (x : Scene) : Type 0 where
  pub numbered : IsNumberedScene x.edges x.effects.effects.now
  pub system : x.effects.system.now ≡ x.edges.system.now
  pub heap_scene : IsHeapScene x.effects
  pub heap : IsHeapOf x.effects.system.now x.effects.effects.now x.heap.now.puts.items x.heap.now.fresh.items x.heap.now.gets.items x.heap.now.reads.items
  pub by_target : AreLinks true x.edges.system.now x.edges.entries.now x.links.now.by_target.items
  pub by_caller : AreLinks false x.edges.system.now x.edges.entries.now x.links.now.by_caller.items

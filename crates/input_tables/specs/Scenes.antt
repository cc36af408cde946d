-- What the parts keep that definitions and uses of locations are read from.
use Rattle.std.specs.Prelude.{◌<◌, ◌^◌, length}
use Rattle.dep_form.specs.Effects.{IsModRefOf}
use Rattle.dep_form.specs.Solutions.{IsSolutionOf}
use Rattle.mod_ref.specs.Direct.{IsSmall}
use Rattle.method_facts.specs.Calls.{ArePlaced}
use Rattle.input_tables.specs.declared.scene.Scene.{Scene}

pub record IsScene (x : Scene) : Type 0 where
  pub solved : IsSolutionOf x.system.now x.solution.now
  pub effects : IsModRefOf x.system.now x.effects.now
  pub small : IsSmall x.system.now
  pub few : length x.effects.now.locations < 2 ^ 32
  pub placed : ArePlaced x.system.now.calls

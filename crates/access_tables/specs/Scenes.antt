-- What the parts keep that accesses are read from.
use Rattle.std.specs.Prelude.{◌≡◌}
use Rattle.input_tables.specs.Edges.{IsGround}
use Rattle.value_tables.specs.Methods.{IsMethod}
use Rattle.access_tables.specs.declared.scene.Scene.{Scene}

pub record IsScene (x : Scene) : Type 0 where
  pub method : IsMethod x.method
  pub ground : IsGround x.ground
  pub points : x.ground.points.now ≡ x.method.body.now.shape.points

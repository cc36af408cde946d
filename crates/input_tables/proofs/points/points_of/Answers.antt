use Rattle.std.proofs.Common.{refl}
use Rattle.input_tables.proofs.ControlFlow.{no_points}
use Rattle.input_tables.proofs.points.points_of.Goals as goal

pub returns-in-None : goal.returns-in-None
returns-in-None c = no_points c.args.bodies.now c.args.m _ refl c.in-None.ensures

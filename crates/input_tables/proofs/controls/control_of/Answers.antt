use Rattle.input_tables.proofs.ControlFlow.{no_control}
use Rattle.input_tables.proofs.controls.control_of.Goals as goal

pub returns-in-None : goal.returns-in-None
returns-in-None c = no_control c.args.bodies.now c.args.m c.no_control.result.points c.no_control.result.flow.items c.no_control.ensures.points c.no_control.ensures.flow c.in-None.ensures

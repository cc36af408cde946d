use Rattle.mod_ref.proofs.Touched.{told}
use Rattle.input_tables.specs.Control.{IsStepTo, IsStepToFound}
use Rattle.input_tables.proofs.ControlFlow.{step_to}
use Rattle.input_tables.proofs.flow.add_pc.Goals as goal

pub returns : goal.returns
returns c = told c.add_step.result c.args.steps.now.items c.add_step.new.steps.items (IsStepToFound c.args.from c.point_of-found.result) (IsStepTo c.args.points.now c.args.from c.args.pc) (step_to c.args.points.now c.args.from c.args.pc c.point_of-found.result c.point_of-found.ensures) c.add_step.ensures

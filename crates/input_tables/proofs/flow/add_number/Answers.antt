use Rattle.mod_ref.proofs.Touched.{told}
use Rattle.input_tables.specs.Control.{IsStepAt, IsStepFrom}
use Rattle.input_tables.proofs.ControlFlow.{step_at}
use Rattle.input_tables.proofs.flow.add_number.Goals as goal

pub returns : goal.returns
returns c = told c.add_point.result c.args.steps.now.items c.add_point.new.steps.items (IsStepFrom c.args.points.now c.point_at-point.result.now c.args.q) (IsStepAt c.args.points.now c.args.q) (step_at c.args.points.now c.args.q c.point_at-point.result.now c.point_at-point.ensures) c.add_point.ensures

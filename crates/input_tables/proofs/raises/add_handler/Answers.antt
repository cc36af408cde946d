use Rattle.std.proofs.Common.{Some}
use Rattle.mod_ref.proofs.Touched.{told}
use Rattle.input_tables.specs.Control.{IsStepToFound}
use Rattle.input_tables.specs.Edges.{IsRaise}
use Rattle.input_tables.proofs.RowEdges.{raise_found}
use Rattle.input_tables.proofs.raises.add_handler.Goals as goal

pub returns : goal.returns
returns c = told c.add_step.result c.args.steps.now.items c.add_step.new.steps.items (IsStepToFound c.args.h (Some c.args.q)) (IsRaise c.args.q c.args.h) (raise_found c.args.q c.args.h) c.add_step.ensures

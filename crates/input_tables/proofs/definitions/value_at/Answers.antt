use Rattle.input_tables.proofs.RowEdges.{no_value, value_is}
use Rattle.input_tables.proofs.definitions.value_at.Goals as goal

pub returns-in-None : goal.returns-in-None
returns-in-None c = λ k. (λ e. absurd (cc e), λ h. absurd (no_value c.args.points.now c.args.pc c.op_at.result c.op_at.ensures c.in-None.is k h))

pub returns-in-Some : goal.returns-in-Some
returns-in-Some c = value_is c.args.points.now c.args.pc c.in-Some.op c.op_at.result c.value_node.result c.op_at.ensures c.in-Some.is c.value_node.ensures

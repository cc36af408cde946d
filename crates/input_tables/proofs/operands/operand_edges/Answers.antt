use Rattle.input_tables.proofs.OperandEdges.{no_edges}
use Rattle.input_tables.proofs.operands.operand_edges.Goals as goal

pub returns-in-None-clause-members : goal.returns-in-None-clause-members
returns-in-None-clause-members c = no_edges c.args.bodies.now c.args.m c.args.first c.args.row.now c.new.result.items c.new.ensures.items c.in-None.ensures

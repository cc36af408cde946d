use Rattle.input_tables.proofs.ExitEdges.{no_exits}
use Rattle.input_tables.proofs.exits.exit_edges.Goals as goal

pub returns-in-None-clause-members : goal.returns-in-None-clause-members
returns-in-None-clause-members c = no_exits c.args.bodies.now c.args.m c.args.handlers.now c.args.first c.args.row.now c.new.result.items c.new.ensures.items c.in-None.ensures

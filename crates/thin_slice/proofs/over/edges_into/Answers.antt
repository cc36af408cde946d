use Rattle.std.proofs.Common.{◌-◌}
use Rattle.thin_slice.proofs.Callees.{are_into, edges_rise}
use Rattle.thin_slice.proofs.over.edges_into.Goals as goal

pub returns-clause-into : goal.returns-clause-into
returns-clause-into c = are_into c.args.f.now c.requires.0 c.args.n c.args.graph.now c.requires.1 c.requires.2 c.incoming.result.now c.incoming.ensures

pub returns-clause-rise : goal.returns-clause-rise
returns-clause-rise c = edges_rise c.incoming.result.now (c.requires.2.2.edges (c.args.n.0 - c.args.graph.now.first.0) c.incoming.result.now c.incoming.ensures).order

use Rattle.dep_form.specs.Phases.{edge}
use Rattle.dep_form.specs.declared.node.Label.TheVariants.{Return}
use Rattle.thin_slice.proofs.Ends.{start_below, exit_there}
use Rattle.thin_slice.proofs.over.over.Goals as goal

pub over_seen-requires-clause-within : goal.over_seen-requires-clause-within
over_seen-requires-clause-within g c = start_below c.args.f.now (edge c.args.x (Return c.args.c.call) c.requires.edge.0) c.requires.edge.1

pub returns-in-None-clause-grown : goal.returns-in-None-clause-grown
returns-in-None-clause-grown g c = absurd (exit_there c.args.f.now c.args.x c.requires.edge.0 c.args.c.call c.requires.edge.1 c.in-None.ensures)

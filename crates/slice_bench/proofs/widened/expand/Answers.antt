use Rattle.std.proofs.Common.{◌≡◌, ◌∙◌}
use Rattle.slice_bench.proofs.widened.expand.Goals as goal

pub returns-clause-graphs : goal.returns-clause-graphs
returns-clause-graphs g c = (c.expand.ensures.graphs.0, g.met.G.Graphs.later_facts c.args.graphs.now c.expand.new.graphs c.expand.ensures.graphs.1 ∙ c.requires.graphs.1)

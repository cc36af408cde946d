use Rattle.std.proofs.Common.{◌≡◌, ◌∙◌}
use Rattle.widening_tests.proofs.widened.expand_each.Goals as goal

pub loop-access-init : goal.loop-access-init
loop-access-init g c = record { graphs = (c.requires.graphs.0, g.met.G.Graphs.later_refl c.args.graphs.now); wide = c.requires.wide }

pub loop-access-preserved : goal.loop-access-preserved
loop-access-preserved g c = record {
  graphs = (c.expand.ensures.graphs.0, g.met.G.Graphs.later_trans c.args.graphs.now c.loop-access.graphs c.expand.new.graphs c.loop-access.invariant.graphs.1 c.expand.ensures.graphs.1);
  wide = c.expand.ensures.wide;
}

pub expand-requires-clause-graphs : goal.expand-requires-clause-graphs
expand-requires-clause-graphs g c = (c.loop-access.invariant.graphs.0, g.met.G.Graphs.later_facts c.args.graphs.now c.loop-access.graphs c.loop-access.invariant.graphs.1 ∙ c.requires.graphs.1)

use Rattle.std.proofs.Common.{Some, length-set, refl, ap, not, ◌∙◌}
use Rattle.method_graph.proofs.Keeping.{has_place, set_right, set_kept, set_made, none_at, some_at}
use Rattle.method_graph.proofs.own.OwnGraphs.make.Goals as goal

pub returns-in_ok-graph-clause-own : goal.returns-in_ok-graph-clause-own
returns-in_ok-graph-clause-own c = record {
  size = length-set c.args.self.now.graphs.items c.args.m.0 (Some c.in_ok-graph.graph) ∙ c.requires.own.size;
  right = set_right c.args.self.now.facts.now.inputs c.args.self.now.graphs.items c.args.m c.in_ok-graph.graph (has_place c.args.self.now.facts.now.inputs c.args.self.now.graphs.items c.args.m c.requires.inside c.requires.own.size) (c.input.result.now, c.input.ensures, c.in_ok-graph.ensures) c.requires.own.right;
}

pub returns-in_ok-graph-clause-kept : goal.returns-in_ok-graph-clause-kept
returns-in_ok-graph-clause-kept c = (refl, set_kept c.args.self.now.graphs.items c.args.m.0 c.in_ok-graph.graph (none_at c.args.self.now.graphs.items c.args.m.0 c.index.result.now (has_place c.args.self.now.facts.now.inputs c.args.self.now.graphs.items c.args.m c.requires.inside c.requires.own.size) c.index.ensures (c.is_none.ensures ∙ ap not c.if-is_none.true)))

pub returns-in_ok-graph-clause-made : goal.returns-in_ok-graph-clause-made
returns-in_ok-graph-clause-made c = (c.in_ok-graph.graph, set_made c.args.self.now.graphs.items c.args.m.0 c.in_ok-graph.graph (has_place c.args.self.now.facts.now.inputs c.args.self.now.graphs.items c.args.m c.requires.inside c.requires.own.size))

pub returns-else-is_none-clause-made : goal.returns-else-is_none-clause-made
returns-else-is_none-clause-made c = some_at c.args.self.now.graphs.items c.args.m.0 c.index.result.now (has_place c.args.self.now.facts.now.inputs c.args.self.now.graphs.items c.args.m c.requires.inside c.requires.own.size) c.index.ensures (c.is_none.ensures ∙ ap not c.if-is_none.false)

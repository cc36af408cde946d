use Rattle.std.proofs.Common.{◌≡◌, ◌<◌, ◌∙◌}
use Rattle.std.proofs.lemmas.List.Elements.{All-contains}
use Rattle.slicer_ids.specs.declared.ids.NodeId.{NodeId}
use Rattle.dep_form.specs.Firsts.{node_count}
use Rattle.slice_bench.proofs.widened.sliced.Goals as goal

pub new-requires-clause-seeds : goal.new-requires-clause-seeds
new-requires-clause-seeds g c = λ n k. All-contains (λ (m : NodeId). m.0 < node_count c.args.f.now.inputs) c.args.seeds.now n c.requires.seeds k

pub returns-clause-graphs : goal.returns-clause-graphs
returns-clause-graphs g c = (c.new.ensures.graphs.0, g.met.G.Graphs.later_facts c.args.graphs.now c.new.new.graphs c.new.ensures.graphs.1 ∙ c.requires.graphs.1)

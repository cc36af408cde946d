use Rattle.std.proofs.Common.{◌≡◌, ◌<◌, ◌∙◌}
use Rattle.std.proofs.lemmas.List.Elements.{All-contains}
use Rattle.slicer_ids.specs.declared.ids.NodeId.{NodeId}
use Rattle.dep_form.specs.Firsts.{node_count}
use Rattle.widening_tests.proofs.widened.widened.Goals as goal

pub new-requires-2-clause-seeds : goal.new-requires-2-clause-seeds
new-requires-2-clause-seeds g c = λ n k. All-contains (λ (m : NodeId). m.0 < node_count c.args.f.now.inputs) c.args.seeds.now n c.requires k

pub expand_each-requires-clause-graphs : goal.expand_each-requires-clause-graphs
expand_each-requires-clause-graphs g c = (c.new-2.ensures.graphs.0, c.new-2.ensures.graphs.1.0 ∙ c.in_ok-graphs.ensures.1)

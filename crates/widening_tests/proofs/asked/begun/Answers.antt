use Rattle.std.proofs.Common.{◌≡◌, ◌<◌}
use Rattle.std.proofs.lemmas.List.Elements.{All-contains}
use Rattle.slicer_ids.specs.declared.ids.NodeId.{NodeId}
use Rattle.dep_form.specs.Firsts.{node_count}
use Rattle.widening_tests.proofs.asked.begun.Goals as goal

pub new-requires-2-clause-seeds : goal.new-requires-2-clause-seeds
new-requires-2-clause-seeds g c = λ n k. All-contains (λ (m : NodeId). m.0 < node_count c.args.f.now.inputs) c.args.seeds.now n c.requires k

use Rattle.std.proofs.Common.{◌<◌, List, All, sym, subst}
use Rattle.slicer_ids.specs.declared.ids.NodeId.{NodeId}
use Rattle.dep_form.specs.Firsts.{node_count}
use Rattle.session_slices.proofs.Slicing.{object_nodes}
use Rattle.session_tests.proofs.slices.produced.Goals as goal

pub find_from-requires-clause-seeds : goal.find_from-requires-clause-seeds
find_from-requires-clause-seeds g c =
    subst (λ (ns : List NodeId). All (λ (n : NodeId). n.0 < node_count c.args.f.now.inputs) ns) (sym c.items.ensures) (object_nodes c.args.f.now c.requires.0 c.args.a.now c.requires.1)

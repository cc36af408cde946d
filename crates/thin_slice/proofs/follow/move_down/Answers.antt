use Rattle.dep_form.specs.Slices.{ModeEdges}
use Rattle.worklists.specs.Growth.{FromOne}
use Rattle.worklists.proofs.Growing.{Grows-same}
use Rattle.thin_slice.specs.declared.needs.Phase.TheVariants.{Down}
use Rattle.thin_slice.specs.Marks.{found}
use Rattle.thin_slice.specs.Steps.{FollowsOne, Moves}
use Rattle.thin_slice.proofs.Callees.{starts_below}
use Rattle.thin_slice.proofs.Stepping.{moved, all_moved}
use Rattle.thin_slice.proofs.follow.move_down.Goals as goal

pub follow_edges-requires-clause-within : goal.follow_edges-requires-clause-within
follow_edges-requires-clause-within c = starts_below c.args.f.now c.args.n c.edges_into-edges.result.now c.edges_into-edges.ensures.into

pub returns-clause-grown : goal.returns-clause-grown
returns-clause-grown c =
    let inputs = c.args.f.now.inputs in
    let es = c.edges_into-edges.result.now in
    let into = c.edges_into-edges.ensures.into in
    Grows-same (found c.args.nodes.now) (found c.follow_edges.new.nodes) (FromOne (FollowsOne c.args.mode Down) es) (Moves (ModeEdges inputs c.args.mode) Down c.args.n)
    (moved inputs c.args.n c.args.mode Down es into) (all_moved inputs c.args.n c.args.mode Down es into) c.follow_edges.ensures.grown

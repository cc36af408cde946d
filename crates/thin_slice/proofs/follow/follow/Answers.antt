use Rattle.std.proofs.Common.{get_or, inl, inr, ◌⊎◌}
use Rattle.std.proofs.lemmas.List.Elements.{Contains-get_or}
use Rattle.slicer_ids.specs.declared.ids.NodeId.{NodeId}
use Rattle.dep_form.specs.Slices.{ModeEdges}
use Rattle.worklists.specs.Growth.{FromOne}
use Rattle.worklists.proofs.Growing.{Grows-then}
use Rattle.thin_slice.specs.Marks.{found}
use Rattle.thin_slice.specs.Steps.{FollowsOne, PassesOver, GoesBack}
use Rattle.thin_slice.proofs.Callees.{starts_below}
use Rattle.thin_slice.proofs.Stepping.{moved, all_moved, passed, all_passed}
use Rattle.thin_slice.proofs.follow.follow.Goals as goal

pub follow_edges-requires-clause-within : goal.follow_edges-requires-clause-within
follow_edges-requires-clause-within g c = starts_below c.args.f.now c.args.n c.args.edges.now c.requires.edges

pub pass_edges-requires-clause-edges : goal.pass_edges-requires-clause-edges
pass_edges-requires-clause-edges g c = λ k d lt. let es = c.args.edges.now in ((c.requires.edges (get_or es k d)).0 (Contains-get_or es k d lt)).0

pub pass_edges-requires-clause-served : goal.pass_edges-requires-clause-served
pass_edges-requires-clause-served g c = λ k d lt. let es = c.args.edges.now in c.requires.served (get_or es k d) (Contains-get_or es k d lt)

pub returns-clause-grown : goal.returns-clause-grown
returns-clause-grown g c =
    let inputs = c.args.f.now.inputs in
    let n = c.args.n in
    let mode = c.args.mode in
    let phase = c.args.phase in
    let es = c.args.edges.now in
    let into = c.requires.edges in
    let E = ModeEdges inputs mode in
    let P : NodeId → Type 0 = FromOne (FollowsOne mode phase) es in
    let Q : NodeId → Type 0 = FromOne (PassesOver E) es in
    let to : (q : NodeId) → GoesBack E phase n q → P q ⊎ Q q = λ q h. elim h [ inl x ↦ inl (all_moved inputs n mode phase es into q x) | inr x ↦ inr (all_passed inputs n mode es into q x) ] in
    let from : (q : NodeId) → P q ⊎ Q q → GoesBack E phase n q = λ q h. elim h [ inl x ↦ inl (moved inputs n mode phase es into q x) | inr x ↦ inr (passed inputs n mode es into q x) ] in
    Grows-then (found c.args.nodes.now) (found c.follow_edges.new.nodes) (found c.pass_edges.new.nodes) P Q (GoesBack E phase n) to from c.follow_edges.ensures.grown c.pass_edges.ensures.grown

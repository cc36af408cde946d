use Rattle.std.proofs.Common.{◌⊎◌, List, Contains, get_or, inl, inr, subst}
use Rattle.std.proofs.lemmas.List.Elements.{Contains-get_or}
use Rattle.slicer_ids.specs.declared.ids.NodeId.{NodeId}
use Rattle.slicer_ids.specs.declared.ids.Mode.TheVariants.{Full}
use Rattle.dep_form.specs.declared.node.Edge.{Edge}
use Rattle.thin_slice.specs.Marks.{found}
use Rattle.thin_slice.specs.Steps.{GoesBack, FollowsOne}
use Rattle.worklists.specs.Growth.{Grows, FromOne}
use Rattle.worklists.proofs.Growing.{Grows-then}
use Rattle.widening.specs.Edges.{Widened, AreInto}
use Rattle.widening.specs.Marks.{OverEdge}
use Rattle.widening.proofs.MarkLaws.{to_moves, from_moves, to_passes, from_passes, from_nothing, starts_low, over_edges_low}
use Rattle.widening.proofs.marking.mark_back.Goals as goal

pub follow_edges-requires-clause-within : goal.follow_edges-requires-clause-within
follow_edges-requires-clause-within c = λ k d lt.
    let es : List Edge = c.deref-2.result.now in
    let here : Contains c.args.room.now.edges.items (get_or es k d) = subst (λ (ys : List Edge). Contains ys (get_or es k d)) c.deref-2.ensures.value (Contains-get_or es k d lt) in
    starts_low c.args.f.now (Widened c.args.f.now c.args.expansions.now) c.requires.whole.pairs.edges (get_or es k d) ((c.requires.edges (get_or es k d)).0 here).0

pub add_nodes-requires-clause-nodes : goal.add_nodes-requires-clause-nodes
add_nodes-requires-clause-nodes c = λ n k.
    let R = OverEdge c.args.f.now c.args.pairs.now.found.items in
    let nodes : List NodeId = c.pass_edges.new.into.items in
    let es : List Edge = c.args.room.now.edges.items in
    let there : Grows c.clear.new.self.items nodes (FromOne R es) = subst (λ (ys : List Edge). Grows c.clear.new.self.items nodes (FromOne R ys)) c.deref.ensures.value c.in_ok-pass_edges.ensures in
    over_edges_low c.args.f.now c.args.pairs.now.found.items es n (from_nothing c.clear.new.self.items nodes (FromOne R es) c.clear.ensures.items there n (subst (λ (xs : List NodeId). Contains xs n) c.deref-3.ensures.value k))

pub returns-clause-grown : goal.returns-clause-grown
returns-clause-grown c =
    let f = c.args.f.now in
    let E = Widened f c.args.expansions.now in
    let n = c.args.n in
    let phase = c.args.phase in
    let ms = c.args.methods.now.items in
    let pairs = c.args.pairs.now in
    let es : List Edge = c.args.room.now.edges.items in
    let nodes : List NodeId = c.pass_edges.new.into.items in
    let into : AreInto E n es = c.requires.edges in
    let P : NodeId → Type 0 = FromOne (FollowsOne Full phase) es in
    let R = OverEdge f pairs.found.items in
    let there : Grows c.clear.new.self.items nodes (FromOne R es) = subst (λ (ys : List Edge). Grows c.clear.new.self.items nodes (FromOne R ys)) c.deref.ensures.value c.in_ok-pass_edges.ensures in
    let to : (q : NodeId) → GoesBack E phase n q → P q ⊎ Contains nodes q = λ q h. elim h [ inl m ↦ inl (from_moves E n es into phase q m) | inr s ↦ inr (there.all q (from_passes f E ms pairs c.requires.whole n es into c.requires.served q s)) ] in
    let from : (q : NodeId) → P q ⊎ Contains nodes q → GoesBack E phase n q = λ q h. elim h [ inl m ↦ inl (to_moves E n es into phase q m) | inr k ↦ inr (to_passes f E ms pairs c.requires.whole n es into c.requires.served q (from_nothing c.clear.new.self.items nodes (FromOne R es) c.clear.ensures.items there q k)) ] in
    let moved : Grows (found c.args.marks.now) (found c.follow_edges.new.nodes) P = subst (λ (ys : List Edge). Grows (found c.args.marks.now) (found c.follow_edges.new.nodes) (FromOne (FollowsOne Full phase) ys)) c.deref-2.ensures.value c.follow_edges.ensures.grown in
    let added : Grows (found c.follow_edges.new.nodes) (found c.add_nodes.new.marks) (Contains nodes) = subst (λ (ys : List NodeId). Grows (found c.follow_edges.new.nodes) (found c.add_nodes.new.marks) (Contains ys)) c.deref-3.ensures.value c.add_nodes.ensures.grown in
    Grows-then (found c.args.marks.now) (found c.follow_edges.new.nodes) (found c.add_nodes.new.marks) P (Contains nodes) (GoesBack E phase n) to from moved added

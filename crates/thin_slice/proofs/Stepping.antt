-- What a step back along the edges of a node reaches.
use Rattle.std.proofs.Common.{◌≡◌, true, List, Option, refl, sym, ap, subst, inl, inr}
use Rattle.slicer_ids.specs.declared.ids.NodeId.{NodeId}
use Rattle.slicer_ids.specs.declared.ids.CallId.{CallId}
use Rattle.slicer_ids.specs.declared.ids.Mode.{Mode}
use Rattle.slicer_ids.specs.declared.ids.Mode.TheVariants.{Thin as Producers, Full}
use Rattle.dep_form.specs.declared.input.MethodInput.{MethodInput}
use Rattle.dep_form.specs.declared.node.Edge.{Edge}
use Rattle.dep_form.specs.declared.node.Label.{Label}
use Rattle.dep_form.specs.declared.node.Label.TheVariants.{Thin, Base, Call, Return}
use Rattle.dep_form.specs.Inputs.{IsEdge}
use Rattle.dep_form.specs.Phases.{edge}
use Rattle.dep_form.specs.Slices.{ModeEdges}
use Rattle.worklists.specs.Growth.{FromOne}
use Rattle.thin_slice.specs.declared.needs.Phase.{Phase}
use Rattle.thin_slice.specs.declared.needs.Phase.TheVariants.{Up, Down}
use Rattle.thin_slice.specs.Steps.{AreInto, FollowsOne, PassesOver, Passes, Flows, Moves, may_follow, is_full}
use Rattle.thin_slice.proofs.Ends.{IsRawFlow, mode_thin, mode_call, mode_return, raw_thin, raw_call, raw_return, no_base}

pub same_return : (a b : CallId) → Return a ≡ Return b → a ≡ b
same_return a b e = cc

flows_move : (E : Edge → Type 0) (phase : Phase) (n q : NodeId) → Flows E n q → Moves E phase n q
flows_move E Up n q h = inl h
flows_move E Down n q h = inl h

module _ (inputs : List (Option MethodInput)) (n : NodeId) where
  moves_by : (mode : Mode) (phase : Phase) (a : NodeId) (l : Label) → IsEdge inputs (edge a l n) → may_follow mode phase l ≡ true → Moves (ModeEdges inputs mode) phase n a
  moves_by mode phase a Thin h may = flows_move (ModeEdges inputs mode) phase n a (inl (mode_thin inputs mode a n h))
  moves_by Producers phase a Base h may = absurd (cc may)
  moves_by Full phase a Base h may = flows_move (ModeEdges inputs Full) phase n a (inl (edge a Base n, h, refl))
  moves_by mode Up a (Call c) h may = inl' (mode_call inputs mode a n c h)
    where
      inl' : ModeEdges inputs mode (edge a (Call c) n) → Moves (ModeEdges inputs mode) Up n a
      inl' e = inr (c, e)
  moves_by mode Down a (Call c) h may = absurd (cc may)
  moves_by mode Up a (Return c) h may = absurd (cc may)
  moves_by mode Down a (Return c) h may = inr (c, mode_return inputs mode a n c h)

  module _ (mode : Mode) (phase : Phase) (es : List Edge) (into : AreInto inputs n es) where
    pub moved : (q : NodeId) → FromOne (FollowsOne mode phase) es q → Moves (ModeEdges inputs mode) phase n q
    moved q h =
        let e = h.0 in
        let there = (into e).0 h.1 in
        subst (λ a. Moves (ModeEdges inputs mode) phase n a) (sym h.2.1) (moves_by mode phase e.from e.label (subst (λ (x : NodeId). IsEdge inputs (edge e.from e.label x)) there.1 there.0) h.2.0)

    listed_edge : (q : NodeId) (l : Label) → IsEdge inputs (edge q l n) → may_follow mode phase l ≡ true → FromOne (FollowsOne mode phase) es q
    listed_edge q l h may = (edge q l n, (into (edge q l n)).1 (h, refl), (may, refl))

    raw_flow : (q : NodeId) → IsRawFlow inputs mode q n → FromOne (FollowsOne mode phase) es q
    raw_flow q (inl h) = listed_edge q Thin h refl
    raw_flow q (inr h) = listed_edge q Base h.1 (ap is_full h.0)

    flow : (q : NodeId) → Flows (ModeEdges inputs mode) n q → FromOne (FollowsOne mode phase) es q
    flow q (inl h) = raw_flow q (raw_thin inputs mode q n h)
    flow q (inr h) = absurd (no_base inputs mode q n h)

  pub all_moved : (mode : Mode) (phase : Phase) (es : List Edge) → AreInto inputs n es → (q : NodeId) → Moves (ModeEdges inputs mode) phase n q → FromOne (FollowsOne mode phase) es q
  all_moved mode Up es into q (inl h) = flow mode Up es into q h
  all_moved mode Up es into q (inr h) = listed_edge mode Up es into q (Call h.0) (raw_call inputs mode q n h.0 h.1) refl
  all_moved mode Down es into q (inl h) = flow mode Down es into q h
  all_moved mode Down es into q (inr h) = listed_edge mode Down es into q (Return h.0) (raw_return inputs mode q n h.0 h.1) refl

  pub passed : (mode : Mode) (es : List Edge) → AreInto inputs n es → (q : NodeId) → FromOne (PassesOver (ModeEdges inputs mode)) es q → Passes (ModeEdges inputs mode) n q
  passed mode es into q h =
      let e = h.0 in
      let there = (into e).0 h.1 in
      let raw : IsEdge inputs (edge e.from (Return h.2.0) n) = subst (λ l. IsEdge inputs (edge e.from l n)) h.2.1 (subst (λ (x : NodeId). IsEdge inputs (edge e.from e.label x)) there.1 there.0) in
      (h.2.0, e.from, mode_return inputs mode e.from n h.2.0 raw, h.2.2)

  pub all_passed : (mode : Mode) (es : List Edge) → AreInto inputs n es → (q : NodeId) → Passes (ModeEdges inputs mode) n q → FromOne (PassesOver (ModeEdges inputs mode)) es q
  all_passed mode es into q h = (edge h.1 (Return h.0) n, (into (edge h.1 (Return h.0) n)).1 (raw_return inputs mode h.1 n h.0 h.2, refl), (h.0, refl, h.3))

-- What is missing at the nodes of a list.
use Rattle.std.proofs.Common.{◌≡◌, ◌<◌, ◌≤◌, ◌+◌, ℕ, true, false, List, take, get_or, length, Contains, refl, sym, subst, inl, inr}
use Rattle.std.proofs.lemmas.List.{take_more, take_all}
use Rattle.std.proofs.lemmas.List.Elements.{Contains-push_cases}
use Rattle.slicer_ids.specs.declared.ids.MethodId.{MethodId}
use Rattle.slicer_ids.specs.declared.ids.ExitId.{ExitId}
use Rattle.slicer_ids.specs.declared.ids.NodeId.{NodeId}
use Rattle.slicer_ids.specs.declared.ids.Mode.{Mode}
use Rattle.dep_form.specs.declared.node.Edge.{Edge}
use Rattle.dep_form.specs.declared.node.Label.TheVariants.{Return}
use Rattle.dep_form.specs.Inputs.{IsEdge}
use Rattle.dep_form.specs.Phases.{edge}
use Rattle.dep_form.specs.Slices.{ModeEdges}
use Rattle.dep_form.specs.declared.facts.Facts.{Facts}
use Rattle.thin_slice.specs.declared.needs.Go.{Go}
use Rattle.thin_slice.specs.declared.needs.Go.TheVariants.{Finished, NeedsGraph, NeedsRow}
use Rattle.thin_slice.specs.Needs.{IsServed, IsNeedOfEdge, IsNeedIn, IsReturn, IsMetAt, IsStep, is_need}
use Rattle.thin_slice.specs.Steps.{AreInto}
use Rattle.thin_slice.proofs.Ends.{mode_return}

pub still_served : (f : Facts) (Seen : MethodId → Type 0) (Known Known' : ExitId → Type 0) → ((e : ExitId) → Known e → Known' e) → (n : NodeId) → IsServed f Seen Known n → IsServed f Seen Known' n
still_served f Seen Known Known' more n s = record { graph = s.graph; row = λ e at. more e (s.row e at) }

pub none_needed : (f : Facts) (Seen : MethodId → Type 0) (Known : ExitId → Type 0) (e : Edge) (go : Go) → is_need go ≡ false → IsNeedOfEdge f Seen Known e go → IsReturn e.label → IsServed f Seen Known e.from
none_needed f Seen Known e Finished h n = n
none_needed f Seen Known e (NeedsGraph m) h n = absurd cc
none_needed f Seen Known e (NeedsRow x) h n = absurd cc

pub one_needed : (f : Facts) (Seen : MethodId → Type 0) (Known : ExitId → Type 0) (es : List Edge) (e : Edge) (go : Go) → Contains es e → is_need go ≡ true → IsNeedOfEdge f Seen Known e go → IsNeedIn f Seen Known es go
one_needed f Seen Known es e Finished c h n = absurd cc
one_needed f Seen Known es e (NeedsGraph m) c h n = (e, c, n)
one_needed f Seen Known es e (NeedsRow x) c h n = (e, c, n)

-- one more edge, where nothing is missing
pub need_none_more : (f : Facts) (Seen : MethodId → Type 0) (Known Known' : ExitId → Type 0) (es : List Edge) (k : ℕ) (d : Edge) → k < length es → ((e : ExitId) → Known e → Known' e)
    → IsNeedIn f Seen Known (take k es) Finished → (IsReturn (get_or es k d).label → IsServed f Seen Known' (get_or es k d).from) → IsNeedIn f Seen Known' (take (k + 1) es) Finished
need_none_more f Seen Known Known' es k d lt more before this e c back =
    elim (Contains-push_cases (take k es) (get_or es k d) e (subst (λ (xs : List Edge). Contains xs e) (take_more es k d lt) c)) [
      | inl o ↦ still_served f Seen Known Known' more e.from (before e o back)
      | inr is ↦ subst (λ (x : Edge). IsReturn x.label → IsServed f Seen Known' x.from) is this back
    ]

pub need_none_all : (f : Facts) (Seen : MethodId → Type 0) (Known : ExitId → Type 0) (es : List Edge) (k : ℕ) → length es ≤ k → IsNeedIn f Seen Known (take k es) Finished → IsNeedIn f Seen Known es Finished
need_none_all f Seen Known es k le h e c = h e (subst (λ (xs : List Edge). Contains xs e) (sym (take_all k es le)) c)

pub none_in : (f : Facts) (Seen : MethodId → Type 0) (Known : ExitId → Type 0) (es : List Edge) (go : Go) → is_need go ≡ false → IsNeedIn f Seen Known es go → IsNeedIn f Seen Known es Finished
none_in f Seen Known es Finished h n = n
none_in f Seen Known es (NeedsGraph m) h n = absurd cc
none_in f Seen Known es (NeedsRow x) h n = absurd cc

-- a need at the edges into a node is one at an exit that returns to it
module _ (f : Facts) (Seen : MethodId → Type 0) (Known : ExitId → Type 0) (mode : Mode) (n : NodeId) (es : List Edge) (into : AreInto f.inputs n es) where
  met : (e : Edge) → Contains es e → IsReturn e.label → IsMetAt (ModeEdges f.inputs mode) n e.from
  met e c back =
      let there = (into e).0 c in
      let raw : IsEdge f.inputs (edge e.from (Return back.0) n) = subst (λ l. IsEdge f.inputs (edge e.from l n)) back.1 (subst (λ (x : NodeId). IsEdge f.inputs (edge e.from e.label x)) there.1 there.0) in
      inr (back.0, mode_return f.inputs mode e.from n back.0 raw)

  pub need_is_step : (P : NodeId → Type 0) (go : Go) (nodes : List NodeId) → is_need go ≡ true → IsNeedIn f Seen Known es go → IsStep f Seen Known (ModeEdges f.inputs mode) P n go nodes nodes
  need_is_step P Finished nodes h need = absurd cc
  need_is_step P (NeedsGraph m) nodes h need = (refl, need.0.from, met need.0 need.1 need.2.0, need.2.1)
  need_is_step P (NeedsRow e) nodes h need = (refl, need.0.from, met need.0 need.1 need.2.0, need.2.1)

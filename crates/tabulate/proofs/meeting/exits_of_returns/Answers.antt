use Rattle.std.proofs.Common.{◌+◌, ◌<◌, ◌⊎◌, ℕ, List, length, get_or, take, Contains, inl, inr, refl, sym, subst}
use Rattle.std.specs.Prelude.{◌↔◌}
use Rattle.std.proofs.lemmas.List.{take_all}
use Rattle.slicer_ids.specs.declared.ids.ExitId.{ExitId}
use Rattle.dep_form.specs.declared.node.Edge.{Edge}
use Rattle.dep_form.specs.declared.node.Label.TheVariants.{Thin}
use Rattle.tabulate.specs.States.{IsReturnFrom}
use Rattle.tabulate.proofs.Collecting.{take_to, take_from}
use Rattle.tabulate.proofs.meeting.exits_of_returns.Goals as goal

more : (P : ExitId → Edge → Type 0) (into into' : List ExitId) (edges : List Edge) (i : ℕ) (none : Edge) → i < length edges → ((d : ExitId) → Contains into d ↔ ((x : Edge) × Contains (take i edges) x × P d x)) → ((d : ExitId) → Contains into' d ↔ (Contains into d ⊎ P d (get_or edges i none)))
    → (d : ExitId) → Contains into' d ↔ ((x : Edge) × Contains (take (i + 1) edges) x × P d x)
more P into into' edges i none lt old new d = (
  λ c. elim ((new d).0 c) [ inl o ↦ let h = (old d).0 o in (h.0, take_from edges i none h.0 lt (inl h.1), h.2) | inr p ↦ (get_or edges i none, take_from edges i none (get_or edges i none) lt (inr refl), p) ],
  λ h. elim (take_to edges i none h.0 lt h.1) [ inl o ↦ (new d).1 (inl ((old d).1 (h.0, o, h.2))) | inr is ↦ (new d).1 (inr (subst (P d) (sym is) h.2)) ],
)

pub loop-edge-preserved : goal.loop-edge-preserved
loop-edge-preserved c =
    let none : Edge = record { from = record { 0 = 0 }; to = record { 0 = 0 }; label = Thin } in
    more (IsReturnFrom c.args.f.now) c.loop-edge.into.items c.add_exit.new.into.items c.args.edges.now c.loop-edge.edge-index none c.loop-edge-test.true c.loop-edge.invariant c.in_ok-add_exit.ensures

pub returns : goal.returns
returns c = λ d. subst (λ (xs : List Edge). Contains c.loop-edge.into.items d ↔ ((x : Edge) × Contains xs x × IsReturnFrom c.args.f.now d x)) (take_all c.loop-edge.edge-index c.args.edges.now c.loop-edge-test.false) (c.loop-edge.invariant d)

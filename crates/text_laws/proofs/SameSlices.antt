-- The statements of slices are the same.
use Rattle.std.proofs.Common.{List, Contains, refl, ap}
use Rattle.std.specs.Prelude.{◌≢◌}
use Rattle.slicer_ids.specs.declared.ids.NodeId.{NodeId}
use Rattle.slicer_ids.specs.declared.ids.Statement.{Statement}
use Rattle.dep_form.specs.declared.facts.Facts.{Facts}
use Rattle.dep_form.specs.Slices.{Expanded, FullEdges, Slice, FullSlice, NodesOf, StatementsOf}
use Rattle.program_form.specs.Programs.{Program}
use Rattle.program_form.specs.Nodes.{Node}
use Rattle.program_form.specs.Dependences.{Caller}
use Rattle.program_form.specs.Graphs.{Numbering, AreFactsOf}
use Rattle.constraint_form.proofs.OnePlace.{one_place}
use Rattle.session_form.specs.States.{State, InSlice, InFullSlice}
use Rattle.text_laws.proofs.TwoFacts.{AreOfOne}
use Rattle.text_laws.proofs.SameNodes.{Same, belongs, of_statement}
use Rattle.text_laws.proofs.SamePaths.{AreNumberedOnce, in_slice}
use Rattle.text_laws.proofs.SameEdges.{thin_step, full_step}

callers_once : (p : Program) (ms : Numbering) (g : Facts) → AreFactsOf p ms g → AreNumberedOnce ms
callers_once p ms g tie c d who at there = ap (λ k. record { 0 = k }) (one_place (λ (a b : Caller). a ≢ b) ms.calls tie.calls (λ x apart. apart refl) c.0 d.0 who at there)

module _ (p : Program) (ns ms : Numbering) (f g : Facts) (o : AreOfOne p ns ms f g) where
  -- the sets of nodes are one
  abbrev pub AreAlike : (NodeId → Type 0) → (NodeId → Type 0) → Type 0
  AreAlike S T = (a : Node) (n m : NodeId) → Same ns ms f g a n m → S n → T m

  pub thin_there : (X : Statement → Type 0) (S T : NodeId → Type 0) → AreAlike S T → (s : Statement) → StatementsOf f.inputs (Slice f.inputs X S) s →
      StatementsOf g.inputs (Slice g.inputs X T) s
  thin_there X S T alike s (n, slice, is) =
      let a = of_statement p ns ms f g o n s is in (
        a.1,
        in_slice ns ms (callers_once p ms g o.second) f g (Expanded f.inputs X) (Expanded g.inputs X) (thin_step p ns ms f g o X) S T alike a.0 n a.1 a.2 slice,
        belongs p ns ms f g o a.0 n a.1 s a.2 is,
      )

  pub full_there : (S T : NodeId → Type 0) → AreAlike S T → (s : Statement) → StatementsOf f.inputs (FullSlice f.inputs S) s →
      StatementsOf g.inputs (FullSlice g.inputs T) s
  full_there S T alike s (n, slice, is) =
      let a = of_statement p ns ms f g o n s is in (
        a.1,
        in_slice ns ms (callers_once p ms g o.second) f g (FullEdges f.inputs) (FullEdges g.inputs) (full_step p ns ms f g o) S T alike a.0 n a.1 a.2 slice,
        belongs p ns ms f g o a.0 n a.1 s a.2 is,
      )

  seeds_alike : (ss : List Statement) → AreAlike (NodesOf f.inputs (Contains ss)) (NodesOf g.inputs (Contains ss))
  seeds_alike ss a n m same (s, c, is) = (s, c, belongs p ns ms f g o a n m s same is)

  pub in_slice_there : (st : State) (s : Statement) → InSlice f st s → InSlice g st s
  in_slice_there st s h =
      thin_there (Contains st.expanded) (NodesOf f.inputs (Contains st.seeds)) (NodesOf g.inputs (Contains st.seeds)) (seeds_alike st.seeds) s h

  pub in_full_there : (st : State) (s : Statement) → InFullSlice f st s → InFullSlice g st s
  in_full_there st s h = full_there (NodesOf f.inputs (Contains st.seeds)) (NodesOf g.inputs (Contains st.seeds)) (seeds_alike st.seeds) s h

-- A state grows to the whole slice.
use Rattle.std.proofs.Common.{◌≡◌, ◌++◌, ℕ, List, take, Contains, Option, inl, inr, subst, arith}
use Rattle.slicer_ids.specs.declared.ids.NodeId.{NodeId}
use Rattle.slicer_ids.specs.declared.ids.ExitId.{ExitId}
use Rattle.dep_form.specs.declared.facts.Facts.{Facts}
use Rattle.dep_form.specs.declared.node.Edge.{Edge}
use Rattle.thin_slice.specs.declared.needs.Phase.{Phase}
use Rattle.thin_slice.specs.declared.needs.Phase.TheVariants.{Up, Down}
use Rattle.thin_slice.proofs.Phasing.{on_from_down}
use Rattle.tabulate.specs.declared.method.Method.{Method}
use Rattle.worklists.specs.Growth.{Grows}
use Rattle.widening.specs.Pairs.{KeepsMet, KeepsAsked}
use Rattle.widening.specs.Marks.{AreLeading, IsMarking, IsBegun}
use Rattle.widening.proofs.MarkLaws.{asked_on, in_more, take_front, front_longer}

module _ (f : Facts) (E : Edge → Type 0) (phase : Phase) (ms ms1 : List (Option Method)) (asked asked1 : List ExitId) (met : KeepsMet ms ms1) (kept : KeepsAsked asked asked1) where
  -- more methods are met, and more exits were asked for
  pub marking_on : (taken : ℕ) (nodes : List NodeId) → IsMarking f E phase ms asked taken nodes → IsMarking f E phase ms1 asked1 taken nodes
  marking_on taken nodes t = record {
    moves = t.moves;
    passes = t.passes;
    served = λ n c. asked_on f E ms ms1 asked asked1 n met kept (t.served n c);
    within = t.within;
  }

  -- .. and more nodes are marked
  pub begun_on : (again : List NodeId) (taken : ℕ) (nodes nodes1 : List NodeId) → (more : List NodeId) × (nodes1 ≡ nodes ++ more) → IsBegun f E phase again ms asked taken nodes → IsBegun f E phase again ms1 asked1 taken nodes1
  begun_on again taken nodes nodes1 front t = record {
    moves = λ n q c m. elim (t.moves n q (first n c) m) [ inl o ↦ inl (in_more nodes nodes1 front q o) | inr h ↦ inr h ];
    served = λ n c. asked_on f E ms ms1 asked asked1 n met kept (t.served n (first n c));
    within = omega (arith, t.within, front_longer nodes nodes1 front);
  }
    where
      first : (n : NodeId) → Contains (take taken nodes1) n → Contains (take taken nodes) n
      first n c = subst (λ (xs : List NodeId). Contains xs n) (take_front nodes nodes1 taken front t.within) c

-- the nodes of the first phase are nodes of the second
pub leads_added : (E : Edge → Type 0) (seeds ups downs downs1 : List NodeId) → Grows downs downs1 (Contains ups) → AreLeading E seeds Up ups → AreLeading E seeds Down downs → AreLeading E seeds Down downs1
leads_added E seeds ups downs downs1 g up down n c = elim (g.only n c) [ inl o ↦ down n o | inr k ↦ on_from_down E seeds n (up n k) ]

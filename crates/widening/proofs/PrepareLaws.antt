-- What a step back from a node needs is asked for.
use Rattle.std.proofs.Common.{◌<◌, ℕ, List, [], length, Contains, Option, inl, inr, refl, sym, subst, ◌∙◌}
use Rattle.std.specs.Prelude.{◌↔◌}
use Rattle.std.proofs.lemmas.Option.{same_Some, slice_get_within}
use Rattle.bit_rows.proofs.Adding.{taken_on, taken_back}
use Rattle.slicer_ids.specs.declared.ids.NodeId.{NodeId}
use Rattle.slicer_ids.specs.declared.ids.ExitId.{ExitId}
use Rattle.dep_form.specs.declared.facts.Facts.{Facts}
use Rattle.dep_form.specs.declared.node.Edge.{Edge}
use Rattle.dep_form.specs.declared.node.Label.{Label}
use Rattle.dep_form.specs.declared.node.Label.TheVariants.{Return}
use Rattle.dep_form.specs.Phases.{edge}
use Rattle.dep_form.specs.Paths.{IsInSlice}
use Rattle.dep_form.specs.Summaries.{IsExitAt}
use Rattle.dep_form.proofs.Realizable.{returned}
use Rattle.tabulate.specs.declared.method.Method.{Method}
use Rattle.tabulate.specs.Frames.{method_of}
use Rattle.tabulate.specs.Methods.{IsMet}
use Rattle.tabulate.specs.States.{AsksAny}
use Rattle.widening.specs.declared.pairs.Pairs.{Pairs}
use Rattle.widening.specs.Edges.{AreInto, IsExitNear}
use Rattle.widening.specs.Pairs.{Has, Waits, IsDone, AreNeeded, AreSameTaken, IsAskedStep, Either, KeepsAsked}
use Rattle.widening.specs.Marks.{IsAsked}
use Rattle.widening.proofs.PairLaws.{done_open, done_more}

pub near_low : (f : Facts) (n : NodeId) (es : List Edge) (d : ExitId) → IsExitNear f n es d → d.0 < length f.exits
near_low f n es d (inl (e, c, r)) = slice_get_within f.exits d.0 e.from r.0
near_low f n es d (inr at) = slice_get_within f.exits d.0 n at

module _ (f : Facts) (E : Edge → Type 0) (n : NodeId) (es : List Edge) (into : AreInto E n es) (exits : List ExitId) (near : (d : ExitId) → Contains exits d ↔ IsExitNear f n es d) where
  near_slice : (seeds : List NodeId) → IsInSlice E (Contains seeds) n → (d : ExitId) (x : NodeId) → IsExitAt f d x → IsExitNear f n es d → IsInSlice E (Contains seeds) x
  near_slice seeds h d x at (inr here) = subst (λ (y : NodeId). IsInSlice E (Contains seeds) y) (same_Some n x (sym here ∙ at)) h
  near_slice seeds h d x at (inl (e, c, r)) =
      let is = (into e).0 c in
      let k = r.1 in
      let back : E (edge e.from (Return k) n) = subst (λ (y : Label). E (edge e.from y n)) r.2 (subst (λ (y : NodeId). E (edge e.from e.label y)) is.1 is.0) in
      subst (λ (y : NodeId). IsInSlice E (Contains seeds) y) (same_Some e.from x (sym r.0 ∙ at)) (h.0, h.1, returned E e.from n n h.0 k back ([], refl, refl) h.2)

  module _ (ms : List (Option Method)) (p p1 : Pairs) (t t1 : ℕ) (step : IsAskedStep f E (Contains exits) ms p p1 t t1) where
    pub near_needed : (seeds : List NodeId) → IsInSlice E (Contains seeds) n → AreNeeded f E seeds p.asked.items → AreNeeded f E seeds p1.asked.items
    near_needed seeds h need d x c at = elim (step.only d c) [ inl o ↦ need d x o at | inr k ↦ near_slice seeds h d x at ((near d).0 k) ]

    pub asked_same : AreSameTaken f p p1
    asked_same = record {
      on = taken_on (Has f p) (Waits f p) (Has f p1) (Waits f p1) (AsksAny f p1.asked.items) step.adds;
      back = taken_back (Has f p) (Waits f p) (Has f p1) (Waits f p1) (AsksAny f p1.asked.items) step.adds;
    }

    pub asked_done : IsDone f E (Has f p) (λ _. ⊥) → IsDone f E (Has f p1) (Waits f p1)
    asked_done d = done_open f E step.pairs.edges (Has f p1) (Either (Waits f p1) (λ _. ⊥)) (Waits f p1) (λ q g o. elim o [ inl w ↦ w | inr no_one ↦ absurd no_one ])
        (done_more f E step.pairs.edges (Has f p) (Waits f p) (Has f p1) (Waits f p1) (λ _. ⊥) step.adds.kept step.adds.fresh step.adds.still
        (done_open f E step.pairs.edges (Has f p) (λ _. ⊥) (Either (Waits f p) (λ _. ⊥)) (λ q g o. inr o) d))

    -- the exits near the node were asked for
    pub near_asked : (ms2 : List (Option Method)) (asked : List ExitId) → IsMet ms2 (method_of f n.0) → KeepsAsked p1.asked.items asked → IsAsked f E ms2 asked n
    near_asked ms2 asked met kept = record {
      met = met;
      returns = λ e d k r at. kept d (step.asked d ((near d).1 (inl (edge e (Return k) n, (into (edge e (Return k) n)).1 (r, refl), (at, k, refl)))));
      own = λ d at. kept d (step.asked d ((near d).1 (inr at)));
    }

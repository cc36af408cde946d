-- The facts are exactly what holds.
use Rattle.std.proofs.Common.{◌<◌, ℕ, List, [], length, get_or, All, Contains, inl, inr, refl, sym, subst, arith}
use Rattle.std.specs.Prelude.{◌↔◌}
use Rattle.std.proofs.lemmas.List.Elements.{Contains-get_or}
use Rattle.slicer_ids.specs.Walks.{stay}
use Rattle.slicer_ids.specs.Sets.{IsOrderedListOf}
use Rattle.slicer_ids.proofs.WalkForms.{by_cases, by_list}
use Rattle.class_form.specs.declared.body.Shape.{Shape}
use Rattle.class_form.specs.declared.body.Def.{Def}
use Rattle.class_form.specs.Reaching.{IsFlow, Carries, Begins, HoldsAt}
use Rattle.class_form.specs.Reaches.{DefBefore}
use Rattle.worklists.specs.Growth.{Grows, FromOne}
use Rattle.reaching_defs.specs.declared.spread.Fact.{Fact}
use Rattle.reaching_defs.specs.declared.starts.Start.{Start}
use Rattle.reaching_defs.specs.Points.{IsIndex}
use Rattle.reaching_defs.specs.Starts.{start}
use Rattle.reaching_defs.specs.Frames.{place}
use Rattle.reaching_defs.specs.Facts.{fact, IsFactOf}
use Rattle.reaching_defs.proofs.Places.{point_by_index}

-- handlers have an index
pub handlers_within : (s : Shape) (index : List ℕ) → IsFlow s → IsIndex s.points index → All (λ p. All (λ h. h < length index) p.handlers) s.points
handlers_within s index flow is i p lt j d within =
    let x = get_or s.points i p in
    let h = get_or x.handlers j d in
    let q = flow.goes x.pc h (x, (Contains-get_or s.points i p lt, refl), inr (Contains-get_or x.handlers j d within)) in
    (point_by_index s.points index h q.0 is q.1.0 q.1.1).0

module _ (s : Shape) (starts : List Start) (facts : List Fact) (whole : (pc slot : ℕ) (def : Def) → Begins s def (place pc slot) → Contains starts (start slot def))
    (g : Grows [] facts (FromOne (IsFactOf s) starts)) where
  holds : (pc slot : ℕ) (d : Def) → Contains facts (fact (place pc slot) d) ↔ HoldsAt s pc slot d
  holds pc slot d = (to, from)
    where
      to : Contains facts (fact (place pc slot) d) → HoldsAt s pc slot d
      to c = elim (g.only (fact (place pc slot) d) c) [
        | inl none ↦ absurd (omega (arith, none.1))
        | inr (x, there, (e, comes)) ↦ subst (λ (y : Def). HoldsAt s pc slot y) (sym e) (place comes.0 x.slot, comes.1, by_list (Carries s) (place comes.0 x.slot) comes.2)
      ]

      from : HoldsAt s pc slot d → Contains facts (fact (place pc slot) d)
      from h =
          let a = h.0 in
          g.all (fact (place pc slot) d) (start a.slot d, whole a.pc a.slot d h.1, (refl, (a.pc, h.1, by_cases (Carries s) a a (place pc slot) h.2.0 stay h.2.1)))

  pub holding : (pc slot : ℕ) (defs : List Def) → IsOrderedListOf DefBefore defs (λ d. Contains facts (fact (place pc slot) d)) → IsOrderedListOf DefBefore defs (HoldsAt s pc slot)
  holding pc slot defs o = record {
    each = λ i d lt. (holds pc slot (get_or defs i d)).0 (o.each i d lt);
    order = o.order;
    whole = λ d h. o.whole d ((holds pc slot d).1 h);
  }

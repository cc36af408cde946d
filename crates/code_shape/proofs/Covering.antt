-- The order of ranges and of covers.
use Rattle.std.proofs.Common.{◌≡◌, ◌<◌, ◌≤◌, ◌+◌, ℕ, Bool, true, List, [], ◌∷◌, take, length, get_or, All, AllPairs, Contains, Some, ◌⊎◌, inl, inr, refl, sym, ap, subst, ◌∙◌, arith}
use Rattle.std.specs.Prelude.{slice_get, ◌↔◌}
use Rattle.std.specs.declared.cmp.Ordering.{Ordering}
use Rattle.std.specs.declared.cmp.Ordering.TheVariants.{Less, Equal}
use Rattle.std.specs.Ordering.{nat_cmp, ordering_then, eq_by_cmp}
use Rattle.std.specs.Cmp.{IsTotalOrder, IsEquivalence}
use Rattle.std.specs.List.Sorted.{IsStrictlySortedBy}
use Rattle.std.proofs.lemmas.Cmp.{eq_by_cmp_equiv}
use Rattle.std.proofs.lemmas.List.Elements.{All-from_recursion, All-weaker}
use Rattle.std.proofs.lemmas.List.Kept.{AllPairs-cons}
use Rattle.worklist.proofs.Orders.{then_less, then_equal, nat_less, nat_equal, if_is_eq}
use Rattle.code_shape.specs.declared.covers.Range.{Range}
use Rattle.code_shape.specs.declared.covers.Cover.{Cover}
use Rattle.code_shape.specs.contracts.covers.RangeOrd.TheImpl as of_range
use Rattle.code_shape.specs.contracts.covers.RangePartialEq.TheImpl as range_tested
use Rattle.code_shape.specs.contracts.covers.CoverOrd.TheImpl as of_cover
use Rattle.code_shape.specs.contracts.covers.CoverPartialEq.TheImpl as cover_tested
use Rattle.code_shape.specs.Covers.{RangeBefore, CoverBefore}

abbrev range_cmp : Range → Range → Ordering
range_cmp = (of_range.ghosts).cmp

abbrev range_eq : Range → Range → Bool
range_eq = (range_tested.ghosts).eq

pub ranges_total : IsTotalOrder range_cmp
ranges_total = of_range.Laws.total-law

pub range_ties : (a b : Range) → range_eq a b ≡ eq_by_cmp range_cmp a b
range_ties = of_range.Laws.matches_eq-law

range_less : (a b : Range) → range_cmp a b ≡ Less → RangeBefore a b
range_less a b h = elim (then_less a.handler b.handler (ordering_then (nat_cmp a.start b.start) (nat_cmp a.end b.end)) h) [
  | inl lt ↦ inl lt
  | inr same ↦ inr (same.0, elim (then_less a.start b.start (nat_cmp a.end b.end) same.1) [ inl lt ↦ inl lt | inr start ↦ inr (start.0, nat_less a.end b.end start.1) ])
]

range_made : (a b : Range) → a.handler ≡ b.handler → a.start ≡ b.start → a.end ≡ b.end → a ≡ b
range_made a b h s e =
    let F : ℕ → Range = λ n. record { handler = n; start = a.start; end = a.end } in
    let G : ℕ → Range = λ n. record { handler = b.handler; start = n; end = a.end } in
    let H : ℕ → Range = λ n. record { handler = b.handler; start = b.start; end = n } in
    ap F h ∙ ap G s ∙ ap H e

pub same_range : (a b : Range) → range_eq a b ≡ true → a ≡ b
same_range a b h =
    let first = then_equal a.handler b.handler (ordering_then (nat_cmp a.start b.start) (nat_cmp a.end b.end)) (if_is_eq (range_cmp a b) (sym (range_ties a b) ∙ h)) in
    let second = then_equal a.start b.start (nat_cmp a.end b.end) first.1 in
    range_made a b first.0 second.0 (nat_equal a.end b.end second.1)

pub range_equiv : IsEquivalence range_eq
range_equiv =
    let e = eq_by_cmp_equiv ranges_total in
    record {
      refl = λ x. range_ties x x ∙ e.refl x;
      symm = λ x y. range_ties x y ∙ e.symm x y ∙ sym (range_ties y x);
      congr = λ x y z h. range_ties x z ∙ e.congr x y z (sym (range_ties x y) ∙ h) ∙ sym (range_ties y z);
    }

pub ranges_in_pairs : (xs : List Range) → IsStrictlySortedBy range_cmp xs → AllPairs RangeBefore xs
unfolding IsStrictlySortedBy
ranges_in_pairs [] h = λ i j d lt within. absurd (omega arith)
ranges_in_pairs (x ∷ xs) h = AllPairs-cons RangeBefore x xs (All-weaker (λ y. range_cmp x y ≡ Less) (RangeBefore x) (λ y e. range_less x y e) xs (All-from_recursion (λ y. range_cmp x y ≡ Less) xs h.0)) (ranges_in_pairs xs h.1)

abbrev cover_cmp : Cover → Cover → Ordering
cover_cmp = (of_cover.ghosts).cmp

abbrev cover_eq : Cover → Cover → Bool
cover_eq = (cover_tested.ghosts).eq

pub covers_total : IsTotalOrder cover_cmp
covers_total = of_cover.Laws.total-law

pub cover_ties : (a b : Cover) → cover_eq a b ≡ eq_by_cmp cover_cmp a b
cover_ties = of_cover.Laws.matches_eq-law

cover_less : (a b : Cover) → cover_cmp a b ≡ Less → CoverBefore a b
cover_less a b h = elim (then_less a.index b.index (nat_cmp a.handler b.handler) h) [ inl lt ↦ inl lt | inr same ↦ inr (same.0, nat_less a.handler b.handler same.1) ]

pub cover_made : (a b : Cover) → a.index ≡ b.index → a.handler ≡ b.handler → a ≡ b
cover_made a b i h =
    let F : ℕ → Cover = λ n. record { index = n; handler = a.handler } in
    let G : ℕ → Cover = λ n. record { index = b.index; handler = n } in
    ap F i ∙ ap G h

pub same_cover : (a b : Cover) → cover_eq a b ≡ true → a ≡ b
same_cover a b h =
    let first = then_equal a.index b.index (nat_cmp a.handler b.handler) (if_is_eq (cover_cmp a b) (sym (cover_ties a b) ∙ h)) in
    cover_made a b first.0 (nat_equal a.handler b.handler first.1)

pub cover_equiv : IsEquivalence cover_eq
cover_equiv =
    let e = eq_by_cmp_equiv covers_total in
    record {
      refl = λ x. cover_ties x x ∙ e.refl x;
      symm = λ x y. cover_ties x y ∙ e.symm x y ∙ sym (cover_ties y x);
      congr = λ x y z h. cover_ties x z ∙ e.congr x y z (sym (cover_ties x y) ∙ h) ∙ sym (cover_ties y z);
    }

pub covers_in_pairs : (xs : List Cover) → IsStrictlySortedBy cover_cmp xs → AllPairs CoverBefore xs
unfolding IsStrictlySortedBy
covers_in_pairs [] h = λ i j d lt within. absurd (omega arith)
covers_in_pairs (x ∷ xs) h = AllPairs-cons CoverBefore x xs (All-weaker (λ y. cover_cmp x y ≡ Less) (CoverBefore x) (λ y e. cover_less x y e) xs (All-from_recursion (λ y. cover_cmp x y ≡ Less) xs h.0)) (covers_in_pairs xs h.1)

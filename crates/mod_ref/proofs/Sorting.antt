-- Lists that were sorted, of which each item stands once: what is in them, and what a search by halving finds.
use Rattle.std.proofs.Common.{◌≡◌, ◌↔◌, ◌<◌, ◌≤◌, ℕ, Bool, true, false, List, [], ◌∷◌, Some, Contains, Decides, length, get_or, AllPairs, inl, inr, refl, sym, ap, subst, ◌∙◌, arith}
use Rattle.std.specs.Prelude.{slice_get}
use Rattle.std.specs.List.{HoldsAt}
use Rattle.std.specs.List.Retain.{IsFiltered, DiffersFromLast}
use Rattle.std.specs.List.Sorted.{IsSorted, IsStrictlySortedBy, IsPermutation, IsNonDecreasingBy, IsPartitionPoint}
use Rattle.std.specs.declared.cmp.Ordering.{Ordering}
use Rattle.std.specs.declared.cmp.Ordering.TheVariants.{Less, Equal, Greater}
use Rattle.std.specs.Ordering.{eq_by_cmp, ordering_index}
use Rattle.std.specs.Cmp.{IsTotalOrder, IsEquivalence}
use Rattle.std.proofs.lemmas.Bool.{cases_lt}
use Rattle.std.proofs.lemmas.Cmp.{eq_by_cmp_equiv, tied_itself}
use Rattle.std.proofs.lemmas.List.Elements.{All-from_recursion}
use Rattle.std.proofs.lemmas.List.Filters.{dedup_is}
use Rattle.std.proofs.lemmas.List.Kept.{AllPairs-cons, Contains-dedup, Contains-from_dedup, IsStrictlySortedBy-dedup}
use Rattle.std.proofs.lemmas.List.Sorted.{Contains-permutation, IsPermutation-sym}
use Rattle.std.proofs.lemmas.Option.{slice_get-get_or, slice_get_within, get_or_from_slice_get}
use Rattle.worklist.proofs.Orders.{if_is_eq}
use Rattle.dep_form.specs.Orders.{RiseBy}
use Rattle.dep_form.proofs.Searching.{not_found}

-- a test of equality and an order that agree, and in which what compares equal is one
pub record IsExactOrder {X : Type 0} (E : X → X → Bool) (R : X → X → Ordering) : Type 0 where
  pub total : IsTotalOrder R
  pub ties : (x y : X) → E x y ≡ eq_by_cmp R x y
  pub exact : (x y : X) → R x y ≡ Equal → x ≡ y

in_pairs : {X : Type 0} (R : X → X → Ordering) (xs : List X) → IsStrictlySortedBy R xs → AllPairs (λ a b. R a b ≡ Less) xs
unfolding IsStrictlySortedBy
in_pairs R [] h = λ i j d lt within. absurd (omega (arith, within))
in_pairs R (x ∷ xs) h = AllPairs-cons (λ a b. R a b ≡ Less) x xs (All-from_recursion (λ y. R x y ≡ Less) xs h.0) (in_pairs R xs h.1)

module _ {X : Type 0} (E : X → X → Bool) (R : X → X → Ordering) (o : IsExactOrder E R) where
  pub same : (x y : X) → E x y ≡ true → x ≡ y
  same x y h = o.exact x y (if_is_eq (R x y) (sym (o.ties x y) ∙ h))

  pub equiv : IsEquivalence E
  equiv =
      let e = eq_by_cmp_equiv o.total in
      record {
        refl = λ x. o.ties x x ∙ e.refl x;
        symm = λ x y. o.ties x y ∙ e.symm x y ∙ sym (o.ties y x);
        congr = λ x y z h. o.ties x z ∙ e.congr x y z (sym (o.ties x y) ∙ h) ∙ sym (o.ties y z);
      }

  pub decides : (x y : X) → Decides (E x y) (x ≡ y)
  decides x y = (same x y, λ e. subst (λ z. E x z ≡ true) e (equiv.refl x))

  -- ---- after a sort, and after what stands twice was taken out
  pub sorted_rises : (xs ys : List X) → IsSorted R xs → IsFiltered (DiffersFromLast E) [] xs ys → RiseBy R (λ x. x) ys
  sorted_rises xs ys sorted kept = rw (dedup_is E xs ys kept) (in_pairs R _ (IsStrictlySortedBy-dedup o.total o.ties xs sorted))

  pub sorted_members : (old xs ys : List X) → IsPermutation old xs → IsFiltered (DiffersFromLast E) [] xs ys → (x : X) → Contains ys x ↔ Contains old x
  sorted_members old xs ys moved kept x = (
    λ h. Contains-permutation xs old x (IsPermutation-sym old xs moved) (Contains-from_dedup E xs x (rw (dedup_is E xs ys kept) at h)),
    λ h. rw (dedup_is E xs ys kept) (Contains-dedup equiv same xs x (Contains-permutation old xs x moved h)),
  )

  -- ---- a search by halving
  pub found : (xs : List X) (x : X) (k : ℕ) → k < length xs → HoldsAt (λ y. R y x ≡ Equal) xs k → slice_get xs k ≡ Some x
  found xs x k lt here = slice_get-get_or xs k x lt ∙ ap (λ (y : X). Some y) (o.exact (get_or xs k x) x (here x))

  at_place : (xs : List X) (x : X) (c : Contains xs x) → slice_get xs c.0 ≡ Some x
  at_place xs x c = slice_get-get_or xs c.0 x c.1 ∙ ap (λ (y : X). Some y) c.2

  pub missed : (xs : List X) (x : X) (i : ℕ) → RiseBy R (λ y. y) xs
      → (IsNonDecreasingBy (λ y. ordering_index (R y x)) xs → IsPartitionPoint (λ y. R y x ≡ Less) (λ y. R y x ≡ Greater) xs i)
      → Contains xs x → ⊥
  missed xs x i rise point c = not_found R o.total (λ y. y) xs xs x i refl rise point c.0 x (at_place xs x c) (tied_itself o.total x)

  -- an item has one place
  before : (xs : List X) (x : X) (j k : ℕ) → RiseBy R (λ y. y) xs → slice_get xs j ≡ Some x → slice_get xs k ≡ Some x → j < k → ⊥
  before xs x j k rise at by lt =
      let less : R x x ≡ Less = subst (λ y. R y x ≡ Less) (get_or_from_slice_get xs j x x at) (subst (λ y. R (get_or xs j x) y ≡ Less) (get_or_from_slice_get xs k x x by) (rise j k x lt (slice_get_within xs k x by))) in
      let tied = tied_itself o.total x in
      absurd (cc (sym less ∙ tied))

  pub one_place : (xs : List X) (x : X) (j k : ℕ) → RiseBy R (λ y. y) xs → slice_get xs j ≡ Some x → slice_get xs k ≡ Some x → j ≡ k
  one_place xs x j k rise at by = elim (cases_lt j k) [
    | inl lt ↦ absurd (before xs x j k rise at by lt)
    | inr ge ↦ elim (cases_lt k j) [ inl lt ↦ absurd (before xs x k j rise by at lt) | inr le ↦ omega (arith, ge, le) ]
  ]

pub not_true : (b : Bool) → (b ≡ true → ⊥) → false ≡ b
not_true true h = absurd (h refl)
not_true false h = refl

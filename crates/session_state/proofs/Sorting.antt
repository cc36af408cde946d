-- Lists that were sorted, and of which each item then was kept once.
use Rattle.std.proofs.Common.{◌≡◌, ◌↔◌, Bool, true, List, [], ◌∷◌, Contains, AllPairs, sym, ◌∙◌, arith}
use Rattle.std.specs.List.{dedup}
use Rattle.std.specs.List.Sorted.{IsSorted, IsStrictlySortedBy, IsPermutation}
use Rattle.std.specs.declared.cmp.Ordering.{Ordering}
use Rattle.std.specs.declared.cmp.Ordering.TheVariants.{Less, Equal}
use Rattle.std.specs.Ordering.{eq_by_cmp}
use Rattle.std.specs.Cmp.{IsTotalOrder, IsEquivalence}
use Rattle.std.proofs.lemmas.Cmp.{eq_by_cmp_equiv}
use Rattle.std.proofs.lemmas.List.Elements.{All-from_recursion}
use Rattle.std.proofs.lemmas.List.Kept.{AllPairs-cons, Contains-dedup, Contains-from_dedup, IsStrictlySortedBy-dedup}
use Rattle.std.proofs.lemmas.List.Sorted.{Contains-permutation, IsPermutation-sym}
use Rattle.worklist.proofs.Orders.{if_is_eq}

-- a test of equality and an order that agree, and in which what compares equal is one
pub record IsExactOrder {X : Type 0} (E : X → X → Bool) (R : X → X → Ordering) : Type 0 where
  pub total : IsTotalOrder R
  pub ties : (x y : X) → E x y ≡ eq_by_cmp R x y
  pub exact : (x y : X) → R x y ≡ Equal → x ≡ y

in_pairs : {X : Type 0} (R : X → X → Ordering) (xs : List X) → IsStrictlySortedBy R xs → AllPairs (λ a b. R a b ≡ Less) xs
unfolding IsStrictlySortedBy
in_pairs R [] h = λ i j d lt within. absurd (omega (arith, within))
in_pairs R (x ∷ xs) h = AllPairs-cons (λ a b. R a b ≡ Less) x xs (All-from_recursion (λ y. R x y ≡ Less) xs h.0) (in_pairs R xs h.1)

module _ {X : Type 0} (E : X → X → Bool) (R : X → X → Ordering) (o : IsExactOrder E R) where
  same : (x y : X) → E x y ≡ true → x ≡ y
  same x y h = o.exact x y (if_is_eq (R x y) (sym (o.ties x y) ∙ h))

  equiv : IsEquivalence E
  equiv =
      let e = eq_by_cmp_equiv o.total in
      record {
        refl = λ x. o.ties x x ∙ e.refl x;
        symm = λ x y. o.ties x y ∙ e.symm x y ∙ sym (o.ties y x);
        congr = λ x y z h. o.ties x z ∙ e.congr x y z (sym (o.ties x y) ∙ h) ∙ sym (o.ties y z);
      }

  pub sorted_rises : (xs ys : List X) → IsSorted R xs → ys ≡ dedup E xs → AllPairs (λ a b. R a b ≡ Less) ys
  sorted_rises xs ys sorted is = rw is (in_pairs R _ (IsStrictlySortedBy-dedup o.total o.ties xs sorted))

  pub sorted_members : (old xs ys : List X) → IsPermutation old xs → ys ≡ dedup E xs → (x : X) → Contains ys x ↔ Contains old x
  sorted_members old xs ys moved is x = (
    λ h. Contains-permutation xs old x (IsPermutation-sym old xs moved) (Contains-from_dedup E xs x (rw is at h)),
    λ h. rw is (Contains-dedup equiv same xs x (Contains-permutation old xs x moved h)),
  )

-- What halving finds in a list whose keys rise.
use Rattle.std.proofs.Common.{◌≡◌, ◌<◌, ◌≤◌, ℕ, true, false, List, length, get_or, Contains, AllPairs, Some, inl, inr, ap, subst, ◌∙◌, arith, ltb}
use Rattle.std.specs.Prelude.{slice_get}
use Rattle.std.proofs.lemmas.Bool.{cases_lt, ltb-true, ltb-false}
use Rattle.std.proofs.lemmas.Option.{slice_get-get_or}
use Rattle.std.specs.List.Sorted.{IsNonDecreasingBy, IsPartitionPoint}
use Rattle.fact_form.proofs.ItemLists.{pair_at}

module _ {A : Type 0} (key : A → ℕ) (xs : List A) (order : AllPairs (λ (a b : A). key a < key b) xs) where
  pub rising : IsNonDecreasingBy key xs
  rising i j d le within = elim (cases_lt i j) [
    | inl lt ↦ omega (arith, order i j d lt within)
    | inr ge ↦ let e : i ≡ j = omega arith in omega (arith, ap (λ (n : ℕ). key (get_or xs n d)) e)
  ]

  module _ (n k : ℕ) (parted : IsPartitionPoint (λ (x : A). ltb (key x) n ≡ true) (λ (x : A). ltb (key x) n ≡ false) xs k) (x : A) (among : Contains xs x) (is : key x ≡ n) where
    abbrev j : ℕ
    j = among.0

    there : slice_get xs j ≡ Some x
    there = slice_get-get_or xs j x among.1 ∙ ap (λ (y : A). Some y) among.2

    not_before : j < k → ⊥
    not_before lt = let less : key x < n = subst (λ (y : A). key y < n) among.2 (ltb-true (key (get_or xs j x)) n (parted.0 j x (omega arith) lt)) in omega (arith, less, is)

    not_behind : k < j → ⊥
    not_behind lt =
        let below : k < length xs = omega (arith, lt, among.1) in
        let from : n ≤ key (get_or xs k x) = ltb-false (key (get_or xs k x)) n (parted.1 k x (omega arith) below) in
        let less : key (get_or xs k x) < key x = pair_at (λ (a b : A). key a < key b) xs order k j (get_or xs k x) x lt (slice_get-get_or xs k x below) there in
        omega (arith, from, less, is)

    -- it stands at the point before which all keys are below
    pub found : slice_get xs k ≡ Some x
    found = elim (cases_lt j k) [
      | inl lt ↦ absurd (not_before lt)
      | inr ge ↦ elim (cases_lt k j) [
        | inl lt ↦ absurd (not_behind lt)
        | inr le ↦ let same : j ≡ k = omega (arith, ge, le) in subst (λ m. slice_get xs m ≡ Some x) same there
      ]
    ]

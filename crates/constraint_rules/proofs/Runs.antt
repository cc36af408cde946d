-- The run of one key in a list whose keys don't fall.
use Rattle.std.proofs.Common.{◌≡◌, ◌<◌, ◌≤◌, ◌+◌, ◌-◌, ℕ, List, [], ◌∷◌, take, drop, length, get_or, Contains, true, false, leb, ltb, suc, inl, inr, sym, ap, subst, ◌∙◌, arith}
use Rattle.std.specs.Prelude.{◌↔◌, AllPairs}
use Rattle.std.specs.List.Sorted.{IsPartitionPoint, IsNonDecreasingBy}
use Rattle.std.proofs.lemmas.Bool.{cases_lt}
use Rattle.std.proofs.lemmas.Bool.Decides.{leb_tells}
use Rattle.std.proofs.lemmas.Option.{get_or_from_slice_get}
use Rattle.std.proofs.lemmas.List.{get_or-take, get_or-drop, length-take, length-drop, get_or_default}

at_most : (a b : ℕ) → leb a b ≡ true → a ≤ b
at_most a b e = elim (leb_tells a b) [ inl h ↦ h.1 | inr h ↦ absurd cc ]

above : (a b : ℕ) → leb a b ≡ false → b < a
above a b e = elim (leb_tells a b) [ inl h ↦ absurd cc | inr h ↦ h.1 ]

module _ {X : Type 0} (n : X → ℕ) (xs : List X) where
  pub keys_rise : AllPairs (λ (a b : X). n a ≤ n b) xs → IsNonDecreasingBy n xs
  keys_rise order i j d le within = elim (cases_lt i j) [
    | inl lt ↦ order i j d lt within
    | inr ge ↦ let e : i ≡ j = omega arith in omega (arith, ap (λ (k : ℕ). n (get_or xs k d)) e)
  ]

  module _ (t low high : ℕ) (low_in : low ≤ length xs) (high_in : high ≤ length xs)
      (before : IsPartitionPoint (λ (x : X). ltb (n x) t ≡ true) (λ (x : X). ltb (n x) t ≡ false) xs low)
      (through : IsPartitionPoint (λ (x : X). leb (n x) t ≡ true) (λ (x : X). leb (n x) t ≡ false) xs high) where
    pub run_le : low ≤ high
    run_le = elim (cases_lt high low) [
      | inr le ↦ le
      | inl less ↦
          let d : X = get_or xs high (first xs less low_in) in
          absurd (omega (arith, at_most (suc (n (get_or xs high d))) t (before.0 high d (omega arith) less), above (n (get_or xs high d)) t (through.1 high d (omega arith) (omega (arith, less, low_in)))))
    ]
      where
        first : (ys : List X) → high < low → low ≤ length ys → X
        first [] l m = absurd (omega arith)
        first (y ∷ ys) l m = y

    part_at : (i : ℕ) (d : X) → i < length (take (high - low) (drop low xs)) → (low + i < high) × (get_or (take (high - low) (drop low xs)) i d ≡ get_or xs (low + i) d)
    part_at i d lt =
        let short : i < high - low = omega (arith, length-take (high - low) (drop low xs)) in
        (omega arith, get_or-take (high - low) (drop low xs) i d short ∙ get_or-drop low xs i d)

    -- the run has each item with this key, and no other
    pub run_members : (x : X) → Contains (take (high - low) (drop low xs)) x ↔ (Contains xs x × (n x ≡ t))
    run_members x = (
      λ h.
          let at = part_at h.0 x h.1 in
          let k = low + h.0 in
          let within : k < length xs = omega (arith, at.0, high_in) in
          let is : get_or xs k x ≡ x = sym at.1 ∙ h.2 in
          let lo : t ≤ n x = subst (λ (y : X). t ≤ n y) is (omega (arith, above (suc (n (get_or xs k x))) t (before.1 k x (omega arith) within))) in
          let hi : n x ≤ t = subst (λ (y : X). n y ≤ t) is (at_most (n (get_or xs k x)) t (through.0 k x (omega arith) at.0)) in
          ((k, within, is), omega (arith, lo, hi)),
      λ (c, e).
          let k = c.0 in
          let is : get_or xs k x ≡ x = c.2 in
          let m : n (get_or xs k x) ≡ t = ap n is ∙ e in
          let from : low ≤ k = elim (cases_lt k low) [ inr le ↦ le | inl less ↦ absurd (omega (arith, m, at_most (suc (n (get_or xs k x))) t (before.0 k x (omega arith) less))) ] in
          let to : k < high = elim (cases_lt k high) [ inl less ↦ less | inr le ↦ absurd (omega (arith, m, above (n (get_or xs k x)) t (through.1 k x le c.1))) ] in
          let i = k - low in
          let lt : i < length (take (high - low) (drop low xs)) = omega (arith, from, to, high_in, length-take (high - low) (drop low xs), length-drop low xs) in
          let at : low + i ≡ k = omega (arith, from) in
          (i, lt, (part_at i x lt).1 ∙ ap (λ (m : ℕ). get_or xs m x) at ∙ is),
    )

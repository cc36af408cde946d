-- The run of one key in a list whose keys don't fall.
use Rattle.std.proofs.Common.{◌≡◌, ◌<◌, ◌≤◌, ◌+◌, ◌-◌, ℕ, List, [], ◌∷◌, take, drop, length, get_or, Contains, true, false, leb, ltb, suc, inl, inr, sym, ap, subst, ◌∙◌, arith}
use Rattle.std.specs.Prelude.{Some, ◌↔◌, AllPairs}
use Rattle.std.specs.List.Sorted.{IsPartitionPoint}
use Rattle.std.proofs.lemmas.Bool.{cases_lt}
use Rattle.std.proofs.lemmas.Bool.Decides.{leb_tells}
use Rattle.std.proofs.lemmas.Option.{slice_get_within, slice_get-get_or, get_or_from_slice_get}
use Rattle.worklist.proofs.Slices.{part_at, in_part, part_has}

at_most : (a b : ℕ) → leb a b ≡ true → a ≤ b
at_most a b e = elim (leb_tells a b) [ inl h ↦ h.1 | inr h ↦ absurd cc ]

above : (a b : ℕ) → leb a b ≡ false → b < a
above a b e = elim (leb_tells a b) [ inl h ↦ absurd cc | inr h ↦ h.1 ]

module _ {X : Type 0} (n : X → ℕ) (xs : List X) (t low high : ℕ) (low_in : low ≤ length xs) (high_in : high ≤ length xs)
    (before : IsPartitionPoint (λ (x : X). ltb (n x) t ≡ true) (λ (x : X). ltb (n x) t ≡ false) xs low)
    (through : IsPartitionPoint (λ (x : X). leb (n x) t ≡ true) (λ (x : X). leb (n x) t ≡ false) xs high) where
  pub run_le : low ≤ high
  run_le = elim (cases_lt high low) [
    | inr le ↦ le
    | inl less ↦
        let d : X = get_or xs high (first xs less low_in) in
        absurd (omega (arith, at_most (suc (n (get_or xs high d))) t (before.0 high d (omega arith) less), above (n (get_or xs high d)) t (through.1 high d (omega arith) (omega (arith, less, low_in)))))
  ]
    where
      first : (ys : List X) → high < low → low ≤ length ys → X
      first [] l m = absurd (omega arith)
      first (y ∷ ys) l m = y

  pub run_members : (x : X) → Contains (take (high - low) (drop low xs)) x ↔ (Contains xs x × (n x ≡ t))
  run_members x = (
    λ h.
        let k = in_part xs low high high_in x h in
        let is : get_or xs k.0 x ≡ x = get_or_from_slice_get xs k.0 x x k.3 in
        let lo : t ≤ n x = subst (λ (y : X). t ≤ n y) is (omega (arith, above (suc (n (get_or xs k.0 x))) t (before.1 k.0 x k.1 (slice_get_within xs k.0 x k.3)))) in
        let hi : n x ≤ t = subst (λ (y : X). n y ≤ t) is (at_most (n (get_or xs k.0 x)) t (through.0 k.0 x (omega arith) k.2)) in
        ((k.0, slice_get_within xs k.0 x k.3, is), omega (arith, lo, hi)),
    λ (c, e).
        let k = c.0 in
        let is : get_or xs k x ≡ x = c.2 in
        let m : n (get_or xs k x) ≡ t = ap n is ∙ e in
        part_has xs low high high_in x k
        (elim (cases_lt k low) [ inr le ↦ le | inl less ↦ absurd (omega (arith, m, at_most (suc (n (get_or xs k x))) t (before.0 k x (omega arith) less))) ])
        (elim (cases_lt k high) [ inl less ↦ less | inr le ↦ absurd (omega (arith, m, above (n (get_or xs k x)) t (through.1 k x le c.1))) ])
        (slice_get-get_or xs k x c.1 ∙ ap (λ (y : X). Some y) is),
  )

  pub run_order : (R : X → X → Type 0) → AllPairs R xs → AllPairs R (take (high - low) (drop low xs))
  run_order R order i j d lt inside =
      let a = part_at xs low high high_in i d (omega arith) in
      let b = part_at xs low high high_in j d inside in
      subst (λ (x : X). R x (get_or (take (high - low) (drop low xs)) j d)) (sym a.1) (subst (λ (x : X). R (get_or xs (low + i) d) x) (sym b.1) (order (low + i) (low + j) d (omega arith) (omega (arith, b.0))))

-- Parts of lists, by index.
use Rattle.std.proofs.Common.{◌≡◌, ◌<◌, ◌≤◌, ◌+◌, ◌-◌, ℕ, List, take, drop, length, get_or, Contains, Some, refl, sym, ap, ◌∙◌, arith}
use Rattle.std.specs.Prelude.{slice_get}
use Rattle.std.proofs.lemmas.Option.{slice_get_within, slice_get-get_or, get_or_from_slice_get}
use Rattle.std.proofs.lemmas.List.{get_or-take, get_or-drop, length-take, length-drop}

module _ {A : Type 0} (xs : List A) (low high : ℕ) (within : high ≤ length xs) where
  pub part_at : (i : ℕ) (d : A) → i < length (take (high - low) (drop low xs)) → (low + i < high) × (get_or (take (high - low) (drop low xs)) i d ≡ get_or xs (low + i) d)
  part_at i d lt =
      let short : i < high - low = omega (arith, length-take (high - low) (drop low xs)) in
      (omega arith, get_or-take (high - low) (drop low xs) i d short ∙ get_or-drop low xs i d)

  -- an element of the part is one of the list between the two indices
  pub in_part : (x : A) → Contains (take (high - low) (drop low xs)) x → (k : ℕ) × (low ≤ k) × (k < high) × (slice_get xs k ≡ Some x)
  in_part x c =
      let h = part_at c.0 x c.1 in
      (low + c.0, omega arith, h.0, slice_get-get_or xs (low + c.0) x (omega (arith, h.0)) ∙ ap (λ (y : A). Some y) (sym h.1 ∙ c.2))

  -- .. and the other way round
  pub part_has : (x : A) (k : ℕ) → low ≤ k → k < high → slice_get xs k ≡ Some x → Contains (take (high - low) (drop low xs)) x
  part_has x k from to e =
      let i = k - low in
      let lt : i < length (take (high - low) (drop low xs)) = omega (arith, length-take (high - low) (drop low xs), length-drop low xs) in
      let at : low + i ≡ k = omega arith in
      (i, lt, (part_at i x lt).1 ∙ ap (λ (n : ℕ). get_or xs n x) at ∙ get_or_from_slice_get xs k x x e)

-- A statement that is put into a list in order, at its place.
use Rattle.std.proofs.Common.{false, ◌≡◌, ◌⊎◌, ◌<◌, ◌≤◌, ◌+◌, ◌-◌, ℕ, suc, List, [], ◌∷◌, Contains, AllPairs, length, get_or, inl, inr, refl, sym, subst, ◌∙◌, arith}
use Rattle.std.specs.List.{insert, HoldsAt}
use Rattle.std.specs.List.Sorted.{IsNonDecreasingBy, IsPartitionPoint, IsSortedBy}
use Rattle.std.specs.declared.cmp.Ordering.{Ordering}
use Rattle.std.specs.declared.cmp.Ordering.TheVariants.{Less, Equal, Greater}
use Rattle.std.specs.Ordering.{is_lt, ordering_index, ordering_reverse}
use Rattle.std.proofs.lemmas.Bool.{cases_lt}
use Rattle.std.proofs.lemmas.List.Edits.{length-insert, get_or-insert_below, get_or-insert_at, get_or-insert_above}
use Rattle.std.proofs.lemmas.List.Elements.{All-contains_itself, All-weaker}
use Rattle.std.proofs.lemmas.List.Sorted.{IsPermutation-insert, IsPermutation-sym, Contains-permutation, searchable_from_sorted}
use Rattle.slicer_ids.specs.declared.ids.Statement.{Statement}
use Rattle.slicer_ids.specs.Sets.{IsOrderedListOf}
use Rattle.slicer_ids.specs.Order.{StatementBefore}
use Rattle.slicer_ids.proofs.Ordered.{Contains-cons_cases}
use Rattle.dep_form.specs.Orders.{RiseBy, statement_cmp}
use Rattle.dep_form.proofs.Searching.{statement_total, one_statement}
use Rattle.session_form.specs.States.{Gains}
use Rattle.session_state.proofs.StatementOrder.{less_before, greater_after, fall}

module _ (xs : List Statement) (i : ℕ) (s : Statement) (order : AllPairs StatementBefore xs) (le : i ≤ length xs)
    (low : (k : ℕ) (d : Statement) → k < i → StatementBefore (get_or xs k d) s) (high : (k : ℕ) (d : Statement) → i ≤ k → k < length xs → StatementBefore s (get_or xs k d)) where
  -- what stands at a place: an earlier statement, the new one, or a later one
  abbrev IsAt : ℕ → Statement → Statement → Type 0
  IsAt k d y =
      ((k < i) × (y ≡ get_or xs k d))
      ⊎ (((k ≡ i) × (y ≡ s)) ⊎ ((m : ℕ) × (k ≡ m + 1) × (i ≤ m) × (m < length xs) × (y ≡ get_or xs m d)))

  above : (k : ℕ) (d : Statement) → i < k → k < length (insert xs i s) → (m : ℕ) × (k ≡ m + 1) × (i ≤ m) × (m < length xs) × (get_or (insert xs i s) k d ≡ get_or xs m d)
  above k d gt within =
      let m : ℕ = k - 1 in
      let e : k ≡ m + 1 = omega (arith, gt) in
      let size = length-insert xs i s le in (
        m,
        e,
        omega (arith, gt),
        omega (arith, gt, within, size),
        subst (λ n. get_or (insert xs i s) n d ≡ get_or xs m d) (sym e) (get_or-insert_above xs i s d m (omega (arith, gt)) le),
      )

  at_place : (k : ℕ) (d : Statement) → k < length (insert xs i s) → IsAt k d (get_or (insert xs i s) k d)
  at_place k d within = elim (cases_lt k i) [
    | inl lt ↦ inl (lt, get_or-insert_below xs i s d k lt le)
    | inr ge ↦ elim (cases_lt i k) [
      | inl gt ↦ inr (inr (above k d gt within))
      | inr eq ↦ let e : k ≡ i = omega (arith, ge, eq) in
          inr (inl (e, subst (λ n. get_or (insert xs i s) n d ≡ s) (sym e) (get_or-insert_at xs i s d le)))
    ]
  ]

  -- earlier and later places
  pairs : (j k : ℕ) (d x y : Statement) → j < k → IsAt j d x → IsAt k d y → StatementBefore x y
  pairs j k d x y lt (inl a) (inl b) = subst (λ z. StatementBefore z y) (sym a.1) (subst (StatementBefore (get_or xs j d)) (sym b.1) (order j k d lt (omega (arith, b.0, le))))
  pairs j k d x y lt (inl a) (inr (inl b)) = subst (λ z. StatementBefore z y) (sym a.1) (subst (StatementBefore (get_or xs j d)) (sym b.1) (low j d a.0))
  pairs j k d x y lt (inl a) (inr (inr b)) = subst (λ z. StatementBefore z y) (sym a.1) (subst (StatementBefore (get_or xs j d)) (sym b.4) (order j b.0 d (omega (arith, a.0, b.2)) b.3))
  pairs j k d x y lt (inr (inl a)) (inl b) = absurd (omega (arith, lt, a.0, b.0))
  pairs j k d x y lt (inr (inl a)) (inr (inl b)) = absurd (omega (arith, lt, a.0, b.0))
  pairs j k d x y lt (inr (inl a)) (inr (inr b)) = subst (λ z. StatementBefore z y) (sym a.1) (subst (StatementBefore s) (sym b.4) (high b.0 d b.2 b.3))
  pairs j k d x y lt (inr (inr a)) (inl b) = absurd (omega (arith, lt, a.1, a.2, b.0))
  pairs j k d x y lt (inr (inr a)) (inr (inl b)) = absurd (omega (arith, lt, a.1, a.2, b.0))
  pairs j k d x y lt (inr (inr a)) (inr (inr b)) = subst (λ z. StatementBefore z y) (sym a.4) (subst (StatementBefore (get_or xs a.0 d)) (sym b.4) (order a.0 b.0 d (omega (arith, lt, a.1, b.1)) b.3))

  pub inserted : Gains xs (λ t. t ≡ s) (insert xs i s)
  inserted =
      let moved = IsPermutation-insert xs i s in
      record {
        each = All-weaker (Contains (insert xs i s)) (λ t. Contains xs t ⊎ (t ≡ s))
            (λ t c. elim (Contains-cons_cases s t xs (Contains-permutation (insert xs i s) (s ∷ xs) t (IsPermutation-sym (s ∷ xs) (insert xs i s) moved) c)) [ inl e ↦ inr (sym e) | inr h ↦ inl h ])
            (insert xs i s) (All-contains_itself (insert xs i s));
        order = λ j k d lt within. pairs j k d _ _ lt (at_place j d (omega (arith, lt, within))) (at_place k d within);
        whole = λ t p. Contains-permutation (s ∷ xs) (insert xs i s) t moved (elim p [
          | inl c ↦ (suc c.0, omega (arith, c.1), c.2)
          | inr e ↦ (0, omega arith, sym e)
        ]);
      }

-- what was there already stays
pub as_before : (xs : List Statement) (s : Statement) → AllPairs StatementBefore xs → Contains xs s → Gains xs (λ t. t ≡ s) xs
as_before xs s order c = record {
  each = All-weaker (Contains xs) (λ t. Contains xs t ⊎ (t ≡ s)) (λ t d. inl d) xs (All-contains_itself xs);
  order = order;
  whole = λ t p. elim p [ inl d ↦ d | inr e ↦ subst (Contains xs) (sym e) c ];
}

-- ---- the place that a search by halving gives
not_before : (o p : Ordering) → o ≡ Less → p ≡ ordering_reverse o → is_lt p ≡ false
not_before Less Less e h = absurd cc
not_before Less Equal e h = refl
not_before Less Greater e h = refl
not_before Equal p e h = absurd cc
not_before Greater p e h = absurd cc

sorted : (xs : List Statement) → RiseBy statement_cmp (λ s. s) xs → IsSortedBy (λ a b. is_lt (statement_cmp a b)) xs
sorted xs rise = λ k d low high. not_before _ _ (rise k (k + 1) d (omega arith) high) (statement_total.antisymm (get_or xs (k + 1) d) (get_or xs k d))

module _ (old xs : List Statement) (i : ℕ) (s : Statement) (same : xs ≡ old) (rise : RiseBy statement_cmp (λ t. t) old) where
  pub inserted_at : (new : List Statement) → i ≤ length xs
      → (IsNonDecreasingBy (λ y. ordering_index (statement_cmp y s)) xs → IsPartitionPoint (λ y. statement_cmp y s ≡ Less) (λ y. statement_cmp y s ≡ Greater) xs i)
      → new ≡ insert old i s → Gains old (λ t. t ≡ s) new
  inserted_at new le found is =
      let P : List Statement → Type 0 = λ zs. IsNonDecreasingBy (λ y. ordering_index (statement_cmp y s)) zs → IsPartitionPoint (λ y. statement_cmp y s ≡ Less) (λ y. statement_cmp y s ≡ Greater) zs i in
      let point = (subst P same found) (searchable_from_sorted statement_total (λ (t : Statement). t) old s (sorted old rise)) in
      let le' : i ≤ length old = subst (λ (zs : List Statement). i ≤ length zs) same le in
      subst (Gains old (λ t. t ≡ s)) (sym is)
      (inserted old i s (fall old rise) le' (λ k d lt. less_before _ _ (point.0 k d (omega arith) lt)) (λ k d ge lt. greater_after _ _ (point.1 k d ge lt)))

  pub found_at : i < length xs → HoldsAt (λ y. statement_cmp y s ≡ Equal) xs i → Gains old (λ t. t ≡ s) old
  found_at lt here = as_before old s (fall old rise) (i, subst (λ (zs : List Statement). i < length zs) same lt, subst (λ (zs : List Statement). get_or zs i s ≡ s) same (one_statement (get_or xs i s) s (here s)))

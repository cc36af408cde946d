-- The arguments from a number on, one after another.
use Rattle.std.proofs.Common.{◌≡◌, ℕ, ◌<◌, ◌≤◌, ◌+◌, Bool, true, false, List, [], ◌∷◌, ◌++◌, length, inl, inr, sym, ap, ◌∙◌, arith}
use Rattle.std.specs.Prelude.{◌||◌, slice_index_or}
use Rattle.std.proofs.lemmas.Bool.{cases_lt}
use Rattle.slicer_ids.specs.Sets.{IsOrderedListOf}
use Rattle.slicer_ids.proofs.GrowingOrder.{pushed, reworded, without}
use Rattle.outside_model.specs.Arguments.{IsFrom}

-- the arguments from a number on that come before another
abbrev pub Before : List Bool → ℕ → Bool → ℕ → ℕ → Type 0
Before references first all i k = IsFrom references first all k × (k < i)

pub begun : (references : List Bool) (first : ℕ) (all : Bool) (xs : List ℕ) → xs ≡ [] → IsOrderedListOf (λ i j. i < j) xs (λ k. IsFrom references first all k × (k < first))
begun references first all xs nil = without (λ i j. i < j) xs (Before references first all first) nil (λ k h. let low = h.0.from in let high = h.1 in omega arith)

pub one_more : (references : List Bool) (first : ℕ) (all : Bool) (xs : List ℕ) (i : ℕ) → first ≤ i → i < length references → all || slice_index_or references i false ≡ true
    → IsOrderedListOf (λ i j. i < j) xs (λ k. IsFrom references first all k × (k < i)) → IsOrderedListOf (λ i j. i < j) (xs ++ i ∷ []) (λ k. IsFrom references first all k × (k < i + 1))
one_more references first all xs i low lt kept h =
    pushed (λ i j. i < j) xs i (Before references first all i) (Before references first all (i + 1)) h
    (λ k p. p.1)
    (λ k p. (p.0, let high = p.1 in omega arith))
    (record { from = low; within = lt; kept = kept }, omega arith)
    (λ k q. elim (cases_lt k i) [ inl less ↦ inl (q.0, less) | inr most ↦ inr (let high = q.1 in omega arith) ])

pub none_more : (references : List Bool) (first : ℕ) (all : Bool) (xs : List ℕ) (i : ℕ) → all || slice_index_or references i false ≡ false
    → IsOrderedListOf (λ i j. i < j) xs (λ k. IsFrom references first all k × (k < i)) → IsOrderedListOf (λ i j. i < j) xs (λ k. IsFrom references first all k × (k < i + 1))
none_more references first all xs i dropped h =
    reworded (λ i j. i < j) xs (Before references first all i) (Before references first all (i + 1))
    (λ k p. (p.0, let high = p.1 in omega arith))
    (λ k q. elim (cases_lt k i) [
      | inl less ↦ (q.0, less)
      | inr most ↦
          let high = q.1 in
          let same : i ≡ k = omega arith in
          let no : false ≡ true = sym dropped ∙ (ap (λ (n : ℕ). all || slice_index_or references n false) same ∙ q.0.kept) in
          absurd (cc no)
    ])
    h

pub all_taken : (references : List Bool) (first : ℕ) (all : Bool) (xs : List ℕ) (i : ℕ) → length references ≤ i
    → IsOrderedListOf (λ i j. i < j) xs (λ k. IsFrom references first all k × (k < i)) → IsOrderedListOf (λ i j. i < j) xs (IsFrom references first all)
all_taken references first all xs i past h =
    reworded (λ i j. i < j) xs (Before references first all i) (IsFrom references first all) (λ k p. p.0) (λ k q. (q, let w = q.within in omega arith)) h

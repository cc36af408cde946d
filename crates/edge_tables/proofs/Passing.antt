-- Loops that look for an item and have passed some.
use Rattle.std.proofs.Common.{◌≡◌, ◌<◌, ◌≤◌, ◌+◌, ℕ, Bool, true, false, List, Contains, length, get_or, inl, inr, sym, subst, ◌∙◌, arith}
use Rattle.std.specs.Prelude.{◌↔◌, IsTrue}
use Rattle.std.proofs.lemmas.Bool.{cases_lt, false≢true}
use Rattle.std.proofs.lemmas.List.{get_or_default}

-- P holds of none of the first items
abbrev pub HoldsOfNone : {A : Type 0} → (A → Type 0) → List A → ℕ → Type 0
HoldsOfNone {A} P xs n = (k : ℕ) (d : A) → k < n → P (get_or xs k d) → ⊥

pub one_passed : {A : Type 0} (P : A → Type 0) (xs : List A) (i : ℕ) (b : Bool) (d : A) → i < length xs → b ≡ false → IsTrue b ↔ P (get_or xs i d) → HoldsOfNone P xs i → HoldsOfNone P xs (i + 1)
one_passed P xs i b d lt unset is before k e within p = elim (cases_lt k i) [
  | inl less ↦ before k e less p
  | inr ge ↦
      let at : k ≡ i = omega (arith, ge, within) in
      absurd (false≢true (sym unset ∙ is.1 (subst P (get_or_default xs i e d lt) (subst (λ n. P (get_or xs n e)) at p))))
]

pub all_passed : {A : Type 0} (P : A → Type 0) (xs : List A) (i : ℕ) → length xs ≤ i → HoldsOfNone P xs i → (x : A) → Contains xs x → P x → ⊥
all_passed P xs i le before x there p = before there.0 x (omega (arith, there.1, le)) (subst P (sym there.2) p)

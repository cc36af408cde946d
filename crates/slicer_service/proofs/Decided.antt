-- Whether scripts can be served beside one another is decided, also in the logic.
use Rattle.std.proofs.Common.{◌≡◌, ◌≢◌, ◌⊎◌, ◌≤◌, ℕ, List, [], ◌∷◌, All, AllPairs, length, suc, refl, ap, ◌∙◌, inl, inr, arith}
use Rattle.std.proofs.lemmas.Bool.{cases_eq, cases_lt}
use Rattle.std.proofs.lemmas.List.Elements.{All-nil, All-cons, All-head, All-tail}
use Rattle.std.proofs.lemmas.List.Kept.{AllPairs-cons}
use Rattle.words.specs.Scripts.{AreScripts, IsApart, output_of}

abbrev pub IsDecided : Type 0 → Type 0
IsDecided P = P ⊎ (P → ⊥)

not_so : {P : Type 0} → IsDecided P → IsDecided (P → ⊥)
not_so (inl p) = inr (λ h. h p)
not_so (inr none) = inl none

abbrev first_byte : List ℕ → ℕ
first_byte [] = 0
first_byte (x ∷ xs) = x

abbrev other_bytes : List ℕ → List ℕ
other_bytes [] = []
other_bytes (x ∷ xs) = xs

same_bytes : (xs ys : List ℕ) → IsDecided (xs ≡ ys)
same_bytes [] [] = inl refl
same_bytes [] (y ∷ ys) = inr (λ e. absurd (cc e))
same_bytes (x ∷ xs) [] = inr (λ e. absurd (cc e))
same_bytes (x ∷ xs) (y ∷ ys) = elim (cases_eq x y) [
  | inl e ↦ elim (same_bytes xs ys) [ inl f ↦ inl (ap (λ (z : ℕ). z ∷ xs) e ∙ ap (λ (zs : List ℕ). y ∷ zs) f) | inr none ↦ inr (λ h. none (ap other_bytes h)) ]
  | inr none ↦ inr (λ h. none (ap first_byte h))
]

apart : (a b : List ℕ) → IsDecided (IsApart a b)
apart a b =
    let first : IsDecided (a ≢ b) = not_so (same_bytes a b) in
    let second : IsDecided (b ≢ output_of a) = not_so (same_bytes b (output_of a)) in
    let third : IsDecided (a ≢ output_of b) = not_so (same_bytes a (output_of b)) in
    elim first [
      | inr no_first ↦ inr (λ h. no_first h.0)
      | inl one ↦ elim second [
        | inr no_second ↦ inr (λ h. no_second h.1)
        | inl two ↦ elim third [ inr no_third ↦ inr (λ h. no_third h.2) | inl three ↦ inl (one, two, three) ]
      ]
    ]

all_apart : (a : List ℕ) (xs : List (List ℕ)) → IsDecided (All (IsApart a) xs)
all_apart a [] = inl (All-nil (IsApart a))
all_apart a (x ∷ xs) = elim (apart a x) [
  | inr none ↦ inr (λ h. none (All-head (IsApart a) x xs h))
  | inl one ↦ elim (all_apart a xs) [ inr none ↦ inr (λ h. none (All-tail (IsApart a) x xs h)) | inl rest ↦ inl (All-cons (IsApart a) x xs one rest) ]
]

no_pairs : AllPairs IsApart []
no_pairs i j d early lt = absurd (omega (arith, lt))

head_pairs : (x : List ℕ) (xs : List (List ℕ)) → AllPairs IsApart (x ∷ xs) → All (IsApart x) xs
head_pairs x xs h k d lt = h 0 (suc k) d (omega arith) (omega (arith, lt))

tail_pairs : (x : List ℕ) (xs : List (List ℕ)) → AllPairs IsApart (x ∷ xs) → AllPairs IsApart xs
tail_pairs x xs h i j d early lt = h (suc i) (suc j) d (omega (arith, early)) (omega (arith, lt))

pairs : (xs : List (List ℕ)) → IsDecided (AllPairs IsApart xs)
pairs [] = inl no_pairs
pairs (x ∷ xs) = elim (all_apart x xs) [
  | inr none ↦ inr (λ h. none (head_pairs x xs h))
  | inl one ↦ elim (pairs xs) [ inr none ↦ inr (λ h. none (tail_pairs x xs h)) | inl rest ↦ inl (AllPairs-cons IsApart x xs one rest) ]
]

few : (n : ℕ) → IsDecided (n ≤ 64)
few n = elim (cases_lt 64 n) [ inl over ↦ inr (λ h. omega (arith, over, h)) | inr under ↦ inl under ]

pub are_scripts : (scripts : List (List ℕ)) → IsDecided (AreScripts scripts)
are_scripts scripts = elim (few (length scripts)) [
  | inr none ↦ inr (λ h. none h.few)
  | inl some ↦ elim (pairs scripts) [ inr none ↦ inr (λ h. none h.apart) | inl all ↦ inl (record { few = some; apart = all }) ]
]

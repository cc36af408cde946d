-- Whether two lists of statements, or of lines, are one is decided.
use Rattle.std.proofs.Common.{◌≡◌, ◌⊎◌, ℕ, zero, List, [], ◌∷◌, Option, Some, None, refl, sym, ap, ◌∙◌, inl, inr}
use Rattle.std.proofs.lemmas.Bool.{cases_eq}
use Rattle.slicer_ids.specs.declared.ids.MethodId.{MethodId}
use Rattle.slicer_ids.specs.declared.ids.Statement.{Statement}
use Rattle.report.specs.declared.reply.LinePlace.{LinePlace}

abbrev pub IsDecided : Type 0 → Type 0
IsDecided P = P ⊎ (P → ⊥)

abbrev number_in : Option ℕ → ℕ
number_in None = 0
number_in (Some n) = n

abbrev head_or : {A : Type 0} → A → List A → A
head_or d [] = d
head_or d (x ∷ xs) = x

abbrev tail_of : {A : Type 0} → List A → List A
tail_of [] = []
tail_of (x ∷ xs) = xs

same_method : (a b : MethodId) → IsDecided (a ≡ b)
same_method a b = elim (cases_eq a.0 b.0) [ inl e ↦ inl (ap (λ (n : ℕ). record { 0 = n }) e) | inr apart ↦ inr (λ h. apart (ap (λ (m : MethodId). m.0) h)) ]

same_line : (a b : Option ℕ) → IsDecided (a ≡ b)
same_line None None = inl refl
same_line None (Some n) = inr (λ e. absurd (cc e))
same_line (Some n) None = inr (λ e. absurd (cc e))
same_line (Some m) (Some n) = elim (cases_eq m n) [ inl e ↦ inl (ap Some e) | inr apart ↦ inr (λ h. apart (ap number_in h)) ]

same_statement : (a b : Statement) → IsDecided (a ≡ b)
same_statement a b = elim (same_method a.method b.method) [
  | inr apart ↦ inr (λ h. apart (ap (λ (s : Statement). s.method) h))
  | inl e ↦ elim (cases_eq a.pc b.pc) [
    | inr apart ↦ inr (λ h. apart (ap (λ (s : Statement). s.pc) h))
    | inl g ↦ inl (ap (λ (m : MethodId). record { method = m; pc = a.pc }) e ∙ ap (λ (n : ℕ). record { method = b.method; pc = n }) g)
  ]
]

same_place : (a b : LinePlace) → IsDecided (a ≡ b)
same_place a b = elim (same_method a.method b.method) [
  | inr apart ↦ inr (λ h. apart (ap (λ (s : LinePlace). s.method) h))
  | inl e ↦ elim (same_line a.line b.line) [
    | inr apart ↦ inr (λ h. apart (ap (λ (s : LinePlace). s.line) h))
    | inl g ↦ inl (ap (λ (m : MethodId). record { method = m; line = a.line }) e ∙ ap (λ (n : Option ℕ). record { method = b.method; line = n }) g)
  ]
]

same_lists : {A : Type 0} → ((a b : A) → IsDecided (a ≡ b)) → (xs ys : List A) → IsDecided (xs ≡ ys)
same_lists each [] [] = inl refl
same_lists each [] (y ∷ ys) = inr (λ e. absurd (cc e))
same_lists each (x ∷ xs) [] = inr (λ e. absurd (cc e))
same_lists each (x ∷ xs) (y ∷ ys) = elim (each x y) [
  | inr apart ↦ inr (λ h. apart (ap (head_or x) h))
  | inl e ↦ elim (same_lists each xs ys) [
    | inr apart ↦ inr (λ h. apart (ap tail_of h))
    | inl g ↦ inl (ap (λ z. z ∷ xs) e ∙ ap (λ zs. y ∷ zs) g)
  ]
]

pub same_statements : (xs ys : List Statement) → IsDecided (xs ≡ ys)
same_statements = same_lists same_statement

pub same_places : (xs ys : List LinePlace) → IsDecided (xs ≡ ys)
same_places = same_lists same_place

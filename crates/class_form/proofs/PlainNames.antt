use Rattle.std.proofs.Common.{◌≢◌, inl, inr, ℕ, Bool, ◌&&◌, ◌||◌, List, [], ◌∷◌, Decides, refl, arith}
use Rattle.std.specs.Prelude.{codes, not}
use Rattle.std.specs.List.{AllByRecursion, list_all}
use Rattle.std.specs.Str.{bytes_eq}
use Rattle.std.proofs.lemmas.Slice.Eq.{bytes_eq-Decides}
use Rattle.std.proofs.lemmas.Bool.Decides.{Decides-and, Decides-or, Decides-like, nat_tests}
use Rattle.class_form.specs.Names.{IsPlainByte, IsUnqualifiedName, IsOutsideBrackets, IsMethodName}
use Rattle.class_form.specs.NameTests.{is_plain, is_empty, is_outside_brackets, is_modified_utf8, is_unqualified_name, is_method_name}
use Rattle.class_form.proofs.Characters.{is_modified_utf8-Decides}

pub list_all-Decides : {X : Type 0} (p : X → Bool) (P : X → Type 0) → ((x : X) → Decides (p x) (P x)) → (xs : List X) → Decides (list_all p xs) (AllByRecursion P xs)
list_all-Decides p P each [] = (λ h. tt, λ h. refl)
list_all-Decides p P each (x ∷ xs) = Decides-and (p x) (list_all p xs) (each x) (list_all-Decides p P each xs)

pub is_plain-Decides : (b : ℕ) → Decides (is_plain b) (IsPlainByte b)
is_plain-Decides b = (λ h. grind (arith, nat_tests), λ h. grind (arith, nat_tests))

is_outside_brackets-Decides : (b : ℕ) → Decides (is_outside_brackets b) (IsOutsideBrackets b)
is_outside_brackets-Decides b = (λ h. grind (arith, nat_tests), λ h. grind (arith, nat_tests))

is_empty-Decides : (bytes : List ℕ) → Decides (not (is_empty bytes)) (bytes ≢ [])
is_empty-Decides [] = (λ h. cc, λ h. absurd (h refl))
is_empty-Decides (b ∷ bytes) = (λ h e. cc, λ h. refl)

-- the test holds exactly of unqualified names
pub is_unqualified_name-Decides : (bytes : List ℕ) → Decides (is_unqualified_name bytes) (IsUnqualifiedName bytes)
is_unqualified_name-Decides bytes =
    Decides-like (is_unqualified_name bytes) (λ h. (h.0.0, h.0.1, h.1)) (λ h. ((h.0, h.1), h.2))
    (Decides-and (is_modified_utf8 bytes && not (is_empty bytes)) (list_all is_plain bytes)
    (Decides-and (is_modified_utf8 bytes) (not (is_empty bytes)) (is_modified_utf8-Decides bytes) (is_empty-Decides bytes))
    (list_all-Decides is_plain IsPlainByte is_plain-Decides bytes))

-- the test holds exactly of method names
pub is_method_name-Decides : (bytes : List ℕ) → Decides (is_method_name bytes) (IsMethodName bytes)
is_method_name-Decides bytes =
    Decides-like (is_method_name bytes)
    (λ h. (h.0, elim h.1 [ inl k ↦ elim k [ inl a ↦ inl a | inr b ↦ inr (inl b) ] | inr k ↦ inr (inr k) ]))
    (λ h. (h.0, elim h.1 [ inl a ↦ inl (inl a) | inr k ↦ elim k [ inl b ↦ inl (inr b) | inr c ↦ inr c ] ]))
    (Decides-and (is_unqualified_name bytes) (list_all is_outside_brackets bytes || bytes_eq bytes (codes "<init>") || bytes_eq bytes (codes "<clinit>")) (is_unqualified_name-Decides bytes)
    (Decides-or (list_all is_outside_brackets bytes || bytes_eq bytes (codes "<init>")) (bytes_eq bytes (codes "<clinit>"))
    (Decides-or (list_all is_outside_brackets bytes) (bytes_eq bytes (codes "<init>")) (list_all-Decides is_outside_brackets IsOutsideBrackets is_outside_brackets-Decides bytes) (bytes_eq-Decides bytes (codes "<init>")))
    (bytes_eq-Decides bytes (codes "<clinit>"))))

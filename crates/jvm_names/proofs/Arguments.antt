-- The arguments of a method type, one after another.
use Rattle.std.proofs.Common.{◌≡◌, ◌≢◌, ℕ, ◌<◌, List, [], ◌∷◌, ◌++◌, length, refl, sym, subst, ◌∙◌, ap, arith, length-append, append_assoc, append-nil}
use Rattle.std.specs.Prelude.{slice_index_or}
use Rattle.std.specs.List.{AllByRecursion}
use Rattle.class_form.specs.declared.types.FieldType.{FieldType}
use Rattle.class_form.specs.Types.{IsType, spell_type, spell_types}
use Rattle.class_form.proofs.DescriptorsRead.{begins_type}
use Rattle.class_form.proofs.OneType.{same_type}
use Rattle.jvm_names.specs.Reading.{StartsWithArguments}

pub spell_types-append : (ts us : List FieldType) → spell_types (ts ++ us) ≡ spell_types ts ++ spell_types us
spell_types-append [] us = refl
spell_types-append (t ∷ ts) us = ap (λ x. spell_type t ++ x) (spell_types-append ts us) ∙ sym (append_assoc (spell_type t) (spell_types ts) (spell_types us))

pub spell_types-push : (ts : List FieldType) (t : FieldType) → spell_types (ts ++ t ∷ []) ≡ spell_types ts ++ spell_type t
spell_types-push ts t = spell_types-append ts (t ∷ []) ∙ ap (λ x. spell_types ts ++ x) (append-nil (spell_type t))

pub not_empty : (bytes : List ℕ) → StartsWithArguments bytes → 0 < length bytes
not_empty bytes h = omega (arith, ap length h.3, length-append (spell_types h.0) (41 ∷ h.1))

pub record OneMore (bytes : List ℕ) : Type 0 where
  pub type : FieldType
  pub rest : List ℕ
  pub is : IsType type
  pub text : bytes ≡ spell_type type ++ rest
  pub others : StartsWithArguments rest

-- where no `)` stands, a type does
pub one_more_argument : (bytes : List ℕ) → StartsWithArguments bytes → slice_index_or bytes 0 0 ≢ 41 → OneMore bytes
one_more_argument bytes h n = by_types h.0 h.2 h.3
  where
    by_types : (ts : List FieldType) → AllByRecursion IsType ts → bytes ≡ spell_types ts ++ 41 ∷ h.1 → OneMore bytes
    by_types [] k e = absurd (n (ap (λ x. slice_index_or x 0 0) e))
    by_types (t ∷ ts) k e =
        record { type = t; rest = spell_types ts ++ 41 ∷ h.1; is = k.0; text = e ∙ append_assoc (spell_type t) (spell_types ts) (41 ∷ h.1); others = (ts, h.1, k.1, refl) }

-- where a `)` stands, no more types do
pub no_more_arguments : (bytes : List ℕ) → StartsWithArguments bytes → slice_index_or bytes 0 0 ≡ 41 → (rest : List ℕ) × (bytes ≡ 41 ∷ rest)
no_more_arguments bytes h n = by_types h.0 h.2 h.3
  where
    by_types : (ts : List FieldType) → AllByRecursion IsType ts → bytes ≡ spell_types ts ++ 41 ∷ h.1 → (rest : List ℕ) × (bytes ≡ 41 ∷ rest)
    by_types [] k e = (h.1, e)
    by_types (t ∷ ts) k e =
        let b = begins_type t k.0 in
        let front : bytes ≡ b.0 ∷ ((b.1 ++ spell_types ts) ++ 41 ∷ h.1) = e ∙ ap (λ x. (x ++ spell_types ts) ++ 41 ∷ h.1) b.2 in
        absurd (b.3 (sym (ap (λ x. slice_index_or x 0 0) front) ∙ n))

-- what follows the type that was found are the other arguments
pub others_follow : (bytes rest : List ℕ) (t : FieldType) → IsType t → bytes ≡ spell_type t ++ rest → OneMore bytes → StartsWithArguments rest
others_follow bytes rest t is e m = subst StartsWithArguments (sym (same_type t m.type rest m.rest is m.is (sym e ∙ m.text)).1) m.others

pub all-push : (ts : List FieldType) (t : FieldType) → AllByRecursion IsType ts → IsType t → AllByRecursion IsType (ts ++ t ∷ [])
all-push [] t h k = (k, tt)
all-push (u ∷ ts) t h k = (h.0, all-push ts t h.1 k)

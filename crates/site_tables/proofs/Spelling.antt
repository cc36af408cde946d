-- Texts that name types, and what stands in front of descriptors.
use Rattle.std.proofs.Common.{◌≡◌, ◌≢◌, ◌⊎◌, ◌<◌, ℕ, zero, suc, Bool, true, false, cond, eqb, List, [], ◌∷◌, ◌++◌, Option, Some, None, drop, take, refl, sym, ap, subst, ◌∙◌, inl, inr, ne_eqb, arith, append_assoc}
use Rattle.std.specs.Prelude.{slice_index_or}
use Rattle.std.specs.List.{flat_map}
use Rattle.class_form.specs.Names.{IsClassName}
use Rattle.class_form.specs.Types.{IsBase, IsType, NamesType, IsFieldType, IsArrayType, spell_base, spell_type, constant_text}
use Rattle.class_form.specs.declared.types.FieldType.{FieldType}
use Rattle.class_form.specs.declared.types.BaseType.{BaseType}
use Rattle.class_form.specs.declared.types.BaseType.TheVariants.{Primitive, Class}
use Rattle.class_form.proofs.DescriptorsRead.{letter_is, is_letter-Decides}
use Rattle.class_form.proofs.OneType.{one_field_type}
use Rattle.site_tables.specs.Making.{class_name_of}

abbrev pub type_of : ℕ → BaseType → FieldType
type_of dims base = record { dims = dims; base = base }

second : {A : Type 0} (b : Bool) (x y z : A) → b ≡ false → z ≡ cond b x y → z ≡ y
second true x y z e h = absurd (cc e)
second false x y z e h = h

-- an array is named by its descriptor
pub array_text : (n : ℕ) (base : BaseType) → 0 < n → constant_text (type_of n base) ≡ spell_type (type_of n base)
array_text n base lt = second (eqb n 0) _ _ (constant_text (type_of n base)) (ne_eqb n 0 (λ e. absurd (omega (arith, e, lt)))) refl

pub array_named : (text : List ℕ) (t : FieldType) → IsArrayType text t → NamesType text t
array_named text t (is, lt) = (is.0, is.1 ∙ sym (array_text t.dims t.base lt), inl lt)

pub class_named : (text : List ℕ) → IsClassName text → NamesType text (type_of 0 (Class text))
class_named text is = ((is, omega arith), refl, inr (text, refl))

-- a text names a class, or an array
abbrev pub Named : List ℕ → FieldType → Type 0
Named text t = ((t ≡ type_of 0 (Class text)) × IsClassName text) ⊎ IsArrayType text t

pub named : (text : List ℕ) (dims : ℕ) (base : BaseType) → NamesType text (type_of dims base) → Named text (type_of dims base)
named text zero (Class name) h = inl (ap (λ n. type_of 0 (Class n)) (sym h.1), subst IsClassName (sym h.1) h.0.0)
named text zero (Primitive letter) h = absurd (elim h.2 [ inl k ↦ omega (arith, k) | inr k ↦ let e = k.1 in cc e ])
named text (suc dims) base h = inr ((h.0, h.1 ∙ array_text (suc dims) base (omega arith)), omega arith)

-- the name of a class begins with no `[`
no_bracket : (name rest : List ℕ) → IsClassName name → name ≡ 91 ∷ rest → ⊥
no_bracket name rest ([], others, first, more, e) begins = first.1 refl
no_bracket name rest (b ∷ bs, others, first, more, e) begins =
    let same : 91 ∷ rest ≡ b ∷ (bs ++ flat_map (λ part. 47 ∷ part) others) = sym begins ∙ e in
    let here : 91 ≡ b = cc in
    first.2.0.2 (sym here)

class_or_array : (name : List ℕ) (dims : ℕ) (base : BaseType) → IsClassName name → IsArrayType name (type_of dims base) → ⊥
class_or_array name zero base is array = omega (arith, array.1)
class_or_array name (suc dims) base is array = no_bracket name (spell_type (type_of dims base)) is array.0.1

-- a text names one type
pub one_named : (text : List ℕ) (t u : FieldType) → NamesType text t → NamesType text u → t ≡ u
one_named text t u x y = alike (named text t.dims t.base x) (named text u.dims u.base y)
  where
    alike : Named text t → Named text u → t ≡ u
    alike (inl a) (inl b) = a.0 ∙ sym b.0
    alike (inl a) (inr b) = absurd (class_or_array text u.dims u.base a.1 b)
    alike (inr a) (inl b) = absurd (class_or_array text t.dims t.base b.1 a)
    alike (inr a) (inr b) = one_field_type text t u a.0 b.0

-- what stands in front of the bytes that begin with a base type: a letter, or the name of a class
pub letter_front : (base : BaseType) (bytes rest : List ℕ) → IsBase base → bytes ≡ spell_base base ++ rest → slice_index_or bytes 0 0 ≢ 76 → (class_name_of base ≡ None) × (drop 1 bytes ≡ rest)
letter_front (Primitive letter) bytes rest is e other = (refl, ap (λ xs. drop 1 xs) e)
letter_front (Class name) bytes rest is e other = absurd (other (ap (λ xs. slice_index_or xs 0 0) e))

pub class_front : (base : BaseType) (bytes rest : List ℕ) → IsBase base → bytes ≡ spell_base base ++ rest → slice_index_or bytes 0 0 ≡ 76 →
    (name : List ℕ) × (base ≡ Class name) × IsClassName name × (drop 1 bytes ≡ name ++ 59 ∷ rest)
class_front (Primitive letter) bytes rest is e here =
    let l = letter_is letter ((is_letter-Decides letter).1 is) in
    let first : letter ≡ 76 = sym (ap (λ xs. slice_index_or xs 0 0) e) ∙ here in
    absurd (l.2 first)
class_front (Class name) bytes rest is e here = (name, refl, is, ap (λ xs. drop 1 xs) e ∙ append_assoc name (59 ∷ []) rest)

pub not_empty_base : (base : BaseType) (bytes rest : List ℕ) → bytes ≡ spell_base base ++ rest → (b : ℕ) × (others : List ℕ) × (bytes ≡ b ∷ others)
not_empty_base (Primitive letter) bytes rest e = (letter, rest, e)
not_empty_base (Class name) bytes rest e = (76, (name ++ 59 ∷ []) ++ rest, e)

pub first_taken : (bytes : List ℕ) → slice_index_or (take 1 bytes) 0 0 ≡ slice_index_or bytes 0 0
first_taken [] = refl
first_taken (b ∷ bytes) = refl

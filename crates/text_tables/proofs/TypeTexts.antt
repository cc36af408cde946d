-- Types as Class constants name them.
use Rattle.std.proofs.Common.{◌≡◌, ◌<◌, ◌≤◌, ◌+◌, ◌-◌, ℕ, zero, suc, Bool, true, false, cond, eqb, List, [], ◌∷◌, ◌++◌, drop, refl, sym, ap, subst, ◌∙◌, inl, inr, ne_eqb, arith, append_assoc}
use Rattle.std.specs.Prelude.{replicate}
use Rattle.std.specs.List.{flat_map}
use Rattle.class_form.specs.Names.{IsClassName}
use Rattle.class_form.specs.Types.{NamesType, spell_base, spell_type, constant_text}
use Rattle.class_form.specs.declared.types.FieldType.{FieldType}
use Rattle.class_form.specs.declared.types.BaseType.{BaseType}
use Rattle.class_form.specs.declared.types.BaseType.TheVariants.{Primitive, Class}
use Rattle.text_tables.specs.SiteTexts.{layer}

abbrev pub type_of : ℕ → BaseType → FieldType
type_of dims base = record { dims = dims; base = base }

second : {A : Type 0} (b : Bool) (x y z : A) → b ≡ false → z ≡ cond b x y → z ≡ y
second true x y z e h = absurd (cc e)
second false x y z e h = h

-- an array is named by its descriptor
pub array_text : (n : ℕ) (base : BaseType) → 0 < n → constant_text (type_of n base) ≡ spell_type (type_of n base)
array_text n base lt = second (eqb n 0) _ _ (constant_text (type_of n base)) (ne_eqb n 0 (λ e. absurd (omega (arith, e, lt)))) refl

-- a class is named by its name
pub class_plain : (dims : ℕ) (name x : List ℕ) → dims ≡ 0 → x ≡ name → x ≡ constant_text (type_of dims (Class name))
class_plain dims name x e is = subst (λ (n : ℕ). x ≡ constant_text (type_of n (Class name))) (sym e) is

pub class_arrays : (dims : ℕ) (name x : List ℕ) → (dims ≡ 0 → ⊥) → x ≡ replicate dims 91 ++ 76 ∷ name ++ 59 ∷ [] → x ≡ constant_text (type_of dims (Class name))
class_arrays dims name x some is = is ∙ append_assoc (replicate dims 91) (76 ∷ name) (59 ∷ []) ∙ sym (array_text dims (Class name) (not_zero dims some))
  where
    not_zero : (n : ℕ) → (n ≡ 0 → ⊥) → 0 < n
    not_zero zero h = absurd (h refl)
    not_zero (suc n) h = omega arith

pub primitive_named : (dims letter : ℕ) (x : List ℕ) → x ≡ replicate dims 91 ++ letter ∷ [] → x ≡ constant_text (type_of dims (Primitive letter))
primitive_named zero letter x is = is
primitive_named (suc dims) letter x is = is ∙ sym (array_text (suc dims) (Primitive letter) (omega arith))

-- an array without its outer dimensions
dropped : (k n : ℕ) (rest : List ℕ) → k ≤ n → drop k (replicate n 91 ++ rest) ≡ replicate (n - k) 91 ++ rest
dropped zero n rest le = let e : n ≡ n - 0 = omega arith in ap (λ (m : ℕ). replicate m 91 ++ rest) e
dropped (suc k) zero rest le = absurd (omega (arith, le))
dropped (suc k) (suc n) rest le =
    let e : n - k ≡ suc n - suc k = omega arith in
    dropped k n rest (omega (arith, le)) ∙ ap (λ (m : ℕ). replicate m 91 ++ rest) e

pub layer_named : (text : List ℕ) (t : FieldType) (k : ℕ) → NamesType text t → k < t.dims → constant_text (layer t k) ≡ drop k text
layer_named text t k names lt =
    array_text (t.dims - k) t.base (omega (arith, lt)) ∙ sym (dropped k t.dims (spell_base t.base) (omega (arith, lt)))
    ∙ ap (λ (xs : List ℕ). drop k xs) (sym (array_text t.dims t.base (omega (arith, lt))) ∙ sym names.1)

-- the name of a class begins with no `[`
no_bracket : (name rest : List ℕ) → IsClassName name → name ≡ 91 ∷ rest → ⊥
no_bracket name rest ([], others, first, more, e) begins = first.1 refl
no_bracket name rest (b ∷ bs, others, first, more, e) begins =
    let same : 91 ∷ rest ≡ b ∷ (bs ++ flat_map (λ part. 47 ∷ part) others) = sym begins ∙ e in
    let here : 91 ≡ b = cc in
    first.2.0.2 (sym here)

-- what a text names is a class of this name, or an array
of_class : (text : List ℕ) (dims : ℕ) (base : BaseType) → IsClassName text → NamesType text (type_of dims base) → type_of dims base ≡ type_of 0 (Class text)
of_class text zero (Class name) is names = ap (λ (n : List ℕ). type_of 0 (Class n)) (sym names.1)
of_class text zero (Primitive letter) is names = absurd (elim names.2 [ inl k ↦ omega (arith, k) | inr k ↦ let e = k.1 in cc e ])
of_class text (suc dims) base is names = absurd (no_bracket text (spell_type (type_of dims base)) is (names.1 ∙ array_text (suc dims) base (omega arith)))

of_array : (text : List ℕ) (dims : ℕ) (base : BaseType) → (IsClassName text → ⊥) → NamesType text (type_of dims base) → (0 < dims) × (text ≡ spell_type (type_of dims base))
of_array text zero (Class name) other names = absurd (other (subst IsClassName (sym names.1) names.0.0))
of_array text zero (Primitive letter) other names = absurd (elim names.2 [ inl k ↦ omega (arith, k) | inr k ↦ let e = k.1 in cc e ])
of_array text (suc dims) base other names = (omega arith, names.1 ∙ array_text (suc dims) base (omega arith))

pub array_of_class : (text x : List ℕ) → IsClassName text → x ≡ replicate 1 91 ++ 76 ∷ text ++ 59 ∷ [] → (t : FieldType) → NamesType text t → x ≡ constant_text (type_of (t.dims + 1) t.base)
array_of_class text x is e t names =
    let same : t ≡ type_of 0 (Class text) = of_class text t.dims t.base is names in
    subst (λ (u : FieldType). x ≡ constant_text (type_of (u.dims + 1) u.base)) (sym same) e

pub array_of_array : (text x : List ℕ) → (IsClassName text → ⊥) → x ≡ 91 ∷ text → (t : FieldType) → NamesType text t → x ≡ constant_text (type_of (t.dims + 1) t.base)
array_of_array text x other e t names =
    let array = of_array text t.dims t.base other names in
    let more : suc t.dims ≡ t.dims + 1 = omega arith in
    e ∙ ap (λ (bs : List ℕ). 91 ∷ bs) array.1 ∙ ap (λ (n : ℕ). spell_type (type_of n t.base)) more ∙ sym (array_text (t.dims + 1) t.base (omega arith))

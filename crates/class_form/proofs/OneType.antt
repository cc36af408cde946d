-- A text spells at most one type.
use Rattle.std.proofs.Common.{◌≡◌, ◌≢◌, ℕ, zero, suc, List, [], ◌∷◌, ◌++◌, Option, Some, None, refl, sym, subst, ◌∙◌, ap, arith, append_assoc, append-nil}
use Rattle.std.specs.Prelude.{replicate}
use Rattle.std.specs.List.{AllByRecursion}
use Rattle.class_form.specs.declared.types.BaseType.{BaseType}
use Rattle.class_form.specs.declared.types.BaseType.TheVariants.{Primitive, Class}
use Rattle.class_form.specs.declared.types.FieldType.{FieldType}
use Rattle.class_form.specs.declared.types.MethodType.{MethodType}
use Rattle.class_form.specs.Names.{IsPlainByte, IsUnqualifiedName, IsClassName}
use Rattle.class_form.specs.Types.{IsBase, spell_base, spell_type, spell_result, spell_types, spell_method, IsType, IsFieldType, IsResult, IsMethodType}
use Rattle.class_form.proofs.ClassNames.{all-append, joined}
use Rattle.class_form.proofs.DescriptorsRead.{is_letter-Decides, letter_is, begins_type}

-- THE NAME OF A CLASS ENDS AT THE FIRST `;`

abbrev pub IsInside : ℕ → Type 0
IsInside b = b ≢ 59

plain_inside : (bytes : List ℕ) → AllByRecursion IsPlainByte bytes → AllByRecursion IsInside bytes
plain_inside [] h = tt
plain_inside (b ∷ bytes) h = (h.0.1, plain_inside bytes h.1)

joined_inside : (parts : List (List ℕ)) → AllByRecursion IsUnqualifiedName parts → AllByRecursion IsInside (joined parts)
joined_inside [] h = tt
joined_inside (p ∷ ps) h = (omega arith, all-append IsInside p (joined ps) (plain_inside p h.0.2) (joined_inside ps h.1))

pub name_inside : (name : List ℕ) → IsClassName name → AllByRecursion IsInside name
name_inside name h = rw h.4 (all-append IsInside h.0 (joined h.1) (plain_inside h.0 h.2.2) (joined_inside h.1 h.3))

same_name : (a b r s : List ℕ) → AllByRecursion IsInside a → AllByRecursion IsInside b → a ++ 59 ∷ r ≡ b ++ 59 ∷ s → (a ≡ b) × (r ≡ s)
same_name [] [] r s h k e = (refl, cc)
same_name [] (y ∷ b) r s h k e = let first : y ≡ 59 = cc in absurd (k.0 first)
same_name (x ∷ a) [] r s h k e = let first : x ≡ 59 = cc in absurd (h.0 first)
same_name (x ∷ a) (y ∷ b) r s h k e =
    let first : x ≡ y = cc in
    let others : a ++ 59 ∷ r ≡ b ++ 59 ∷ s = cc in
    let m = same_name a b r s h.1 k.1 others in
    (rw (first, m.0) refl, m.1)

-- ONE TYPE IN FRONT

same_base : (a b : BaseType) (r s : List ℕ) → IsBase a → IsBase b → spell_base a ++ r ≡ spell_base b ++ s → (a ≡ b) × (r ≡ s)
same_base (Primitive x) (Primitive y) r s h k e = let first : x ≡ y = cc in (ap (λ z. Primitive z) first, cc)
same_base (Primitive x) (Class n) r s h k e =
    let l = letter_is x ((is_letter-Decides x).1 h) in
    let first : x ≡ 76 = cc in
    absurd (l.2 first)
same_base (Class n) (Primitive y) r s h k e =
    let l = letter_is y ((is_letter-Decides y).1 k) in
    let first : y ≡ 76 = cc in
    absurd (l.2 first)
same_base (Class n) (Class m) r s h k e =
    let others : (n ++ 59 ∷ []) ++ r ≡ (m ++ 59 ∷ []) ++ s = cc in
    let names = same_name n m r s (name_inside n h) (name_inside m k) (sym (append_assoc n (59 ∷ []) r) ∙ others ∙ append_assoc m (59 ∷ []) s) in
    (ap (λ z. Class z) names.0, names.1)

-- the first byte of a base type
base_begins : (a : BaseType) → IsBase a → (b : ℕ) × (bytes : List ℕ) × (spell_base a ≡ b ∷ bytes) × (b ≢ 91) × (b ≢ 86)
base_begins (Primitive x) h = let l = letter_is x ((is_letter-Decides x).1 h) in (x, [], refl, omega (arith, l), l.3)
base_begins (Class n) h = (76, n ++ 59 ∷ [], refl, omega arith, omega arith)

same_dimensions : (n m : ℕ) (a b : BaseType) (r s : List ℕ) → IsBase a → IsBase b → (replicate n 91 ++ spell_base a) ++ r ≡ (replicate m 91 ++ spell_base b) ++ s → (n ≡ m) × (a ≡ b) × (r ≡ s)
same_dimensions zero zero a b r s h k e = let m = same_base a b r s h k e in (refl, m.0, m.1)
same_dimensions zero (suc m) a b r s h k e =
    let f = base_begins a h in
    let g : (f.0 ∷ f.1) ++ r ≡ 91 ∷ ((replicate m 91 ++ spell_base b) ++ s) = subst (λ x. x ++ r ≡ 91 ∷ ((replicate m 91 ++ spell_base b) ++ s)) f.2 e in
    let first : f.0 ≡ 91 = cc in
    absurd (f.3 first)
same_dimensions (suc n) zero a b r s h k e =
    let f = base_begins b k in
    let g : 91 ∷ ((replicate n 91 ++ spell_base a) ++ r) ≡ (f.0 ∷ f.1) ++ s = subst (λ x. 91 ∷ ((replicate n 91 ++ spell_base a) ++ r) ≡ x ++ s) f.2 e in
    let first : f.0 ≡ 91 = cc in
    absurd (f.3 first)
same_dimensions (suc n) (suc m) a b r s h k e =
    let others : (replicate n 91 ++ spell_base a) ++ r ≡ (replicate m 91 ++ spell_base b) ++ s = cc in
    let i = same_dimensions n m a b r s h k others in
    (ap (λ x. suc x) i.0, i.1, i.2)

-- bytes begin with at most one type
pub same_type : (t u : FieldType) (r s : List ℕ) → IsType t → IsType u → spell_type t ++ r ≡ spell_type u ++ s → (t ≡ u) × (r ≡ s)
same_type t u r s h k e =
    let m = same_dimensions t.dims u.dims t.base u.base r s h.0 k.0 e in
    (alike t.dims u.dims t.base u.base m.0 m.1, m.2)
  where
    alike : (n m : ℕ) (a b : BaseType) → n ≡ m → a ≡ b → (let x : FieldType = record { dims = n; base = a } in x) ≡ record { dims = m; base = b }
    alike n m a b p q = rw (p, q) refl

-- a field type is spelled by one value
pub one_field_type : (bytes : List ℕ) (t u : FieldType) → IsFieldType bytes t → IsFieldType bytes u → t ≡ u
one_field_type bytes t u h k =
    (same_type t u [] [] h.0 k.0 (append-nil (spell_type t) ∙ sym h.1 ∙ k.1 ∙ sym (append-nil (spell_type u)))).0

-- METHOD TYPES

pub type_begins : (t : FieldType) → IsType t → (b : ℕ) × (bytes : List ℕ) × (spell_type t ≡ b ∷ bytes) × (b ≢ 86)
type_begins t h = by_dimensions t.dims
  where
    by_dimensions : (n : ℕ) → (b : ℕ) × (bytes : List ℕ) × (replicate n 91 ++ spell_base t.base ≡ b ∷ bytes) × (b ≢ 86)
    by_dimensions zero = let f = base_begins t.base h.0 in (f.0, f.1, f.2, f.4)
    by_dimensions (suc n) = (91, replicate n 91 ++ spell_base t.base, refl, omega arith)

pub same_types : (ts us : List FieldType) (r s : List ℕ) → AllByRecursion IsType ts → AllByRecursion IsType us → spell_types ts ++ 41 ∷ r ≡ spell_types us ++ 41 ∷ s → (ts ≡ us) × (r ≡ s)
same_types [] [] r s h k e = (refl, cc)
same_types [] (u ∷ us) r s h k e =
    let b = begins_type u k.0 in
    let g : 41 ∷ r ≡ ((b.0 ∷ b.1) ++ spell_types us) ++ 41 ∷ s = subst (λ x. 41 ∷ r ≡ (x ++ spell_types us) ++ 41 ∷ s) b.2 e in
    let first : b.0 ≡ 41 = cc in
    absurd (b.3 first)
same_types (t ∷ ts) [] r s h k e =
    let b = begins_type t h.0 in
    let g : ((b.0 ∷ b.1) ++ spell_types ts) ++ 41 ∷ r ≡ 41 ∷ s = subst (λ x. (x ++ spell_types ts) ++ 41 ∷ r ≡ 41 ∷ s) b.2 e in
    let first : b.0 ≡ 41 = cc in
    absurd (b.3 first)
same_types (t ∷ ts) (u ∷ us) r s h k e =
    let front = same_type t u (spell_types ts ++ 41 ∷ r) (spell_types us ++ 41 ∷ s) h.0 k.0 (sym (append_assoc (spell_type t) (spell_types ts) (41 ∷ r)) ∙ e ∙ append_assoc (spell_type u) (spell_types us) (41 ∷ s)) in
    let others = same_types ts us r s h.1 k.1 front.1 in
    (rw (front.0, others.0) refl, others.1)

same_result : (a b : Option FieldType) → IsResult a → IsResult b → spell_result a ≡ spell_result b → a ≡ b
same_result None None h k e = refl
same_result None (Some u) h k e = let b = type_begins u k in let first : b.0 ≡ 86 = let g : 86 ∷ [] ≡ b.0 ∷ b.1 = e ∙ b.2 in cc in absurd (b.3 first)
same_result (Some t) None h k e = let b = type_begins t h in let first : b.0 ≡ 86 = let g : 86 ∷ [] ≡ b.0 ∷ b.1 = sym e ∙ b.2 in cc in absurd (b.3 first)
same_result (Some t) (Some u) h k e = ap (λ x. Some x) (same_type t u [] [] h k (ap (λ x. x ++ []) e)).0

-- a method type is spelled by one value
pub one_method_type : (bytes : List ℕ) (m n : MethodType) → IsMethodType bytes m → IsMethodType bytes n → m ≡ n
one_method_type bytes m n h k =
    let e : spell_method m ≡ spell_method n = sym h.3 ∙ k.3 in
    let inside : spell_types m.arguments ++ 41 ∷ spell_result m.result ≡ spell_types n.arguments ++ 41 ∷ spell_result n.result = cc in
    let args = same_types m.arguments n.arguments (spell_result m.result) (spell_result n.result) h.0 k.0 inside in
    alike m.arguments n.arguments m.result n.result args.0 (same_result m.result n.result h.2 k.2 args.1)
  where
    alike : (xs ys : List FieldType) (a b : Option FieldType) → xs ≡ ys → a ≡ b → (let x : MethodType = record { arguments = xs; result = a } in x) ≡ record { arguments = ys; result = b }
    alike xs ys a b p q = rw (p, q) refl

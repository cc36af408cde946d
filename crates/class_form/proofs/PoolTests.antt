-- The tests of the rules on constants decide them.
use Rattle.std.proofs.Common.{◌≡◌, ◌⊎◌, inl, inr, ℕ, ◌<◌, ◌≤◌, Bool, true, false, leb, ltb, List, [], ◌∷◌, ◌++◌, Option, Some, None, refl, sym, ap, subst, ◌∙◌, arith}
use Rattle.std.specs.Prelude.{not, ◌&&◌, ◌||◌, option_and_then}
use Rattle.std.specs.Option.{option_map_or}
use Rattle.std.specs.Bool.{Decides}
use Rattle.std.proofs.lemmas.Bool.Decides.{Decides-eqb, Decides-ltb, Decides-and, Decides-or, Decides-like, nat_tests}
use Rattle.class_form.specs.NameTests.{is_unqualified_name, is_method_name, is_field_type, is_method_type}
use Rattle.class_form.specs.Names.{IsUnqualifiedName, IsMethodName, IsClassName}
use Rattle.class_form.specs.Pools.{constant_at, utf_at, name_and_type_of}
use Rattle.class_form.specs.PoolRules.{IsTag, IsWide, IsReference, HasKinds, IsField, IsArray, IsMethod, HasTexts}
use Rattle.class_form.specs.PoolFaults.{EndsWide}
use Rattle.class_form.specs.PoolReading.{is_tag, is_wide_tag, is_wide, ends_wide, is_utf, is_class, is_name_and_type, is_field, is_method, is_interface_method, is_reference, has_kinds, text_is, is_class_text, names_field, names_method, has_texts}
use Rattle.class_form.proofs.PlainNames.{is_unqualified_name-Decides, is_method_name-Decides}
use Rattle.class_form.proofs.ClassNames.{is_class_name-Decides}
use Rattle.class_form.proofs.Descriptors.{is_field_type-Decides, is_array_type-Decides, is_method_type-Decides}
use Rattle.class_form.specs.declared.pool.Pool.{Pool}
use Rattle.class_form.specs.declared.pool.Constant.{Constant}
use Rattle.class_form.specs.declared.pool.Constant.TheVariants.{Utf8, Integer, Float, Long, Double, Class, Text, Field, Method, InterfaceMethod, NameAndType, Handle, MethodType, Dynamic, Second}

some_is : {A : Type 0} (x y : A) → Some x ≡ Some y → x ≡ y
some_is x y e = cc

-- ---- kinds

pub utf : (o : Option Constant) → Decides (is_utf o) ((text : List ℕ) × (o ≡ Some (Utf8 text)))
utf (Some (Utf8 text)) = (λ _. (text, refl), λ _. refl)
utf (Some c) = (λ e. absurd cc, λ h. absurd (let e = h.1 in cc))
utf None = (λ e. absurd cc, λ h. absurd (let e = h.1 in cc))

pub class : (o : Option Constant) → Decides (is_class o) ((name : ℕ) × (o ≡ Some (Class name)))
class (Some (Class name)) = (λ _. (name, refl), λ _. refl)
class (Some c) = (λ e. absurd cc, λ h. absurd (let e = h.1 in cc))
class None = (λ e. absurd cc, λ h. absurd (let e = h.1 in cc))

name_and_type : (o : Option Constant) → Decides (is_name_and_type o) ((name : ℕ) × (descriptor : ℕ) × (o ≡ Some (NameAndType name descriptor)))
name_and_type (Some (NameAndType n d)) = (λ _. (n, d, refl), λ _. refl)
name_and_type (Some c) = (λ e. absurd cc, λ h. absurd (let e = h.2 in cc))
name_and_type None = (λ e. absurd cc, λ h. absurd (let e = h.2 in cc))

field : (o : Option Constant) → Decides (is_field o) ((class : ℕ) × (rest : ℕ) × (o ≡ Some (Field class rest)))
field (Some (Field n d)) = (λ _. (n, d, refl), λ _. refl)
field (Some c) = (λ e. absurd cc, λ h. absurd (let e = h.2 in cc))
field None = (λ e. absurd cc, λ h. absurd (let e = h.2 in cc))

method : (o : Option Constant) → Decides (is_method o) ((class : ℕ) × (rest : ℕ) × (o ≡ Some (Method class rest)))
method (Some (Method n d)) = (λ _. (n, d, refl), λ _. refl)
method (Some c) = (λ e. absurd cc, λ h. absurd (let e = h.2 in cc))
method None = (λ e. absurd cc, λ h. absurd (let e = h.2 in cc))

interface_method : (o : Option Constant) → Decides (is_interface_method o) ((class : ℕ) × (rest : ℕ) × (o ≡ Some (InterfaceMethod class rest)))
interface_method (Some (InterfaceMethod n d)) = (λ _. (n, d, refl), λ _. refl)
interface_method (Some c) = (λ e. absurd cc, λ h. absurd (let e = h.2 in cc))
interface_method None = (λ e. absurd cc, λ h. absurd (let e = h.2 in cc))

pub Decides-leb : (a b : ℕ) → Decides (leb a b) (a ≤ b)
Decides-leb a b = (λ e. grind (arith, nat_tests), λ h. grind (arith, nat_tests))

reference : (p : Pool) (kind i : ℕ) → Decides (is_reference kind (constant_at p i)) (IsReference p kind i)
reference p kind i =
    let o = constant_at p i in
    let one = Decides-and _ _ (Decides-and _ _ (Decides-leb 1 kind) (Decides-leb kind 4)) (field o) in
    let two = Decides-and _ _ (Decides-and _ _ (Decides-leb 5 kind) (Decides-leb kind 8)) (method o) in
    let three = Decides-and _ _ (Decides-eqb kind 9) (interface_method o) in
    Decides-like _
    (λ h. elim h [ inl k ↦ elim k [ inl m ↦ inl (m.0.0, m.0.1, m.1.0, m.1.1, m.1.2) | inr m ↦ inr (inl (m.0.0, m.0.1, m.1.0, m.1.1, m.1.2)) ] | inr k ↦ inr (inr (k.0, k.1.0, k.1.1, k.1.2)) ])
    (λ h. elim h [ inl k ↦ inl (inl ((k.0, k.1), (k.2, k.3, k.4))) | inr k ↦ elim k [ inl m ↦ inl (inr ((m.0, m.1), (m.2, m.3, m.4))) | inr m ↦ inr (m.0, (m.1, m.2, m.3)) ] ])
    (Decides-or _ _ (Decides-or _ _ one two) three)

pub has_kinds-Decides : (p : Pool) (c : Constant) → Decides (has_kinds p c) (HasKinds p c)
has_kinds-Decides p (Utf8 text) = (λ _. tt, λ _. refl)
has_kinds-Decides p (Integer n) = (λ _. tt, λ _. refl)
has_kinds-Decides p (Float n) = (λ _. tt, λ _. refl)
has_kinds-Decides p (Long n) = (λ _. tt, λ _. refl)
has_kinds-Decides p (Double n) = (λ _. tt, λ _. refl)
has_kinds-Decides p (Class name) = utf (constant_at p name)
has_kinds-Decides p (Text text) = utf (constant_at p text)
has_kinds-Decides p (Field c n) = Decides-and _ _ (class (constant_at p c)) (name_and_type (constant_at p n))
has_kinds-Decides p (Method c n) = Decides-and _ _ (class (constant_at p c)) (name_and_type (constant_at p n))
has_kinds-Decides p (InterfaceMethod c n) = Decides-and _ _ (class (constant_at p c)) (name_and_type (constant_at p n))
has_kinds-Decides p (NameAndType n d) = Decides-and _ _ (utf (constant_at p n)) (utf (constant_at p d))
has_kinds-Decides p (Handle kind i) = reference p kind i
has_kinds-Decides p (MethodType d) = utf (constant_at p d)
has_kinds-Decides p (Dynamic b n) = name_and_type (constant_at p n)
has_kinds-Decides p Second = (λ _. tt, λ _. refl)

-- ---- texts

-- the text at an index passes a test exactly where it is of the test's kind
pub text_is-Decides : (test : List ℕ → Bool) (P : List ℕ → Type 0) → ((text : List ℕ) → Decides (test text) (P text)) → (p : Pool) (i : ℕ) → Decides (text_is test p i) ((text : List ℕ) × (utf_at p i ≡ Some text) × P text)
text_is-Decides test P d p i = by (utf_at p i)
  where
    by : (o : Option (List ℕ)) → Decides (option_map_or test o false) ((text : List ℕ) × (o ≡ Some text) × P text)
    by None = (λ e. absurd cc, λ h. absurd (let e = h.1 in cc))
    by (Some t) = (λ e. (t, refl, (d t).0 e), λ h. (d t).1 (subst P (sym (some_is t h.0 h.1)) h.2))

is_class_text-Decides : (text : List ℕ) → Decides (is_class_text text) (IsClassName text ⊎ IsArray text)
is_class_text-Decides text = Decides-or _ _ (is_class_name-Decides text) (is_array_type-Decides text)

-- the name and descriptor of a constant
named : (p : Pool) (n d : ℕ) (x : List ℕ) (y : List ℕ) → utf_at p n ≡ Some x → utf_at p d ≡ Some y → name_and_type_of p (NameAndType n d) ≡ Some (x, y)
named p n d x y e f = rw (e, f) refl

named_back : (p : Pool) (n d : ℕ) (x : List ℕ) (y : List ℕ) → name_and_type_of p (NameAndType n d) ≡ Some (x, y) → (utf_at p n ≡ Some x) × (utf_at p d ≡ Some y)
named_back p n d x y = by (utf_at p n) (utf_at p d)
  where
    by : (a b : Option (List ℕ)) → option_and_then (λ name. option_and_then {U = List ℕ × List ℕ} (λ descriptor. Some (name, descriptor)) b) a ≡ Some (x, y) → (a ≡ Some x) × (b ≡ Some y)
    by None b e = absurd cc
    by (Some u) None e = absurd cc
    by (Some u) (Some v) e = let h = some_is (u, v) (x, y) e in (ap (λ (q : List ℕ × List ℕ). Some q.0) h, ap (λ (q : List ℕ × List ℕ). Some q.1) h)

abbrev NamesBy : (List ℕ → Type 0) → (List ℕ → Type 0) → Pool → Option Constant → Type 0
NamesBy P Q p o = (name : List ℕ) × (descriptor : List ℕ) × (option_and_then (name_and_type_of p) o ≡ Some (name, descriptor)) × P name × Q descriptor

names_by : (test other : List ℕ → Bool) (P Q : List ℕ → Type 0) → ((t : List ℕ) → Decides (test t) (P t)) → ((t : List ℕ) → Decides (other t) (Q t)) → (p : Pool) (n d : ℕ)
    → Decides (text_is test p n && text_is other p d) (NamesBy P Q p (Some (NameAndType n d)))
names_by test other P Q dp dq p n d = Decides-like _
    (λ h. (h.0.0, h.1.0, named p n d h.0.0 h.1.0 h.0.1 h.1.1, h.0.2, h.1.2))
    (λ h. let k = named_back p n d h.0 h.1 h.2 in ((h.0, k.0, h.3), (h.1, k.1, h.4)))
    (Decides-and _ _ (text_is-Decides test P dp p n) (text_is-Decides other Q dq p d))

names_method-Decides : (p : Pool) (o : Option Constant) → Decides (names_method p o) (NamesBy IsMethodName IsMethod p o)
names_method-Decides p (Some (NameAndType n d)) = names_by is_method_name is_method_type IsMethodName IsMethod is_method_name-Decides is_method_type-Decides p n d
names_method-Decides p (Some c) = (λ e. absurd cc, λ h. absurd (let e = h.2 in cc))
names_method-Decides p None = (λ e. absurd cc, λ h. absurd (let e = h.2 in cc))

names_field-Decides : (p : Pool) (o : Option Constant) → Decides (names_field p o) (NamesBy IsUnqualifiedName IsField p o)
names_field-Decides p (Some (NameAndType n d)) =
    names_by is_unqualified_name is_field_type IsUnqualifiedName IsField is_unqualified_name-Decides is_field_type-Decides p n d
names_field-Decides p (Some c) = (λ e. absurd cc, λ h. absurd (let e = h.2 in cc))
names_field-Decides p None = (λ e. absurd cc, λ h. absurd (let e = h.2 in cc))

pub has_texts-Decides : (p : Pool) (c : Constant) → Decides (has_texts p c) (HasTexts p c)
has_texts-Decides p (Utf8 text) = (λ _. tt, λ _. refl)
has_texts-Decides p (Integer n) = (λ _. tt, λ _. refl)
has_texts-Decides p (Float n) = (λ _. tt, λ _. refl)
has_texts-Decides p (Long n) = (λ _. tt, λ _. refl)
has_texts-Decides p (Double n) = (λ _. tt, λ _. refl)
has_texts-Decides p (Class name) = text_is-Decides is_class_text _ is_class_text-Decides p name
has_texts-Decides p (Text text) = (λ _. tt, λ _. refl)
has_texts-Decides p (Field c n) = names_field-Decides p (constant_at p n)
has_texts-Decides p (Method c n) = names_method-Decides p (constant_at p n)
has_texts-Decides p (InterfaceMethod c n) = names_method-Decides p (constant_at p n)
has_texts-Decides p (NameAndType n d) =
    Decides-like _
    (λ h. elim h.1 [
      | inl k ↦ (h.0.0, k.0, h.0.1, k.1, h.0.2, inl k.2)
      | inr k ↦ (h.0.0, k.0, h.0.1, k.1, h.0.2, inr k.2)
    ])
    (λ h. ((h.0, h.2, h.4), elim h.5 [ inl k ↦ inl (h.1, h.3, k) | inr k ↦ inr (h.1, h.3, k) ]))
    (Decides-and _ _ (text_is-Decides is_unqualified_name IsUnqualifiedName is_unqualified_name-Decides p n)
    (Decides-or _ _ (text_is-Decides is_field_type IsField is_field_type-Decides p d) (text_is-Decides is_method_type IsMethod is_method_type-Decides p d)))
has_texts-Decides p (Handle kind i) = (λ _. tt, λ _. refl)
has_texts-Decides p (MethodType d) = text_is-Decides is_method_type IsMethod is_method_type-Decides p d
has_texts-Decides p (Dynamic b n) = names_method-Decides p (constant_at p n)
has_texts-Decides p Second = (λ _. tt, λ _. refl)

-- ---- tags, and what is wide

pub is_wide-Decides : (c : Constant) → Decides (is_wide c) (IsWide c)
is_wide-Decides (Long n) = (λ _. tt, λ _. refl)
is_wide-Decides (Double n) = (λ _. tt, λ _. refl)
is_wide-Decides c = (λ e. absurd cc, λ h. absurd h)

pub ends_wide-push : (before : List Constant) (c : Constant) → ends_wide (before ++ c ∷ []) ≡ is_wide c
ends_wide-push [] c = refl
ends_wide-push (b ∷ []) c = refl
ends_wide-push (b ∷ d ∷ before) c = ends_wide-push (d ∷ before) c

pub ends_wide-Decides : (before : List Constant) → Decides (ends_wide before) (EndsWide before)
ends_wide-Decides before = (λ e. found before e, λ h. ap ends_wide h.2 ∙ ends_wide-push h.0 h.1 ∙ (is_wide-Decides h.1).1 h.3)
  where
    found : (cs : List Constant) → ends_wide cs ≡ true → EndsWide cs
    found [] e = absurd cc
    found (c ∷ []) e = ([], c, refl, (is_wide-Decides c).0 e)
    found (c ∷ d ∷ cs) e = let h = found (d ∷ cs) e in (c ∷ h.0, h.1, ap (λ (xs : List Constant). c ∷ xs) h.2, h.3)

pub wide_tag-Decides : (tag left : ℕ) → Decides (not (is_wide_tag tag) || ltb 0 left) ((tag ≡ 5) ⊎ (tag ≡ 6) → 0 < left)
wide_tag-Decides tag left = by (is_wide_tag tag) (Decides-or _ _ (Decides-eqb tag 5) (Decides-eqb tag 6))
  where
    by : (b : Bool) → Decides b ((tag ≡ 5) ⊎ (tag ≡ 6)) → Decides (not b || ltb 0 left) ((tag ≡ 5) ⊎ (tag ≡ 6) → 0 < left)
    by true d = (λ e _. (Decides-ltb 0 left).0 e, λ h. (Decides-ltb 0 left).1 (h (d.0 refl)))
    by false d = (λ e h. absurd (let f = d.1 h in cc), λ h. refl)

pub is_tag-Decides : (major tag : ℕ) → Decides (is_tag major tag) (IsTag major tag)
is_tag-Decides major tag = Decides-like _
    (λ h. elim h [ inl k ↦ elim k [ inl m ↦ inl m | inr m ↦ inr (inl m) ] | inr k ↦ inr (inr (elim k.0 [ inl m ↦ elim m [ inl n ↦ inl n | inr n ↦ inr (inl n) ] | inr m ↦ inr (inr m) ], k.1)) ])
    (λ h. elim h [ inl k ↦ inl (inl k) | inr k ↦ elim k [ inl m ↦ inl (inr m) | inr m ↦ inr (elim m.0 [ inl n ↦ inl (inl n) | inr n ↦ elim n [ inl o ↦ inl (inr o) | inr o ↦ inr o ] ], m.1) ] ])
    (Decides-or _ _ (Decides-or _ _ (Decides-eqb tag 1) (Decides-and _ _ (Decides-leb 3 tag) (Decides-leb tag 12))) (Decides-and _ _ (Decides-or _ _ (Decides-or _ _ (Decides-eqb tag 15) (Decides-eqb tag 16)) (Decides-eqb tag 18)) (Decides-leb 51 major)))

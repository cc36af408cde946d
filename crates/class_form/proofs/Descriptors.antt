use Rattle.std.proofs.Common.{cond, nat_eq, ◌≡◌, ℕ, zero, suc, ◌+◌, ◌<◌, ◌≤◌, ◌⊎◌, inl, inr, Bool, true, false, ◌&&◌, List, [], ◌∷◌, ◌++◌, length, Option, Some, None, Decides, refl, sym, subst, ◌∙◌, ap, arith, append_assoc, append-nil, length-append}
use Rattle.std.proofs.lemmas.Bool.Decides.{nat_tests, Decides-eqb}
use Rattle.std.proofs.lemmas.List.Sums.{sum_by-cons}
use Rattle.std.specs.Prelude.{option_and_then, nat_lt, nat_le, replicate}
use Rattle.std.specs.List.{AllByRecursion}
use Rattle.class_form.specs.declared.types.BaseType.{BaseType}
use Rattle.class_form.specs.declared.types.BaseType.TheVariants.{Primitive, Class}
use Rattle.class_form.specs.declared.types.FieldType.{FieldType}
use Rattle.class_form.specs.declared.types.MethodType.{MethodType}
use Rattle.class_form.specs.Types.{IsBase, spell_base, spell_type, spell_types, IsType, IsFieldType, IsArrayType, IsMethodType, width, slots}
use Rattle.class_form.specs.NameTests.{reached, Alone, Argument, Outcome, InDescriptor, Open, Between, InType, InClass, End, after_type, go_on_type, go_on_descriptor, is_end, slots_at_end, is_field_type, is_array_type, is_method_type, parameter_slots}
use Rattle.class_form.proofs.Steps.{stepped}
use Rattle.class_form.proofs.DescriptorsRead.{is_letter-Decides, letter_is, begins_type, type_read, method_read}
use Rattle.class_form.proofs.DescriptorsFound.{TypeFound, VoidFound, type_found, end_stays, both_true}

-- A FIELD TYPE

pub field_found : (bytes : List ℕ) (j : ℕ) → reached go_on_descriptor (InType Alone 0) bytes ≡ Some (End j) → (t : FieldType) × IsFieldType bytes t
field_found bytes j h = by_found (type_found Alone 0 bytes j (omega arith) h)
  where
    by_found : TypeFound Alone 0 bytes j ⊎ VoidFound Alone 0 bytes j → (t : FieldType) × IsFieldType bytes t
    by_found (inl f) =
        let is_end : f.next ≡ End 0 = let k = f.stands in cc in
        let last = end_stays 0 j f.rest (subst (λ x. reached go_on_descriptor x f.rest ≡ Some (End j)) is_end f.goes) in
        (record { dims = f.more; base = f.base }, ((f.is, omega (arith, f.adds, f.within)), f.text ∙ ap (λ x. (replicate f.more 91 ++ spell_base f.base) ++ x) last.0 ∙ append-nil (replicate f.more 91 ++ spell_base f.base)))
    by_found (inr v) = let k = v.at in cc

pub field_read : (bytes : List ℕ) (t : FieldType) → IsFieldType bytes t → reached go_on_descriptor (InType Alone 0) bytes ≡ Some (End 0)
field_read bytes t h = rw h.1 (type_read Alone t h.0)

some_end : (o : Option InDescriptor) → is_end o ≡ true → (j : ℕ) × (o ≡ Some (End j))
some_end None h = cc
some_end (Some Open) h = cc
some_end (Some (Between k)) h = cc
some_end (Some (InType p d)) h = cc
some_end (Some (InClass p n)) h = cc
some_end (Some (End k)) h = (k, refl)

-- the test holds exactly of field types
pub is_field_type-Decides : (bytes : List ℕ) → Decides (is_field_type bytes) ((t : FieldType) × IsFieldType bytes t)
is_field_type-Decides bytes = (
  λ h. let e = some_end (reached go_on_descriptor (InType Alone 0) bytes) h in field_found bytes e.0 e.1,
  λ h. rw (field_read bytes h.0 h.1) refl,
)

-- the test holds exactly of array types
pub is_array_type-Decides : (bytes : List ℕ) → Decides (is_array_type bytes) ((t : FieldType) × IsArrayType bytes t)
is_array_type-Decides [] = (λ h. cc, λ h. let b = begins_type h.0 h.1.0.0 in let e = h.1.0.1 ∙ b.2 in cc)
is_array_type-Decides (b ∷ bytes) = (
  λ h.
      let both = both_true (nat_eq b 91) (is_field_type (b ∷ bytes)) h in
      let t = (is_field_type-Decides (b ∷ bytes)).0 both.1 in
      (t.0, (t.1, has_dimension t.0.dims t.0.base t.1.0.0 ((Decides-eqb b 91).0 both.0) t.1.1)),
  λ h. and_true (begins_dimension h.0.dims h.0.base h.1.1 h.1.0.1) ((is_field_type-Decides (b ∷ bytes)).1 (h.0, h.1.0)),
)
  where
    has_dimension : (n : ℕ) (base : BaseType) → IsBase base → b ≡ 91 → (b ∷ bytes) ≡ replicate n 91 ++ spell_base base → 0 < n
    has_dimension zero (Primitive letter) g e k =
        let l = letter_is letter ((is_letter-Decides letter).1 g) in
        let first : b ≡ letter = cc in
        absurd (omega (arith, l, first, e))
    has_dimension zero (Class name) g e k = let first : b ≡ 76 = cc in absurd (omega (arith, first, e))
    has_dimension (suc n) base g e k = omega arith

    begins_dimension : (n : ℕ) (base : BaseType) → 0 < n → (b ∷ bytes) ≡ replicate n 91 ++ spell_base base → nat_eq b 91 ≡ true
    begins_dimension zero base g k = absurd (omega (arith, g))
    begins_dimension (suc n) base g k = let first : b ≡ 91 = cc in (Decides-eqb b 91).1 first

    and_true : nat_eq b 91 ≡ true → is_field_type (b ∷ bytes) ≡ true → (nat_eq b 91 && is_field_type (b ∷ bytes)) ≡ true
    and_true e k = subst (λ x. (x && is_field_type (b ∷ bytes)) ≡ true) (sym e) k

-- A METHOD TYPE

-- from between arguments: more of them, `)`, and the result
abbrev pub ArgumentsFound : ℕ → List ℕ → ℕ → Type 0
ArgumentsFound before bytes j =
    (ts : List FieldType) × (rest : List ℕ) × (all : ℕ) × AllByRecursion IsType ts × (before + slots ts ≡ all) × (all ≤ 255) × (bytes ≡ spell_types ts ++ 41 ∷ rest)
    × (reached go_on_descriptor (InType (Outcome all) 0) rest ≡ Some (End j))

pub shorter : (bytes rest : List ℕ) (t : FieldType) → IsType t → bytes ≡ spell_type t ++ rest → length rest < length bytes
shorter bytes rest t is h =
    let b = begins_type t is in
    let e : bytes ≡ b.0 ∷ (b.1 ++ rest) = h ∙ ap (λ x. x ++ rest) b.2 in
    omega (arith, ap length e, length-append b.1 rest)

one_argument_more : (before : ℕ) (bytes : List ℕ) (j : ℕ) → TypeFound (Argument before) 0 bytes j
    → ((k : ℕ) (rest : List ℕ) → k ≤ 255 → length rest < length bytes → reached go_on_descriptor (Between k) rest ≡ Some (End j) → ArgumentsFound k rest j) → ArgumentsFound before bytes j
one_argument_more before bytes j f more =
    let t : FieldType = record { dims = f.more; base = f.base } in
    let all_is : f.all ≡ f.more = omega (arith, f.adds) in
    let is : IsType t = (f.is, omega (arith, all_is, f.within)) in
    by_room (nat_le (before + width t) 255) t refl is f.text f.next (subst (λ d. after_type (Argument before) (width (record { dims = d; base = f.base })) ≡ Some f.next) all_is f.stands) f.goes
  where
    by_room : (x : Bool) (t : FieldType) → nat_le (before + width t) 255 ≡ x → IsType t → bytes ≡ spell_type t ++ f.rest → (u : InDescriptor) → cond x (Some (Between (before + width t))) None ≡ Some u → reached go_on_descriptor u f.rest ≡ Some (End j)
        → ArgumentsFound before bytes j
    by_room true t e is text u k goes =
        let room : before + width t ≤ 255 = grind (arith, nat_tests) in
        let next : u ≡ Between (before + width t) = cc in
        let m = more (before + width t) f.rest room (shorter bytes f.rest t is text) (subst (λ x. reached go_on_descriptor x f.rest ≡ Some (End j)) next goes) in (
          t ∷ m.0,
          m.1,
          m.2,
          (is, m.3),
          omega (arith, sum_by-cons width t m.0, m.4),
          m.5,
          text ∙ ap (λ x. spell_type t ++ x) m.6 ∙ sym (append_assoc (spell_type t) (spell_types m.0) (41 ∷ m.1)),
          m.7,
        )
    by_room false t e is text u k goes = cc

arguments_found : (fuel before : ℕ) (bytes : List ℕ) (j : ℕ) → length bytes ≤ fuel → before ≤ 255 → reached go_on_descriptor (Between before) bytes ≡ Some (End j) → ArgumentsFound before bytes j
arguments_found fuel before [] j short fits h = cc
arguments_found zero before (b ∷ bytes) j short fits h = absurd (omega (arith, short))
arguments_found (suc fuel) before (b ∷ bytes) j short fits h =
    let s = stepped go_on_descriptor (Between before) (End j) b bytes h in
    by_end (nat_eq b 41) refl s.0 s.1 s.2 (λ k rest le less goes. arguments_found fuel k rest j (omega (arith, short, less)) le goes)
  where
    by_type : TypeFound (Argument before) 0 (b ∷ bytes) j ⊎ VoidFound (Argument before) 0 (b ∷ bytes) j
        → ((k : ℕ) (rest : List ℕ) → k ≤ 255 → length rest < length (b ∷ bytes) → reached go_on_descriptor (Between k) rest ≡ Some (End j) → ArgumentsFound k rest j) → ArgumentsFound before (b ∷ bytes) j
    by_type (inl f) more = one_argument_more before (b ∷ bytes) j f more
    by_type (inr v) more = let k = v.at in cc

    by_room : (x : Bool) (u : InDescriptor) → cond x (go_on_type (Argument before) 0 b) None ≡ Some u → reached go_on_descriptor u bytes ≡ Some (End j)
        → ((k : ℕ) (rest : List ℕ) → k ≤ 255 → length rest < length (b ∷ bytes) → reached go_on_descriptor (Between k) rest ≡ Some (End j) → ArgumentsFound k rest j) → ArgumentsFound before (b ∷ bytes) j
    by_room true u k r more =
        let whole : reached go_on_descriptor (InType (Argument before) 0) (b ∷ bytes) ≡ Some (End j) = ap (λ o. option_and_then (λ t. reached go_on_descriptor t bytes) o) k ∙ r in
        by_type (type_found (Argument before) 0 (b ∷ bytes) j (omega arith) whole) more
    by_room false u k r more = cc

    by_end : (x : Bool) → nat_eq b 41 ≡ x → (u : InDescriptor) → cond x (Some (InType (Outcome before) 0)) (cond (nat_lt before 255) (go_on_type (Argument before) 0 b) None) ≡ Some u → reached go_on_descriptor u bytes ≡ Some (End j)
        → ((k : ℕ) (rest : List ℕ) → k ≤ 255 → length rest < length (b ∷ bytes) → reached go_on_descriptor (Between k) rest ≡ Some (End j) → ArgumentsFound k rest j) → ArgumentsFound before (b ∷ bytes) j
    by_end true e u k r more =
        let is : b ≡ 41 = (Decides-eqb b 41).0 e in
        let next : u ≡ InType (Outcome before) 0 = cc in
        ([], bytes, before, tt, omega arith, fits, ap (λ x. x ∷ bytes) is, subst (λ x. reached go_on_descriptor x bytes ≡ Some (End j)) next r)
    by_end false e u k r more = by_room (nat_lt before 255) u k r more

pub method_found : (bytes : List ℕ) (j : ℕ) → reached go_on_descriptor Open bytes ≡ Some (End j) → (m : MethodType) × IsMethodType bytes m × (slots m.arguments ≡ j)
method_found [] j h = cc
method_found (b ∷ bytes) j h =
    let s = stepped go_on_descriptor Open (End j) b bytes h in
    by_open (nat_eq b 40) refl s.0 s.1 s.2
  where
    by_result : (a : ArgumentsFound 0 bytes j) → TypeFound (Outcome a.2) 0 a.1 j ⊎ VoidFound (Outcome a.2) 0 a.1 j → (m : MethodType) × IsMethodType (40 ∷ bytes) m × (slots m.arguments ≡ j)
    by_result a (inl f) =
        let next : f.next ≡ End a.2 = let k = f.stands in cc in
        let last = end_stays a.2 j f.rest (subst (λ x. reached go_on_descriptor x f.rest ≡ Some (End j)) next f.goes) in
        let t : FieldType = record { dims = f.more; base = f.base } in
        let text : a.1 ≡ spell_type t = f.text ∙ ap (λ x. spell_type t ++ x) last.0 ∙ append-nil (spell_type t) in (
          record { arguments = a.0; result = Some t },
          (a.3, omega (arith, a.4, a.5), (f.is, omega (arith, f.adds, f.within)), ap (λ x. 40 ∷ x) (a.6 ∙ ap (λ x. spell_types a.0 ++ 41 ∷ x) text)),
          omega (arith, a.4, last.1),
        )
    by_result a (inr v) =
        let same : a.2 ≡ j = let k = v.at in cc in (
          record { arguments = a.0; result = None },
          (a.3, omega (arith, a.4, a.5), tt, ap (λ x. 40 ∷ x) (a.6 ∙ ap (λ x. spell_types a.0 ++ 41 ∷ x) v.text)),
          omega (arith, a.4, same),
        )

    by_open : (x : Bool) → nat_eq b 40 ≡ x → (u : InDescriptor) → cond x (Some (Between 0)) None ≡ Some u → reached go_on_descriptor u bytes ≡ Some (End j) → (m : MethodType) × IsMethodType (b ∷ bytes) m × (slots m.arguments ≡ j)
    by_open true e u k r =
        let is : b ≡ 40 = (Decides-eqb b 40).0 e in
        let next : u ≡ Between 0 = cc in
        let a = arguments_found (length bytes) 0 bytes j (omega arith) (omega arith) (subst (λ x. reached go_on_descriptor x bytes ≡ Some (End j)) next r) in
        subst (λ x. (m : MethodType) × IsMethodType (x ∷ bytes) m × (slots m.arguments ≡ j)) (sym is) (by_result a (type_found (Outcome a.2) 0 a.1 j (omega arith) a.7))
    by_open false e u k r = cc

pub method_type_read : (bytes : List ℕ) (m : MethodType) → IsMethodType bytes m → reached go_on_descriptor Open bytes ≡ Some (End (slots m.arguments))
method_type_read bytes m h = rw h.3 (method_read m h.0 h.1 h.2)

-- the test holds exactly of method types
pub is_method_type-Decides : (bytes : List ℕ) → Decides (is_method_type bytes) ((m : MethodType) × IsMethodType bytes m)
is_method_type-Decides bytes = (
  λ h. let e = some_end (reached go_on_descriptor Open bytes) h in let m = method_found bytes e.0 e.1 in (m.0, m.1),
  λ h. rw (method_type_read bytes h.0 h.1) refl,
)

-- the slots are those of the arguments of the method type that the bytes spell
pub parameter_slots-is : (bytes : List ℕ) (m : MethodType) → IsMethodType bytes m → parameter_slots bytes ≡ Some (slots m.arguments)
parameter_slots-is bytes m h = rw (method_type_read bytes m h) refl

pub parameter_slots-found : (bytes : List ℕ) (n : ℕ) → parameter_slots bytes ≡ Some n → (m : MethodType) × IsMethodType bytes m × (slots m.arguments ≡ n)
parameter_slots-found bytes n h = method_found bytes n (at_end (reached go_on_descriptor Open bytes) h)
  where
    at_end : (o : Option InDescriptor) → slots_at_end o ≡ Some n → o ≡ Some (End n)
    at_end None e = cc
    at_end (Some Open) e = cc
    at_end (Some (Between k)) e = cc
    at_end (Some (InType p d)) e = cc
    at_end (Some (InClass p m)) e = cc
    at_end (Some (End k)) e = cc

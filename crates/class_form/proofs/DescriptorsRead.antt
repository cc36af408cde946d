use Rattle.std.proofs.Common.{cond, nat_eq, ◌≡◌, ◌≢◌, ℕ, zero, suc, ◌+◌, ◌<◌, ◌≤◌, inl, inr, Bool, true, false, ◌&&◌, List, [], ◌∷◌, ◌++◌, Option, Some, None, Decides, refl, sym, subst, ◌∙◌, ap, arith}
use Rattle.std.proofs.lemmas.Bool.Decides.{nat_tests, eqb_tells, Decides-eqb}
use Rattle.std.specs.Cmp.{nat_eq_equiv}
use Rattle.std.proofs.lemmas.Map.Views.{Contains-from_any, list_any-from_Contains}
use Rattle.std.proofs.lemmas.List.Sums.{sum_by-cons}
use Rattle.std.specs.Prelude.{option_and_then, option_map, Contains, replicate, nat_lt, nat_le}
use Rattle.std.specs.List.{AllByRecursion}
use Rattle.class_form.specs.declared.types.BaseType.{BaseType}
use Rattle.class_form.specs.declared.types.BaseType.TheVariants.{Primitive, Class}
use Rattle.class_form.specs.declared.types.FieldType.{FieldType}
use Rattle.class_form.specs.declared.types.MethodType.{MethodType}
use Rattle.class_form.specs.Types.{spell_base, spell_type, spell_result, spell_types, spell_method, IsBase, IsType, IsResult, width, slots}
use Rattle.class_form.specs.NameTests.{reached, Nothing, Zero, One, Two, High, InName, Fresh, Begun, go_on_name, is_whole, Place, Alone, Argument, Outcome, Open, Between, InType, InClass, End, after_type, is_letter, letter_width, go_on_type, go_on_descriptor}
use Rattle.class_form.proofs.Steps.{reached-then, stepped}
use Rattle.class_form.proofs.ClassNames.{name_read}

-- a step that is the last
last_step : {S : Type 0} (o : Option S) → option_and_then (λ t. Some t) o ≡ o
last_step None = refl
last_step (Some t) = refl

-- a byte other than `V` is read in the result as in any type
pub in_type : (place : Place) (dims b : ℕ) → b ≢ 86 → go_on_descriptor (InType place dims) b ≡ go_on_type place dims b
in_type Alone dims b n = refl
in_type (Argument k) dims b n = refl
in_type (Outcome k) dims b n = let e : nat_eq b 86 ≡ false = grind (arith, nat_tests) in rw e refl

-- DIMENSIONS

dims_read : (place : Place) (n dims : ℕ) (rest : List ℕ) → dims + n ≤ 255 → reached go_on_descriptor (InType place dims) (replicate n 91 ++ rest) ≡ reached go_on_descriptor (InType place (dims + n)) rest
dims_read place zero dims rest h = let e : dims + zero ≡ dims = omega arith in rw e refl
dims_read place (suc n) dims rest h =
    let less : nat_lt dims 255 ≡ true = grind (arith, nat_tests) in
    let first : go_on_descriptor (InType place dims) 91 ≡ Some (InType place (dims + 1)) = in_type place dims 91 (omega arith) ∙ rw less refl in
    let e : dims + 1 + n ≡ dims + suc n = omega arith in
    rw first (dims_read place n (dims + 1) rest (omega arith) ∙ rw e refl)

-- THE NAME OF A CLASS

pub and_false : (x : Bool) → (x && false) ≡ false
and_false true = refl
and_false false = refl

-- a step within a name is one within a descriptor
lifted : (place : Place) (n m : InName) (b : ℕ) → go_on_name n b ≡ Some m → go_on_descriptor (InClass place n) b ≡ Some (InClass place m)
lifted place n m b h =
    let e : (nat_eq b 59 && is_whole n) ≡ false = not_closed n refl h in
    subst (λ x. cond x (after_type place 1) (option_map (InClass place) (go_on_name n b)) ≡ Some (InClass place m)) (sym e) (rw h refl)
  where
    not_closed : (s : InName) → s ≡ n → go_on_name s b ≡ Some m → (nat_eq b 59 && is_whole s) ≡ false
    not_closed Fresh e k = and_false (nat_eq b 59)
    not_closed (Begun Nothing) e k =
        elim (eqb_tells b 59) [
          | inl t ↦ let at_end : go_on_name (Begun Nothing) 59 ≡ Some m = subst (λ x. go_on_name (Begun Nothing) x ≡ Some m) t.1 k in cc
          | inr t ↦ rw t.0 refl
        ]
    not_closed (Begun Zero) e k = and_false (nat_eq b 59)
    not_closed (Begun One) e k = and_false (nat_eq b 59)
    not_closed (Begun Two) e k = and_false (nat_eq b 59)
    not_closed (Begun High) e k = and_false (nat_eq b 59)

lifted_all : (place : Place) (n m : InName) (bytes : List ℕ) → reached go_on_name n bytes ≡ Some m → reached go_on_descriptor (InClass place n) bytes ≡ Some (InClass place m)
lifted_all place n m [] h = let e : n ≡ m = cc in rw e refl
lifted_all place n m (b ∷ bytes) h =
    let s = stepped go_on_name n m b bytes h in
    rw (lifted place n s.0 b s.1) (lifted_all place s.0 m bytes s.2)

pub class_read : (place : Place) (n : InName) (name : List ℕ) → reached go_on_name n name ≡ Some (Begun Nothing) → reached go_on_descriptor (InClass place n) (name ++ 59 ∷ []) ≡ after_type place 1
class_read place n name h = reached-then go_on_descriptor (InClass place n) (InClass place (Begun Nothing)) name (59 ∷ []) (lifted_all place n (Begun Nothing) name h) ∙ last_step (after_type place 1)

-- ONE TYPE

pub is_letter-Decides : (b : ℕ) → Decides (is_letter b) (Contains (66 ∷ 67 ∷ 68 ∷ 70 ∷ 73 ∷ 74 ∷ 83 ∷ 90 ∷ []) b)
is_letter-Decides b = (λ h. Contains-from_any {eq = nat_eq} (λ x y e. (Decides-eqb x y).0 e) b (66 ∷ 67 ∷ 68 ∷ 70 ∷ 73 ∷ 74 ∷ 83 ∷ 90 ∷ []) h, λ h. list_any-from_Contains nat_eq_equiv b (66 ∷ 67 ∷ 68 ∷ 70 ∷ 73 ∷ 74 ∷ 83 ∷ 90 ∷ []) h)

pub letter_is : (b : ℕ) → is_letter b ≡ true → (65 < b) × (b < 91) × (b ≢ 76) × (b ≢ 86)
letter_is b h = (grind (arith, nat_tests), grind (arith, nat_tests), grind (arith, nat_tests), grind (arith, nat_tests))

pub letter_step : (place : Place) (dims b : ℕ) → is_letter b ≡ true → go_on_type place dims b ≡ after_type place (letter_width dims b)
letter_step place dims b l =
    let k = letter_is b l in
    let no_dimension : nat_eq b 91 ≡ false = grind (arith, nat_tests) in
    let no_class : nat_eq b 76 ≡ false = grind (arith, nat_tests) in
    by_tests (nat_eq b 91) (nat_eq b 76) (is_letter b) no_dimension no_class l
  where
    by_tests : (x y z : Bool) → x ≡ false → y ≡ false → z ≡ true
        → cond x (cond (nat_lt dims 255) (Some (InType place (dims + 1))) None) (cond y (Some (InClass place Fresh)) (cond z (after_type place (letter_width dims b)) None)) ≡ after_type place (letter_width dims b)
    by_tests x y z e f g = rw (e, f, g) refl

abbrev pub base_width : ℕ → BaseType → ℕ
base_width dims base = width (record { dims = dims; base = base })

base_read : (place : Place) (dims : ℕ) (base : BaseType) → IsBase base → reached go_on_descriptor (InType place dims) (spell_base base) ≡ after_type place (base_width dims base)
base_read place dims (Primitive letter) h =
    let l = (is_letter-Decides letter).1 h in
    last_step (go_on_descriptor (InType place dims) letter) ∙ in_type place dims letter (letter_is letter l).3 ∙ letter_step place dims letter l
base_read place dims (Class name) h =
    let narrow : base_width dims (Class name) ≡ 1 = rw and_false refl in
    rw (in_type place dims 76 (omega arith)) (class_read place Fresh name (name_read name h) ∙ ap (after_type place) (sym narrow))

pub type_read : (place : Place) (t : FieldType) → IsType t → reached go_on_descriptor (InType place 0) (spell_type t) ≡ after_type place (width t)
type_read place t h =
    let e : 0 + t.dims ≡ t.dims = omega arith in
    dims_read place t.dims 0 (spell_base t.base) (omega (arith, h.1))
    ∙ subst (λ d. reached go_on_descriptor (InType place d) (spell_base t.base) ≡ after_type place (width t)) (sym e) (base_read place t.dims t.base h.0)

-- ARGUMENTS AND RESULT

pub width_some : (t : FieldType) → 1 ≤ width t
width_some t = one_or_two _
  where
    one_or_two : (x : Bool) → 1 ≤ cond x 2 1
    one_or_two true = omega arith
    one_or_two false = omega arith

-- a type begins with a byte other than `)`
pub begins_type : (t : FieldType) → IsType t → (b : ℕ) × (bytes : List ℕ) × (spell_type t ≡ b ∷ bytes) × (b ≢ 41)
begins_type t h = by_dimensions t.dims t.base h.0
  where
    by_dimensions : (n : ℕ) (base : BaseType) → IsBase base → (b : ℕ) × (bytes : List ℕ) × (replicate n 91 ++ spell_base base ≡ b ∷ bytes) × (b ≢ 41)
    by_dimensions zero (Primitive letter) g = let k = letter_is letter ((is_letter-Decides letter).1 g) in (letter, [], refl, omega (arith, k))
    by_dimensions zero (Class name) g = (76, name ++ 59 ∷ [], refl, omega arith)
    by_dimensions (suc n) base g = (91, replicate n 91 ++ spell_base base, refl, omega arith)

into_argument : (slots b : ℕ) (bytes : List ℕ) → slots < 255 → b ≢ 41 → reached go_on_descriptor (Between slots) (b ∷ bytes) ≡ reached go_on_descriptor (InType (Argument slots) 0) (b ∷ bytes)
into_argument slots b bytes h n =
    let not_end : nat_eq b 41 ≡ false = grind (arith, nat_tests) in
    let room : nat_lt slots 255 ≡ true = grind (arith, nat_tests) in
    let step : go_on_descriptor (Between slots) b ≡ go_on_descriptor (InType (Argument slots) 0) b =
    by_tests (nat_eq b 41) (nat_lt slots 255) not_end room in
    ap (λ o. option_and_then (λ t. reached go_on_descriptor t bytes) o) step
  where
    by_tests : (x y : Bool) → x ≡ false → y ≡ true → cond x (Some (InType (Outcome slots) 0)) (cond y (go_on_type (Argument slots) 0 b) None) ≡ go_on_type (Argument slots) 0 b
    by_tests x y e f = rw (e, f) refl

enters : (slots : ℕ) (t : FieldType) (rest : List ℕ) → slots < 255 → IsType t
    → reached go_on_descriptor (Between slots) (spell_type t ++ rest) ≡ reached go_on_descriptor (InType (Argument slots) 0) (spell_type t ++ rest)
enters slots t rest h k =
    let b = begins_type t k in
    subst (λ text. reached go_on_descriptor (Between slots) (text ++ rest) ≡ reached go_on_descriptor (InType (Argument slots) 0) (text ++ rest)) (sym b.2) (into_argument slots b.0 (b.1 ++ rest) h b.3)

argument_read : (slots : ℕ) (t : FieldType) → IsType t → slots + width t ≤ 255 → reached go_on_descriptor (InType (Argument slots) 0) (spell_type t) ≡ Some (Between (slots + width t))
argument_read slots t h fits =
    let e : nat_le (slots + width t) 255 ≡ true = grind (arith, nat_tests) in
    type_read (Argument slots) t h ∙ ap (λ x. cond x (Some (Between (slots + width t))) None) e

types_read : (ts : List FieldType) (before : ℕ) → AllByRecursion IsType ts → before + slots ts ≤ 255 → reached go_on_descriptor (Between before) (spell_types ts) ≡ Some (Between (before + slots ts))
types_read [] before h fits = let e : before + 0 ≡ before = omega arith in rw e refl
types_read (t ∷ ts) before h fits =
    let c = sum_by-cons width t ts in
    let w = width_some t in
    enters before t (spell_types ts) (omega (arith, c, fits, w)) h.0
    ∙ reached-then go_on_descriptor (InType (Argument before) 0) (Between (before + width t)) (spell_type t) (spell_types ts) (argument_read before t h.0 (omega (arith, c, fits)))
    ∙ types_read ts (before + width t) h.1 (omega (arith, c, fits))
    ∙ ap (λ n. Some (Between n)) (omega (arith, c))

result_read : (slots : ℕ) (r : Option FieldType) → IsResult r → reached go_on_descriptor (InType (Outcome slots) 0) (spell_result r) ≡ Some (End slots)
result_read slots None h = refl
result_read slots (Some t) h = type_read (Outcome slots) t h

pub method_read : (m : MethodType) → AllByRecursion IsType m.arguments → slots m.arguments ≤ 255 → IsResult m.result → reached go_on_descriptor Open (spell_method m) ≡ Some (End (slots m.arguments))
method_read m h fits r =
    let e : 0 + slots m.arguments ≡ slots m.arguments = omega arith in
    reached-then go_on_descriptor (Between 0) (Between (slots m.arguments)) (spell_types m.arguments) (41 ∷ spell_result m.result)
    (types_read m.arguments 0 h (omega (arith, fits)) ∙ ap (λ n. Some (Between n)) e)
    ∙ result_read (slots m.arguments) m.result r

use Rattle.std.proofs.Common.{cond, nat_eq, ◌≡◌, ℕ, zero, suc, ◌+◌, ◌<◌, ◌≤◌, ◌⊎◌, inl, inr, Bool, true, false, ◌&&◌, List, [], ◌∷◌, ◌++◌, length, take, Option, Some, None, refl, ◌∙◌, ap, arith}
use Rattle.std.proofs.lemmas.Bool.Decides.{nat_tests, leb_tells}
use Rattle.std.specs.Prelude.{option_and_then, option_map, nat_lt, nat_le}
use Rattle.std.specs.Option.{option_map_or}
use Rattle.class_form.specs.NameTests.{reached, steps_taken, Nothing, Zero, One, Two, High, InName, Fresh, Begun, go_on_name, is_whole, Place, Alone, Argument, Outcome, InDescriptor, Open, Between, InType, InClass, End, after_type, is_letter, letter_width, go_on_type, go_on_descriptor}
use Rattle.class_form.specs.Types.{slots}
use Rattle.class_form.specs.Prefixes.{Begins, IsLongestBegin, IsFieldDescriptor, IsMethodDescriptor}
use Rattle.class_form.proofs.Steps.{reached-then}
use Rattle.class_form.proofs.DescriptorsRead.{in_type, class_read, and_false}
use Rattle.class_form.proofs.Descriptors.{field_found, field_read, method_found, method_type_read}

-- STATES THAT HAVE AN END

abbrev HasRoom : Place → Type 0
HasRoom Alone = Unit {0}
HasRoom (Argument slots) = slots < 255
HasRoom (Outcome slots) = Unit {0}

-- an argument has begun only where there was room for it
abbrev pub IsOpen : InDescriptor → Type 0
IsOpen Open = Unit {0}
IsOpen (Between slots) = Unit {0}
IsOpen (InType place dims) = HasRoom place
IsOpen (InClass place name) = HasRoom place
IsOpen (End slots) = Unit {0}

after_open : (place : Place) (w : ℕ) (u : InDescriptor) → after_type place w ≡ Some u → IsOpen u
after_open Alone w u h = let e : u ≡ End 0 = cc in rw e tt
after_open (Argument k) w u h = by_room (nat_le (k + w) 255) h
  where
    by_room : (x : Bool) → cond x (Some (Between (k + w))) None ≡ Some u → IsOpen u
    by_room true e = let is : u ≡ Between (k + w) = cc in rw is tt
    by_room false e = cc
after_open (Outcome k) w u h = let e : u ≡ End k = cc in rw e tt

type_open : (place : Place) (dims b : ℕ) (u : InDescriptor) → HasRoom place → go_on_type place dims b ≡ Some u → IsOpen u
type_open place dims b u room h = by_tests (nat_eq b 91) (nat_lt dims 255) (nat_eq b 76) (is_letter b) h
  where
    by_tests : (x w y z : Bool) → cond x (cond w (Some (InType place (dims + 1))) None) (cond y (Some (InClass place Fresh)) (cond z (after_type place (letter_width dims b)) None)) ≡ Some u → IsOpen u
    by_tests true true y z e = let is : u ≡ InType place (dims + 1) = cc in rw is room
    by_tests true false y z e = cc
    by_tests false w true z e = let is : u ≡ InClass place Fresh = cc in rw is room
    by_tests false w false true e = after_open place (letter_width dims b) u e
    by_tests false w false false e = cc

step_open : (s u : InDescriptor) (b : ℕ) → IsOpen s → go_on_descriptor s b ≡ Some u → IsOpen u
step_open Open u b o h = by_test (nat_eq b 40) h
  where
    by_test : (x : Bool) → cond x (Some (Between 0)) None ≡ Some u → IsOpen u
    by_test true e = let is : u ≡ Between 0 = cc in rw is tt
    by_test false e = cc
step_open (Between k) u b o h = by_tests (nat_eq b 41) (nat_lt k 255) refl h
  where
    by_tests : (x y : Bool) → nat_lt k 255 ≡ y → cond x (Some (InType (Outcome k) 0)) (cond y (go_on_type (Argument k) 0 b) None) ≡ Some u → IsOpen u
    by_tests true y r e = let is : u ≡ InType (Outcome k) 0 = cc in rw is tt
    by_tests false true r e = type_open (Argument k) 0 b u (grind (arith, nat_tests)) e
    by_tests false false r e = cc
step_open (InType Alone dims) u b o h = type_open Alone dims b u o h
step_open (InType (Argument k) dims) u b o h = type_open (Argument k) dims b u o h
step_open (InType (Outcome k) dims) u b o h = by_test (nat_eq b 86 && nat_eq dims 0) h
  where
    by_test : (x : Bool) → cond x (Some (End k)) (go_on_type (Outcome k) dims b) ≡ Some u → IsOpen u
    by_test true e = let is : u ≡ End k = cc in rw is tt
    by_test false e = type_open (Outcome k) dims b u o e
step_open (InClass place n) u b o h = by_test (nat_eq b 59 && is_whole n) (go_on_name n b) h
  where
    by_test : (x : Bool) (m : Option InName) → cond x (after_type place 1) (option_map (InClass place) m) ≡ Some u → IsOpen u
    by_test true m e = after_open place 1 u e
    by_test false None e = cc
    by_test false (Some m) e = let is : u ≡ InClass place m = cc in rw is o
step_open (End k) u b o h = cc

-- AN END FROM EACH STATE

name_end : (n : InName) → (rest : List ℕ) × (reached go_on_name n rest ≡ Some (Begun Nothing))
name_end Fresh = (65 ∷ [], refl)
name_end (Begun Nothing) = ([], refl)
name_end (Begun Zero) = (128 ∷ [], refl)
name_end (Begun One) = (128 ∷ [], refl)
name_end (Begun Two) = (128 ∷ 128 ∷ [], refl)
name_end (Begun High) = (160 ∷ 128 ∷ [], refl)

type_end : (place : Place) → HasRoom place → (u : InDescriptor) × (rest : List ℕ) × (j : ℕ) × (after_type place 1 ≡ Some u) × (reached go_on_descriptor u rest ≡ Some (End j))
type_end Alone room = (End 0, [], 0, refl, refl)
type_end (Argument k) room =
    let fits : nat_le (k + 1) 255 ≡ true = grind (arith, nat_tests) in
    (Between (k + 1), 41 ∷ 86 ∷ [], k + 1, ap (λ x. cond x (Some (Between (k + 1))) None) fits, refl)
type_end (Outcome k) room = (End k, [], k, refl, refl)

some_end : (s : InDescriptor) → IsOpen s → (rest : List ℕ) × (j : ℕ) × (reached go_on_descriptor s rest ≡ Some (End j))
some_end Open o = (40 ∷ 41 ∷ 86 ∷ [], 0, refl)
some_end (Between k) o = (41 ∷ 86 ∷ [], k, refl)
some_end (InType place dims) o =
    let e = type_end place o in
    let narrow : letter_width dims 73 ≡ 1 = rw and_false refl in
    let first : go_on_descriptor (InType place dims) 73 ≡ Some e.0 = in_type place dims 73 (omega arith) ∙ ap (after_type place) narrow ∙ e.3 in
    (73 ∷ e.1, e.2, rw first e.4)
some_end (InClass place n) o =
    let m = name_end n in
    let e = type_end place o in
    ((m.0 ++ 59 ∷ []) ++ e.1, e.2, reached-then go_on_descriptor (InClass place n) e.0 (m.0 ++ 59 ∷ []) e.1 (class_read place n m.0 m.1 ∙ e.3) ∙ e.4)
some_end (End k) o = ([], k, refl)

-- HOW FAR THE STEPS GO

pub taken-within : {S : Type 0} (step : S → ℕ → Option S) (s : S) (bytes : List ℕ) → steps_taken step s bytes ≤ length bytes
taken-within step s [] = omega arith
taken-within {S} step s (b ∷ bytes) = by_step (step s b) (λ t. taken-within step t bytes)
  where
    by_step : (o : Option S) → ((t : S) → steps_taken step t bytes ≤ length bytes) → option_map_or (λ t. suc (steps_taken step t bytes)) o 0 ≤ suc (length bytes)
    by_step None more = omega arith
    by_step (Some t) more = omega (arith, more t)

-- past the last step nothing is reached, whatever follows
stuck : {S : Type 0} (step : S → ℕ → Option S) (s : S) (bytes more : List ℕ) (n : ℕ) → steps_taken step s bytes < n → n ≤ length bytes → reached step s (take n bytes ++ more) ≡ None
stuck step s bytes more zero h k = absurd (omega (arith, h))
stuck step s [] more (suc n) h k = absurd (omega (arith, k))
stuck {S} step s (b ∷ bytes) more (suc n) h k = by_step (step s b) h (λ t less. stuck step t bytes more n less (omega (arith, k)))
  where
    by_step : (o : Option S) → option_map_or (λ t. suc (steps_taken step t bytes)) o 0 < suc n → ((t : S) → steps_taken step t bytes < n → reached step t (take n bytes ++ more) ≡ None)
        → option_and_then (λ t. reached step t (take n bytes ++ more)) o ≡ None
    by_step None less go = refl
    by_step (Some t) less go = go t (omega (arith, less))

-- the steps that are taken lead to a state that has an end
taken : (s : InDescriptor) (bytes : List ℕ) → IsOpen s → (u : InDescriptor) × IsOpen u × (reached go_on_descriptor s (take (steps_taken go_on_descriptor s bytes) bytes) ≡ Some u)
taken s [] o = (s, o, refl)
taken s (b ∷ bytes) o = by_step (go_on_descriptor s b) refl (λ t k. taken t bytes k)
  where
    by_step : (x : Option InDescriptor) → go_on_descriptor s b ≡ x
        → ((t : InDescriptor) → IsOpen t → (u : InDescriptor) × IsOpen u × (reached go_on_descriptor t (take (steps_taken go_on_descriptor t bytes) bytes) ≡ Some u))
        → (u : InDescriptor) × IsOpen u × (reached go_on_descriptor s (take (option_map_or (λ t. suc (steps_taken go_on_descriptor t bytes)) x 0) (b ∷ bytes)) ≡ Some u)
    by_step None e more = (s, o, refl)
    by_step (Some t) e more = let m = more t (step_open s t b o e) in (m.0, m.1, rw e m.2)

longest_from : (IsText : List ℕ → Type 0) (s : InDescriptor) → IsOpen s → ((text : List ℕ) (j : ℕ) → reached go_on_descriptor s text ≡ Some (End j) → IsText text)
    → ((text : List ℕ) → IsText text → (j : ℕ) × (reached go_on_descriptor s text ≡ Some (End j))) → (bytes : List ℕ) → IsLongestBegin IsText bytes (steps_taken go_on_descriptor s bytes)
longest_from IsText s o found read bytes =
    let at = steps_taken go_on_descriptor s bytes in
    let t = taken s bytes o in
    let e = some_end t.0 t.1 in
    record {
      within = taken-within go_on_descriptor s bytes;
      begins = (e.0, found (take at bytes ++ e.0) e.1 (reached-then go_on_descriptor s t.0 (take at bytes) e.0 t.2 ∙ e.2));
      longest = λ n h b. by_order n h b (leb_tells n (steps_taken go_on_descriptor s bytes));
    }
  where
    by_order : (n : ℕ) → n ≤ length bytes → Begins IsText (take n bytes) → ((nat_le n (steps_taken go_on_descriptor s bytes) ≡ true) × (n ≤ steps_taken go_on_descriptor s bytes)) ⊎ ((nat_le n (steps_taken go_on_descriptor s bytes) ≡ false) × (steps_taken go_on_descriptor s bytes < n))
        → n ≤ steps_taken go_on_descriptor s bytes
    by_order n h b (inl k) = k.1
    by_order n h b (inr k) =
        let r = read (take n bytes ++ b.0) b.1 in
        let none = stuck go_on_descriptor s bytes b.0 n k.1 h in
        cc

-- the steps taken in bytes from the start of a field type are the longest prefix of them that a field type begins with
pub field_longest : (bytes : List ℕ) → IsLongestBegin IsFieldDescriptor bytes (steps_taken go_on_descriptor (InType Alone 0) bytes)
field_longest bytes = longest_from IsFieldDescriptor (InType Alone 0) tt (λ text j h. field_found text j h) (λ text h. (0, field_read text h.0 h.1)) bytes

pub method_longest : (bytes : List ℕ) → IsLongestBegin IsMethodDescriptor bytes (steps_taken go_on_descriptor Open bytes)
method_longest bytes = longest_from IsMethodDescriptor Open tt (λ text j h. let m = method_found text j h in (m.0, m.1)) (λ text h. (slots h.0.arguments, method_type_read text h.0 h.1)) bytes

-- The outcome of a constant pool, computed. That it is the one of PoolFaults is shown in this crate's proofs.
use Rattle.std.specs.Prelude.{Bool, true, false, ℕ, suc, ◌+◌, ◌-◌, List, [], ◌∷◌, length, Option, Some, Ok, nat_eq, nat_lt, nat_le, ◌||◌, ◌&&◌, not, if◌then◌else◌}
use Rattle.std.specs.Option.{option_map_or}
use Rattle.byte_form.specs.Places.{State}
use Rattle.byte_form.specs.Forms.{Fault, Broken, Outcome}
use Rattle.byte_form.specs.Reading.{◌>>=◌, check, number_at, bytes_at, list_at}
use Rattle.class_form.specs.NameTests.{is_modified_utf8, is_unqualified_name, is_method_name, is_class_name, is_field_type, is_array_type, is_method_type}
use Rattle.class_form.specs.Pools.{constant_at, utf_at}
use Rattle.class_form.specs.Spelling.{spell_constant}
use Rattle.class_form.specs.declared.pool.Pool.{Pool}
use Rattle.class_form.specs.declared.pool.Constant.{Constant}
use Rattle.class_form.specs.declared.pool.Constant.TheVariants.{Utf8, Integer, Float, Long, Double, Class, Text, Field, Method, InterfaceMethod, NameAndType, Handle, MethodType, Dynamic, Second}

-- CONSTANTS

abbrev pub is_tag : ℕ → ℕ → Bool
is_tag major tag = nat_eq tag 1 || (nat_le 3 tag && nat_le tag 12) || ((nat_eq tag 15 || nat_eq tag 16 || nat_eq tag 18) && nat_le 51 major)

abbrev pub is_wide_tag : ℕ → Bool
is_wide_tag tag = nat_eq tag 5 || nat_eq tag 6

abbrev pub one_number : ℕ → (ℕ → Constant) → State → Outcome Fault Constant
one_number n C s = do
  x ← number_at n s
  Ok (C x.0, x.1)

abbrev pub two_numbers : ℕ → ℕ → (ℕ → ℕ → Constant) → State → Outcome Fault Constant
two_numbers n m C s = do
  x ← number_at n s
  y ← number_at m x.1
  Ok (C x.0 y.0, y.1)

unfoldable pub read_info : ℕ → State → Outcome Fault Constant
read_info tag s =
    if nat_eq tag 3 then one_number 4 Integer s
    else if nat_eq tag 4 then one_number 4 Float s
    else if nat_eq tag 5 then one_number 8 Long s
    else if nat_eq tag 6 then one_number 8 Double s
    else if nat_eq tag 7 then one_number 2 Class s
    else if nat_eq tag 8 then one_number 2 Text s
    else if nat_eq tag 9 then two_numbers 2 2 Field s
    else if nat_eq tag 10 then two_numbers 2 2 Method s
    else if nat_eq tag 11 then two_numbers 2 2 InterfaceMethod s
    else if nat_eq tag 12 then two_numbers 2 2 NameAndType s
    else if nat_eq tag 15 then two_numbers 1 2 Handle s
    else if nat_eq tag 16 then one_number 2 MethodType s
    else two_numbers 2 2 Dynamic s

unfoldable pub read_text : ℕ → State → Outcome Fault Constant
read_text at s = do
  len ← number_at 2 s
  content ← bytes_at len.0 len.1
  _ ← check (is_modified_utf8 content.0) (Broken 2 at)
  Ok (Utf8 content.0, content.1)

unfoldable pub read_constant : ℕ → ℕ → State → Outcome Fault Constant
read_constant major left s = do
  tag ← number_at 1 s
  _ ← check (is_tag major tag.0) (Broken 1 s.at)
  _ ← check (not (is_wide_tag tag.0) || nat_lt 0 left) (Broken 3 s.at)
  if nat_eq tag.0 1 then read_text s.at tag.1 else read_info tag.0 tag.1

abbrev pub is_wide : Constant → Bool
is_wide (Long n) = true
is_wide (Double n) = true
is_wide c = false

abbrev pub ends_wide : List Constant → Bool
ends_wide [] = false
ends_wide (c ∷ []) = is_wide c
ends_wide (c ∷ d ∷ cs) = ends_wide (d ∷ cs)

unfoldable pub read_index : ℕ → ℕ → List Constant → State → Outcome Fault Constant
read_index major count before s = if ends_wide before then Ok (Second, s) else read_constant major (count - suc (length before)) s

-- KINDS

abbrev pub is_utf : Option Constant → Bool
is_utf (Some (Utf8 text)) = true
is_utf o = false

abbrev pub is_class : Option Constant → Bool
is_class (Some (Class name)) = true
is_class o = false

abbrev pub is_name_and_type : Option Constant → Bool
is_name_and_type (Some (NameAndType name descriptor)) = true
is_name_and_type o = false

abbrev pub is_field : Option Constant → Bool
is_field (Some (Field class rest)) = true
is_field o = false

abbrev pub is_method : Option Constant → Bool
is_method (Some (Method class rest)) = true
is_method o = false

abbrev pub is_interface_method : Option Constant → Bool
is_interface_method (Some (InterfaceMethod class rest)) = true
is_interface_method o = false

abbrev pub is_reference : ℕ → Option Constant → Bool
is_reference kind o =
    (nat_le 1 kind && nat_le kind 4 && is_field o) || (nat_le 5 kind && nat_le kind 8 && is_method o) || (nat_eq kind 9 && is_interface_method o)

abbrev pub has_kinds : Pool → Constant → Bool
has_kinds p (Class name) = is_utf (constant_at p name)
has_kinds p (Text text) = is_utf (constant_at p text)
has_kinds p (Field class rest) = is_class (constant_at p class) && is_name_and_type (constant_at p rest)
has_kinds p (Method class rest) = is_class (constant_at p class) && is_name_and_type (constant_at p rest)
has_kinds p (InterfaceMethod class rest) = is_class (constant_at p class) && is_name_and_type (constant_at p rest)
has_kinds p (NameAndType name descriptor) = is_utf (constant_at p name) && is_utf (constant_at p descriptor)
has_kinds p (Handle kind reference) = is_reference kind (constant_at p reference)
has_kinds p (MethodType descriptor) = is_utf (constant_at p descriptor)
has_kinds p (Dynamic bootstrap rest) = is_name_and_type (constant_at p rest)
has_kinds p c = true

-- TEXTS

-- a text stands at the index and passes the test
abbrev pub text_is : (List ℕ → Bool) → Pool → ℕ → Bool
text_is test p i = option_map_or test (utf_at p i) false

-- how a class or an array is named
abbrev pub is_class_text : List ℕ → Bool
is_class_text text = is_class_name text || is_array_type text

abbrev pub names_field : Pool → Option Constant → Bool
names_field p (Some (NameAndType name descriptor)) = text_is is_unqualified_name p name && text_is is_field_type p descriptor
names_field p o = false

abbrev pub names_method : Pool → Option Constant → Bool
names_method p (Some (NameAndType name descriptor)) = text_is is_method_name p name && text_is is_method_type p descriptor
names_method p o = false

abbrev pub has_texts : Pool → Constant → Bool
has_texts p (Class name) = text_is is_class_text p name
has_texts p (Field class rest) = names_field p (constant_at p rest)
has_texts p (Method class rest) = names_method p (constant_at p rest)
has_texts p (InterfaceMethod class rest) = names_method p (constant_at p rest)
has_texts p (NameAndType name descriptor) = text_is is_unqualified_name p name && (text_is is_field_type p descriptor || text_is is_method_type p descriptor)
has_texts p (MethodType descriptor) = text_is is_method_type p descriptor
has_texts p (Dynamic bootstrap rest) = names_method p (constant_at p rest)
has_texts p c = true

-- THE POOL

unfoldable pub read_links : Pool → ℕ → List Constant → State → Outcome Fault (Unit {0})
read_links p at [] s = Ok (tt, s)
read_links p at (c ∷ cs) s = do
  _ ← check (has_kinds p c) (Broken 4 at)
  _ ← check (has_texts p c) (Broken 5 at)
  read_links p (at + length (spell_constant c)) cs s

unfoldable pub read_pool : ℕ → State → Outcome Fault Pool
read_pool major s = do
  count ← number_at 2 s
  _ ← check (nat_lt 0 count.0) (Broken 3 s.at)
  constants ← list_at (read_index major (count.0 - 1)) (count.0 - 1) [] count.1
  done ← read_links (record { constants = constants.0; major = major }) count.1.at constants.0 constants.1
  Ok (record { constants = constants.0; major = major }, done.1)

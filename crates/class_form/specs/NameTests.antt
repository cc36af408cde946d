-- Names and descriptors told from other bytes, byte by byte from the left. That these tests hold exactly of the texts that Utf8, Names and Types
-- define is shown in this crate's proofs.
use Rattle.std.specs.Prelude.{ℕ, suc, ◌+◌, Bool, true, false, List, [], ◌∷◌, Option, Some, None, option_map, option_and_then, if◌then◌else◌, nat_eq, nat_le, nat_lt, ◌||◌, ◌&&◌, not, codes}
use Rattle.std.specs.Option.{option_map_or}
use Rattle.std.specs.List.{list_all, list_any}
use Rattle.std.specs.Str.{bytes_eq}

-- what is reached from a state by bytes, one after another; none where one of them has no step
abbrev pub reached : {S : Type 0} → (S → ℕ → Option S) → S → List ℕ → Option S
reached step s [] = Some s
reached step s (b ∷ bytes) = option_and_then (λ t. reached step t bytes) (step s b)

-- how many bytes have a step before one has none
abbrev pub steps_taken : {S : Type 0} → (S → ℕ → Option S) → S → List ℕ → ℕ
steps_taken step s [] = 0
steps_taken step s (b ∷ bytes) = option_map_or (λ t. suc (steps_taken step t bytes)) (step s b) 0

-- CHARACTERS

-- what is left of a character
pub data Left : Type 0 where
  -- nothing: the next byte begins a character
  Nothing : Left
  -- 80, after c0
  Zero : Left
  -- one byte, two bytes, and two bytes of which the first is at least a0
  One : Left
  Two : Left
  High : Left

abbrev pub is_between : ℕ → ℕ → ℕ → Bool
is_between low high b = nat_le low b && nat_le b high

abbrev pub begin_character : ℕ → Option Left
begin_character b =
    if is_between 0x01 0x7f b then Some Nothing
    else if nat_eq b 0xc0 then Some Zero
    else if is_between 0xc2 0xdf b then Some One
    else if nat_eq b 0xe0 then Some High
    else if is_between 0xe1 0xef b then Some Two
    else None

abbrev pub go_on : Left → ℕ → Option Left
go_on Nothing b = begin_character b
go_on Zero b = if nat_eq b 0x80 then Some Nothing else None
go_on One b = if is_between 0x80 0xbf b then Some Nothing else None
go_on Two b = if is_between 0x80 0xbf b then Some One else None
go_on High b = if is_between 0xa0 0xbf b then Some One else None

abbrev pub is_nothing : Option Left → Bool
is_nothing (Some Nothing) = true
is_nothing s = false

abbrev pub is_modified_utf8 : List ℕ → Bool
is_modified_utf8 bytes = is_nothing (reached go_on Nothing bytes)

-- NAMES

-- `.`, `;` and `[`
abbrev pub is_barred : ℕ → Bool
is_barred b = nat_eq b 46 || nat_eq b 59 || nat_eq b 91

-- `.`, `;`, `[` and `/`
abbrev pub is_plain : ℕ → Bool
is_plain b = not (is_barred b) && not (nat_eq b 47)

abbrev pub is_empty : List ℕ → Bool
is_empty [] = true
is_empty (b ∷ bytes) = false

abbrev pub is_unqualified_name : List ℕ → Bool
is_unqualified_name bytes = is_modified_utf8 bytes && not (is_empty bytes) && list_all is_plain bytes

-- neither `<` nor `>`
abbrev pub is_outside_brackets : ℕ → Bool
is_outside_brackets b = not (nat_eq b 60 || nat_eq b 62)

abbrev pub is_method_name : List ℕ → Bool
is_method_name bytes =
    is_unqualified_name bytes && (list_all is_outside_brackets bytes || bytes_eq bytes (codes "<init>") || bytes_eq bytes (codes "<clinit>"))

-- within the name of a class: a part has no byte yet, or it has one
pub data InName : Type 0 where
  Fresh : InName
  Begun : (left : Left) → InName

-- a character of a part begins
abbrev pub begin_plain : ℕ → Option InName
begin_plain b = if is_plain b then option_map Begun (begin_character b) else None

abbrev pub go_on_name : InName → ℕ → Option InName
go_on_name Fresh b = begin_plain b
go_on_name (Begun Nothing) b = if nat_eq b 47 then Some Fresh else begin_plain b
go_on_name (Begun left) b = option_map Begun (go_on left b)

-- a name may end here
abbrev pub is_whole : InName → Bool
is_whole (Begun Nothing) = true
is_whole s = false

abbrev pub is_whole_name : Option InName → Bool
is_whole_name None = false
is_whole_name (Some s) = is_whole s

abbrev pub is_class_name : List ℕ → Bool
is_class_name bytes = is_whole_name (reached go_on_name Fresh bytes)

-- DESCRIPTORS

-- where a type stands: alone, as an argument after arguments of so many slots, or as the result after them
pub data Place : Type 0 where
  Alone : Place
  Argument : (slots : ℕ) → Place
  Outcome : (slots : ℕ) → Place

pub data InDescriptor : Type 0 where
  -- before the `(`
  Open : InDescriptor
  -- between the arguments, of which those before take so many slots
  Between : (slots : ℕ) → InDescriptor
  -- in a type, after so many `[`
  InType : (place : Place) → (dims : ℕ) → InDescriptor
  -- in the name of a class
  InClass : (place : Place) → (name : InName) → InDescriptor
  -- after a whole descriptor; the slots of its arguments
  End : (slots : ℕ) → InDescriptor

-- after a type of so many slots
abbrev pub after_type : Place → ℕ → Option InDescriptor
after_type Alone width = Some (End 0)
after_type (Argument slots) width = if nat_le (slots + width) 255 then Some (Between (slots + width)) else None
after_type (Outcome slots) width = Some (End slots)

-- B C D F I J S Z
abbrev pub is_letter : ℕ → Bool
is_letter b = list_any (λ letter. nat_eq b letter) (66 ∷ 67 ∷ 68 ∷ 70 ∷ 73 ∷ 74 ∷ 83 ∷ 90 ∷ [])

abbrev pub letter_width : ℕ → ℕ → ℕ
letter_width dims b = if nat_eq dims 0 && (nat_eq b 74 || nat_eq b 68) then 2 else 1

abbrev pub go_on_type : Place → ℕ → ℕ → Option InDescriptor
go_on_type place dims b =
    if nat_eq b 91 then (if nat_lt dims 255 then Some (InType place (dims + 1)) else None)
    else if nat_eq b 76 then Some (InClass place Fresh)
    else if is_letter b then after_type place (letter_width dims b)
    else None

-- a `V` is the end where no dimension was read
abbrev pub go_on_outcome : ℕ → ℕ → ℕ → Option InDescriptor
go_on_outcome slots dims b = if nat_eq b 86 && nat_eq dims 0 then Some (End slots) else go_on_type (Outcome slots) dims b

abbrev pub go_on_descriptor : InDescriptor → ℕ → Option InDescriptor
go_on_descriptor Open b = if nat_eq b 40 then Some (Between 0) else None
go_on_descriptor (Between slots) b =
    if nat_eq b 41 then Some (InType (Outcome slots) 0)
    else if nat_lt slots 255 then go_on_type (Argument slots) 0 b
    else None
go_on_descriptor (InType (Outcome slots) dims) b = go_on_outcome slots dims b
go_on_descriptor (InType place dims) b = go_on_type place dims b
go_on_descriptor (InClass place name) b =
    if nat_eq b 59 && is_whole name then after_type place 1 else option_map (InClass place) (go_on_name name b)
go_on_descriptor (End slots) b = None

abbrev pub slots_at_end : Option InDescriptor → Option ℕ
slots_at_end (Some (End slots)) = Some slots
slots_at_end s = None

abbrev pub is_end : Option InDescriptor → Bool
is_end (Some (End slots)) = true
is_end s = false

abbrev pub is_field_type : List ℕ → Bool
is_field_type bytes = is_end (reached go_on_descriptor (InType Alone 0) bytes)

abbrev pub is_array_type : List ℕ → Bool
is_array_type [] = false
is_array_type (b ∷ bytes) = nat_eq b 91 && is_field_type (b ∷ bytes)

abbrev pub is_method_type : List ℕ → Bool
is_method_type bytes = is_end (reached go_on_descriptor Open bytes)

-- the slots of the arguments of a method type; none where the bytes are no method type
abbrev pub parameter_slots : List ℕ → Option ℕ
parameter_slots bytes = slots_at_end (reached go_on_descriptor Open bytes)

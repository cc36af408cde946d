-- The outcome of a class file, computed. That it is the one of FirstFaults is shown in this crate's proofs.
use Rattle.std.specs.Prelude.{Bool, true, false, ℕ, ◌+◌, ◌^◌, List, [], ◌∷◌, Option, Some, None, Ok, Err, option_map, option_and_then, nat_eq, nat_lt, nat_le, ◌||◌, ◌&&◌, not, if◌then◌else◌, bit_and, length, codes}
use Rattle.std.specs.Option.{option_map_or}
use Rattle.std.specs.List.{list_all, list_any}
use Rattle.std.specs.Str.{bytes_eq}
use Rattle.byte_form.specs.Places.{State, start}
use Rattle.byte_form.specs.Forms.{Fault, Broken, Outcome}
use Rattle.byte_form.specs.Reading.{◌>>=◌, check, number_at, bytes_at, list_at, inside_at}
use Rattle.class_form.specs.NameTests.{is_unqualified_name, is_method_name, is_field_type, is_method_type, parameter_slots}
use Rattle.class_form.specs.Pools.{constant_at, utf_at, class_at}
use Rattle.class_form.specs.PoolReading.{text_is, is_utf, is_class, read_pool}
use Rattle.class_form.specs.FirstFaults.{ClassFault, NotClass, Version, Item, Trailing}
use Rattle.class_form.specs.declared.pool.Pool.{Pool}
use Rattle.class_form.specs.declared.class_file.ClassFile.{ClassFile}
use Rattle.class_form.specs.declared.class_file.Member.{Member}
use Rattle.class_form.specs.declared.class_file.Attribute.{Attribute}
use Rattle.class_form.specs.declared.class_file.Content.{Content}
use Rattle.class_form.specs.declared.class_file.Content.TheVariants as contents
use Rattle.class_form.specs.declared.class_file.CodeBody.{CodeBody}
use Rattle.class_form.specs.declared.class_file.CodeAttribute.{CodeAttribute}
use Rattle.class_form.specs.declared.class_file.CodeContent.{CodeContent}
use Rattle.class_form.specs.declared.class_file.CodeContent.TheVariants as code_contents
use Rattle.class_form.specs.declared.class_file.Handler.{Handler}

-- TESTS

abbrev pub is_set : ℕ → ℕ → Bool
is_set flags k = not (nat_eq (bit_and flags (2 ^ k)) 0)

abbrev pub is_named : Pool → ℕ → List ℕ → Bool
is_named p i text = text_is (λ t. bytes_eq t text) p i

abbrev pub names_array : List ℕ → Bool
names_array [] = false
names_array (b ∷ text) = nat_eq b 91

abbrev pub is_plain_class : Pool → ℕ → Bool
is_plain_class p i = option_map_or (λ t. not (names_array t)) (class_at p i) false

abbrev pub is_class_named : Pool → ℕ → List ℕ → Bool
is_class_named p i text = option_map_or (λ t. bytes_eq t text) (class_at p i) false

abbrev pub is_superclass : Pool → ℕ → ℕ → Bool
is_superclass p this super = is_plain_class p super || (nat_eq super 0 && is_class_named p this (codes "java/lang/Object"))

abbrev pub are_field_texts : Pool → ℕ → ℕ → Bool
are_field_texts p name descriptor = text_is is_unqualified_name p name && text_is is_field_type p descriptor

abbrev pub is_initializer : Pool → ℕ → Bool
is_initializer p name = is_named p name (codes "<clinit>")

abbrev pub are_method_texts : Pool → ℕ → ℕ → Bool
are_method_texts p name descriptor =
    text_is is_method_name p name && text_is is_method_type p descriptor && (not (is_initializer p name) || is_named p descriptor (codes "()V"))

abbrev pub same_text : Option (List ℕ) → Option (List ℕ) → Bool
same_text (Some a) (Some b) = bytes_eq a b
same_text (Some a) None = false
same_text None (Some b) = false
same_text None None = true

abbrev pub has_texts_of : Pool → ℕ → ℕ → Member → Bool
has_texts_of p name descriptor m = same_text (utf_at p m.name) (utf_at p name) && same_text (utf_at p m.descriptor) (utf_at p descriptor)

abbrev pub is_new : Pool → List Member → ℕ → ℕ → Bool
is_new p before name descriptor = list_all (λ m. not (has_texts_of p name descriptor m)) before

-- the slots of the parameters with the receiver's; none where no method type stands at the index
abbrev pub slots_at : Pool → ℕ → ℕ → Option ℕ
slots_at p flags descriptor = option_map (λ n. if is_set flags 3 then n else n + 1) (option_and_then parameter_slots (utf_at p descriptor))

abbrev pub has_slots : Pool → ℕ → ℕ → Bool
has_slots p flags descriptor = option_map_or (λ n. nat_le n 255) (slots_at p flags descriptor) false

abbrev pub is_of_kind : Pool → ℕ → ℕ → ℕ → Bool
is_of_kind p class_flags flags name = not (is_set class_flags 9) || (is_set flags 10 || is_initializer p name)

abbrev pub needs_code : Pool → ℕ → ℕ → Bool
needs_code p flags name = (not (is_set flags 10) && not (is_set flags 8)) || is_initializer p name

abbrev pub is_code : Attribute → Bool
is_code a = by a.content
  where
    by : Content → Bool
    by (contents.Code body) = true
    by (contents.Other content) = false

abbrev pub has_code_where_needed : Pool → ℕ → ℕ → List Attribute → Bool
has_code_where_needed p flags name attributes = if list_any is_code attributes then needs_code p flags name else not (needs_code p flags name)

abbrev pub has_locals : ℕ → Attribute → Bool
has_locals n a = by a.content
  where
    by : Content → Bool
    by (contents.Code body) = nat_le n body.max_locals
    by (contents.Other content) = true

abbrev pub has_locals_for_all : Pool → ℕ → ℕ → List Attribute → Bool
has_locals_for_all p flags descriptor attributes = option_map_or (λ n. list_all (has_locals n) attributes) (slots_at p flags descriptor) false

abbrev pub is_code_length : ℕ → Bool
is_code_length len = nat_lt 0 len && nat_le len 65535

abbrev pub is_handler : Pool → ℕ → Handler → Bool
is_handler p len h = nat_lt h.start h.end && (nat_le h.end len && (nat_lt h.handler len && (nat_eq h.catch_type 0 || is_class (constant_at p h.catch_type))))

-- ITEMS

abbrev pub read_counted : {A : Type 0} → (List A → State → Outcome Fault A) → State → Outcome Fault (List A)
read_counted one s = do
  count ← number_at 2 s
  list_at one count.0 [] count.1

unfoldable pub read_kept : State → Outcome Fault (List ℕ)
read_kept s = do
  len ← number_at 4 s
  bytes_at len.0 len.1

unfoldable pub read_plain_attribute : Pool → State → Outcome Fault Attribute
read_plain_attribute p s = do
  name ← number_at 2 s
  _ ← check (is_utf (constant_at p name.0)) (Broken 11 s.at)
  content ← read_kept name.1
  Ok (record { name = name.0; content = contents.Other content.0 }, content.1)

unfoldable pub read_line : ℕ → State → Outcome Fault (ℕ × ℕ)
read_line len s = do
  pc ← number_at 2 s
  number ← number_at 2 pc.1
  _ ← check (nat_lt pc.0 len) (Broken 16 s.at)
  Ok ((pc.0, number.0), number.1)

unfoldable pub read_lines : ℕ → ℕ → State → Outcome Fault CodeContent
read_lines len at s = do
  size ← number_at 4 s
  content ← bytes_at size.0 size.1
  pairs ← inside_at (Broken 12 at) size.1.at content.0 (read_counted (λ _. read_line len)) content.1
  Ok (code_contents.Lines pairs.0, pairs.1)

unfoldable pub read_other_code_content : State → Outcome Fault CodeContent
read_other_code_content s = do
  content ← read_kept s
  Ok (code_contents.Other content.0, content.1)

unfoldable pub read_code_content : Pool → ℕ → ℕ → ℕ → State → Outcome Fault CodeContent
read_code_content p len at name s = if is_named p name (codes "LineNumberTable") then read_lines len at s else read_other_code_content s

unfoldable pub read_code_attribute : Pool → ℕ → State → Outcome Fault CodeAttribute
read_code_attribute p len s = do
  name ← number_at 2 s
  _ ← check (is_utf (constant_at p name.0)) (Broken 11 s.at)
  content ← read_code_content p len s.at name.0 name.1
  Ok (record { name = name.0; content = content.0 }, content.1)

unfoldable pub read_handler : Pool → ℕ → State → Outcome Fault Handler
read_handler p len s = do
  start ← number_at 2 s
  end ← number_at 2 start.1
  handler ← number_at 2 end.1
  catch_type ← number_at 2 handler.1
  _ ← check (is_handler p len (record { start = start.0; end = end.0; handler = handler.0; catch_type = catch_type.0 })) (Broken 15 s.at)
  Ok (record { start = start.0; end = end.0; handler = handler.0; catch_type = catch_type.0 }, catch_type.1)

unfoldable pub read_body : Pool → State → Outcome Fault CodeBody
read_body p s = do
  max_stack ← number_at 2 s
  max_locals ← number_at 2 max_stack.1
  len ← number_at 4 max_locals.1
  _ ← check (is_code_length len.0) (Broken 14 max_locals.1.at)
  code ← bytes_at len.0 len.1
  handlers ← read_counted (λ _. read_handler p len.0) code.1
  attributes ← read_counted (λ _. read_code_attribute p len.0) handlers.1
  Ok (record { max_stack = max_stack.0; max_locals = max_locals.0; code = code.0; handlers = handlers.0; attributes = attributes.0 }, attributes.1)

unfoldable pub read_code : Pool → ℕ → List Attribute → State → Outcome Fault Content
read_code p at before s = do
  size ← number_at 4 s
  content ← bytes_at size.0 size.1
  _ ← check (not (list_any is_code before)) (Broken 13 at)
  code ← inside_at (Broken 12 at) size.1.at content.0 (read_body p) content.1
  Ok (contents.Code code.0, code.1)

unfoldable pub read_other_content : State → Outcome Fault Content
read_other_content s = do
  content ← read_kept s
  Ok (contents.Other content.0, content.1)

unfoldable pub read_content : Pool → ℕ → ℕ → List Attribute → State → Outcome Fault Content
read_content p at name before s = if is_named p name (codes "Code") then read_code p at before s else read_other_content s

unfoldable pub read_method_attribute : Pool → List Attribute → State → Outcome Fault Attribute
read_method_attribute p before s = do
  name ← number_at 2 s
  _ ← check (is_utf (constant_at p name.0)) (Broken 11 s.at)
  content ← read_content p s.at name.0 before name.1
  Ok (record { name = name.0; content = content.0 }, content.1)

unfoldable pub read_field : Pool → List Member → State → Outcome Fault Member
read_field p before s = do
  flags ← number_at 2 s
  name ← number_at 2 flags.1
  descriptor ← number_at 2 name.1
  _ ← check (are_field_texts p name.0 descriptor.0) (Broken 9 s.at)
  _ ← check (is_new p before name.0 descriptor.0) (Broken 10 s.at)
  attributes ← read_counted (λ _. read_plain_attribute p) descriptor.1
  Ok (record { flags = flags.0; name = name.0; descriptor = descriptor.0; attributes = attributes.0 }, attributes.1)

unfoldable pub read_method : Pool → ℕ → List Member → State → Outcome Fault Member
read_method p class_flags before s = do
  flags ← number_at 2 s
  name ← number_at 2 flags.1
  descriptor ← number_at 2 name.1
  _ ← check (are_method_texts p name.0 descriptor.0) (Broken 9 s.at)
  _ ← check (is_new p before name.0 descriptor.0) (Broken 10 s.at)
  _ ← check (has_slots p flags.0 descriptor.0) (Broken 17 s.at)
  _ ← check (is_of_kind p class_flags flags.0 name.0) (Broken 18 s.at)
  attributes ← read_counted (read_method_attribute p) descriptor.1
  _ ← check (has_code_where_needed p flags.0 name.0 attributes.0) (Broken 13 s.at)
  _ ← check (has_locals_for_all p flags.0 descriptor.0 attributes.0) (Broken 17 s.at)
  Ok (record { flags = flags.0; name = name.0; descriptor = descriptor.0; attributes = attributes.0 }, attributes.1)

unfoldable pub read_interface : Pool → State → Outcome Fault ℕ
read_interface p s = do
  i ← number_at 2 s
  _ ← check (is_plain_class p i.0) (Broken 8 s.at)
  Ok (i.0, i.1)

unfoldable pub read_class : ℕ → ℕ → State → Outcome Fault ClassFile
read_class minor major s = do
  p ← read_pool major s
  flags ← number_at 2 p.1
  this_class ← number_at 2 flags.1
  _ ← check (is_plain_class p.0 this_class.0) (Broken 6 flags.1.at)
  super_class ← number_at 2 this_class.1
  _ ← check (is_superclass p.0 this_class.0 super_class.0) (Broken 7 this_class.1.at)
  interfaces ← read_counted (λ _. read_interface p.0) super_class.1
  fields ← read_counted (read_field p.0) interfaces.1
  methods ← read_counted (read_method p.0 flags.0) fields.1
  attributes ← read_counted (λ _. read_plain_attribute p.0) methods.1
  Ok (record { minor = minor; major = major; pool = p.0; flags = flags.0; this_class = this_class.0; super_class = super_class.0; interfaces = interfaces.0; fields = fields.0; methods = methods.0; attributes = attributes.0 }, attributes.1)

-- THE FILE

abbrev pub read_item : {A : Type 0} → Outcome Fault A → Outcome ClassFault A
read_item (Ok x) = Ok x
read_item (Err f) = Err (Item f)

abbrev pub is_version : ℕ → Bool
is_version major = nat_le 45 major && nat_le major 51

unfoldable pub read_class_file : State → Outcome ClassFault ClassFile
read_class_file s = do
  magic ← read_item (number_at 4 s)
  _ ← check (nat_eq magic.0 0xcafebabe) NotClass
  minor ← read_item (number_at 2 magic.1)
  major ← read_item (number_at 2 minor.1)
  _ ← check (is_version major.0) (Version major.0)
  read_item (read_class minor.0 major.0 major.1)

unfoldable pub read_file : State → Outcome ClassFault ClassFile
read_file s = do
  c ← read_class_file s
  _ ← check (nat_eq (length c.1.rest) 0) (Trailing c.1.at)
  Ok (c.0, c.1)

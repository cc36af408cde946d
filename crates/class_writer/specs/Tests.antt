-- The rules on class files as tests of values. That they hold exactly of the class files that ClassRules defines is shown in this crate's proofs.
use Rattle.std.specs.Prelude.{Bool, true, false, ℕ, suc, List, [], ◌∷◌, length, codes, nat_eq, nat_lt, nat_le, ◌||◌, ◌&&◌, not, if◌then◌else◌}
use Rattle.std.specs.List.{list_all, list_any}
use Rattle.class_form.specs.NameTests.{is_modified_utf8}
use Rattle.class_form.specs.Pools.{constant_at}
use Rattle.class_form.specs.PoolReading.{is_utf, is_wide, has_kinds, has_texts}
use Rattle.class_form.specs.ClassReading.{is_named, is_plain_class, is_superclass, are_field_texts, are_method_texts, has_texts_of, has_slots, is_of_kind, is_code, has_code_where_needed, has_locals_for_all, is_code_length, is_handler, is_version}
use Rattle.class_form.specs.Spelling.{spell_content, spell_code_content}
use Rattle.class_writer.specs.Numbers.{is_short, has_numbers, line_has_numbers, handler_has_numbers, body_has_numbers, member_has_numbers, class_has_numbers}
use Rattle.class_form.specs.declared.pool.Pool.{Pool}
use Rattle.class_form.specs.declared.pool.Constant.{Constant}
use Rattle.class_form.specs.declared.pool.Constant.TheVariants.{Utf8, Handle, MethodType, Dynamic, Second}
use Rattle.class_form.specs.declared.class_file.ClassFile.{ClassFile}
use Rattle.class_form.specs.declared.class_file.Member.{Member}
use Rattle.class_form.specs.declared.class_file.Attribute.{Attribute}
use Rattle.class_form.specs.declared.class_file.Content.{Content}
use Rattle.class_form.specs.declared.class_file.Content.TheVariants as contents
use Rattle.class_form.specs.declared.class_file.CodeBody.{CodeBody}
use Rattle.class_form.specs.declared.class_file.CodeAttribute.{CodeAttribute}
use Rattle.class_form.specs.declared.class_file.CodeContent.{CodeContent}
use Rattle.class_form.specs.declared.class_file.CodeContent.TheVariants as code_contents
use Rattle.class_form.specs.declared.class_file.Handler.{Handler}

-- so many items can be counted in two bytes
abbrev pub is_count : {A : Type 0} → List A → Bool
is_count items = nat_le (length items) 0xffff

-- so many bytes can be counted in four
abbrev pub is_size : List ℕ → Bool
is_size bytes = nat_le (length bytes) 0xffffffff

-- THE POOL

abbrev pub is_of_version : ℕ → Constant → Bool
is_of_version major (Handle kind reference) = nat_le 51 major
is_of_version major (MethodType descriptor) = nat_le 51 major
is_of_version major (Dynamic bootstrap rest) = nat_le 51 major
is_of_version major c = true

abbrev pub is_info : Constant → Bool
is_info (Utf8 text) = nat_le (length text) 0xffff && is_modified_utf8 text
is_info c = true

abbrev pub is_second : Constant → Bool
is_second Second = true
is_second c = false

-- second indices stand exactly behind what is wide; wide says so of what stands before the constants
abbrev pub are_indices : Bool → List Constant → Bool
are_indices wide [] = not wide
are_indices wide (c ∷ cs) = if is_second c then wide && are_indices (is_wide c) cs else not wide && are_indices (is_wide c) cs

abbrev pub is_constant : Pool → Constant → Bool
is_constant p c = has_numbers c && is_of_version p.major c && is_info c && has_kinds p c && has_texts p c

abbrev pub is_pool : Pool → Bool
is_pool p = nat_le (length p.constants) 0xfffe && are_indices false p.constants && list_all (is_constant p) p.constants

-- ATTRIBUTES

abbrev pub is_line : ℕ → ℕ × ℕ → Bool
is_line len l = line_has_numbers l && nat_lt l.0 len

abbrev pub is_code_content : Pool → ℕ → ℕ → CodeContent → Bool
is_code_content p len name (code_contents.Lines lines) = is_named p name (codes "LineNumberTable") && is_count lines && list_all (is_line len) lines
is_code_content p len name (code_contents.Other content) = not (is_named p name (codes "LineNumberTable"))

abbrev pub is_code_attribute : Pool → ℕ → CodeAttribute → Bool
is_code_attribute p len a = is_short a.name && is_utf (constant_at p a.name) && is_size (spell_code_content a.content) && is_code_content p len a.name a.content

abbrev pub are_code_attributes : Pool → ℕ → List CodeAttribute → Bool
are_code_attributes p len attributes = is_count attributes && list_all (is_code_attribute p len) attributes

abbrev pub is_sized_handler : Pool → ℕ → Handler → Bool
is_sized_handler p len h = handler_has_numbers h && is_handler p len h

abbrev pub are_handlers : Pool → ℕ → List Handler → Bool
are_handlers p len handlers = is_count handlers && list_all (is_sized_handler p len) handlers

abbrev pub is_body : Pool → CodeBody → Bool
is_body p b = body_has_numbers b && is_code_length (length b.code) && are_handlers p (length b.code) b.handlers && are_code_attributes p (length b.code) b.attributes

abbrev pub is_content : Pool → ℕ → Content → Bool
is_content p name (contents.Code body) = is_named p name (codes "Code") && is_body p body
is_content p name (contents.Other content) = not (is_named p name (codes "Code"))

abbrev pub is_method_attribute : Pool → Attribute → Bool
is_method_attribute p a = is_short a.name && is_utf (constant_at p a.name) && is_size (spell_content a.content) && is_content p a.name a.content

-- one at most is a Code; found says whether one of those before is
abbrev pub has_one_code : Bool → List Attribute → Bool
has_one_code found [] = true
has_one_code found (a ∷ attributes) = not (found && is_code a) && has_one_code (found || is_code a) attributes

abbrev pub are_method_attributes : Pool → List Attribute → Bool
are_method_attributes p attributes = is_count attributes && list_all (is_method_attribute p) attributes && has_one_code false attributes

abbrev pub is_plain_attribute : Pool → Attribute → Bool
is_plain_attribute p a = is_short a.name && is_utf (constant_at p a.name) && is_size (spell_content a.content) && not (is_code a)

abbrev pub are_plain_attributes : Pool → List Attribute → Bool
are_plain_attributes p attributes = is_count attributes && list_all (is_plain_attribute p) attributes

-- MEMBERS

-- none of the others has the name and descriptor of the member
abbrev pub is_alone : Pool → Member → List Member → Bool
is_alone p m others = list_all (λ x. not (has_texts_of p x.name x.descriptor m)) others

abbrev pub are_distinct : Pool → List Member → Bool
are_distinct p [] = true
are_distinct p (m ∷ ms) = is_alone p m ms && are_distinct p ms

abbrev pub is_field_member : Pool → Member → Bool
is_field_member p m = member_has_numbers m && are_field_texts p m.name m.descriptor && are_plain_attributes p m.attributes

abbrev pub are_fields : Pool → List Member → Bool
are_fields p ms = is_count ms && list_all (is_field_member p) ms && are_distinct p ms

abbrev pub is_method_member : Pool → ℕ → Member → Bool
is_method_member p class_flags m =
    member_has_numbers m && are_method_texts p m.name m.descriptor && has_slots p m.flags m.descriptor && is_of_kind p class_flags m.flags m.name
    && are_method_attributes p m.attributes && has_code_where_needed p m.flags m.name m.attributes && has_locals_for_all p m.flags m.descriptor m.attributes

abbrev pub are_methods : Pool → ℕ → List Member → Bool
are_methods p class_flags ms = is_count ms && list_all (is_method_member p class_flags) ms && are_distinct p ms

-- THE CLASS FILE

abbrev pub is_interface : Pool → ℕ → Bool
is_interface p i = is_short i && is_plain_class p i

abbrev pub are_interfaces : Pool → List ℕ → Bool
are_interfaces p interfaces = is_count interfaces && list_all (is_interface p) interfaces

-- this class and its superclass
abbrev pub is_class : ClassFile → Bool
is_class c = is_plain_class c.pool c.this_class && is_superclass c.pool c.this_class c.super_class

abbrev pub is_class_file : ClassFile → Bool
is_class_file c =
    class_has_numbers c && is_version c.major && nat_eq c.pool.major c.major && is_pool c.pool && is_class c && are_interfaces c.pool c.interfaces
    && are_fields c.pool c.fields && are_methods c.pool c.flags c.methods && are_plain_attributes c.pool c.attributes

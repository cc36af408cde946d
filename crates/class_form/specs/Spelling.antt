-- The bytes of a class file, item by item (JVMS SE 7 4.1 and 4.4 to 4.7). All numbers are big-endian.
use Rattle.std.specs.Prelude.{ℕ, suc, List, [], ◌++◌, length}
use Rattle.std.specs.List.{flat_map}
use Rattle.byteorder.specs.Endian.{big_bytes}
use Rattle.class_form.specs.declared.pool.Pool.{Pool}
use Rattle.class_form.specs.declared.pool.Constant.{Constant}
use Rattle.class_form.specs.declared.pool.Constant.TheVariants.{Utf8, Integer, Float, Long, Double, Class, Text, Field, Method, InterfaceMethod, NameAndType, Handle, MethodType, Dynamic, Second}
use Rattle.class_form.specs.declared.class_file.ClassFile.{ClassFile}
use Rattle.class_form.specs.declared.class_file.Member.{Member}
use Rattle.class_form.specs.declared.class_file.Attribute.{Attribute}
use Rattle.class_form.specs.declared.class_file.Content.{Content}
use Rattle.class_form.specs.declared.class_file.Content.TheVariants as contents
use Rattle.class_form.specs.declared.class_file.CodeBody.{CodeBody}
use Rattle.class_form.specs.declared.class_file.CodeAttribute.{CodeAttribute}
use Rattle.class_form.specs.declared.class_file.CodeContent.{CodeContent}
use Rattle.class_form.specs.declared.class_file.CodeContent.TheVariants as codes
use Rattle.class_form.specs.declared.class_file.Handler.{Handler}

-- the tag of a constant (table 4.4-A); the second index of a Long or Double has none
abbrev pub tag_of : Constant → ℕ
tag_of (Utf8 text) = 1
tag_of (Integer n) = 3
tag_of (Float n) = 4
tag_of (Long n) = 5
tag_of (Double n) = 6
tag_of (Class name) = 7
tag_of (Text text) = 8
tag_of (Field class rest) = 9
tag_of (Method class rest) = 10
tag_of (InterfaceMethod class rest) = 11
tag_of (NameAndType name descriptor) = 12
tag_of (Handle kind reference) = 15
tag_of (MethodType descriptor) = 16
tag_of (Dynamic bootstrap rest) = 18
tag_of Second = 0

-- what stands behind the tag
abbrev pub spell_info : Constant → List ℕ
spell_info (Utf8 text) = big_bytes 2 (length text) ++ text
spell_info (Integer n) = big_bytes 4 n
spell_info (Float n) = big_bytes 4 n
spell_info (Long n) = big_bytes 8 n
spell_info (Double n) = big_bytes 8 n
spell_info (Class name) = big_bytes 2 name
spell_info (Text text) = big_bytes 2 text
spell_info (Field class rest) = big_bytes 2 class ++ big_bytes 2 rest
spell_info (Method class rest) = big_bytes 2 class ++ big_bytes 2 rest
spell_info (InterfaceMethod class rest) = big_bytes 2 class ++ big_bytes 2 rest
spell_info (NameAndType name descriptor) = big_bytes 2 name ++ big_bytes 2 descriptor
spell_info (Handle kind reference) = big_bytes 1 kind ++ big_bytes 2 reference
spell_info (MethodType descriptor) = big_bytes 2 descriptor
spell_info (Dynamic bootstrap rest) = big_bytes 2 bootstrap ++ big_bytes 2 rest
spell_info Second = []

-- the tag and the rest; the second index of a Long or Double has no bytes
abbrev pub spell_constant : Constant → List ℕ
spell_constant Second = []
spell_constant c = big_bytes 1 (tag_of c) ++ spell_info c

-- the count, which is one more than that of the constants, and the constants
abbrev pub spell_pool : Pool → List ℕ
spell_pool p = big_bytes 2 (suc (length p.constants)) ++ flat_map spell_constant p.constants

-- a count of two bytes, and the items
abbrev pub spell_counted : {A : Type 0} → (A → List ℕ) → List A → List ℕ
spell_counted spell items = big_bytes 2 (length items) ++ flat_map spell items

-- a length of four bytes, and the content
abbrev pub spell_boxed : List ℕ → List ℕ
spell_boxed content = big_bytes 4 (length content) ++ content

abbrev pub spell_handler : Handler → List ℕ
spell_handler h = big_bytes 2 h.start ++ big_bytes 2 h.end ++ big_bytes 2 h.handler ++ big_bytes 2 h.catch_type

-- a first pc and its line
abbrev pub spell_line : ℕ × ℕ → List ℕ
spell_line l = big_bytes 2 l.0 ++ big_bytes 2 l.1

abbrev pub spell_code_content : CodeContent → List ℕ
spell_code_content (codes.Lines lines) = spell_counted spell_line lines
spell_code_content (codes.Other content) = content

abbrev pub spell_code_attribute : CodeAttribute → List ℕ
spell_code_attribute a = big_bytes 2 a.name ++ spell_boxed (spell_code_content a.content)

abbrev pub spell_code : CodeBody → List ℕ
spell_code b =
    big_bytes 2 b.max_stack ++ big_bytes 2 b.max_locals ++ spell_boxed b.code ++ spell_counted spell_handler b.handlers
    ++ spell_counted spell_code_attribute b.attributes

abbrev pub spell_content : Content → List ℕ
spell_content (contents.Code body) = spell_code body
spell_content (contents.Other content) = content

abbrev pub spell_attribute : Attribute → List ℕ
spell_attribute a = big_bytes 2 a.name ++ spell_boxed (spell_content a.content)

abbrev pub spell_member : Member → List ℕ
spell_member m = big_bytes 2 m.flags ++ big_bytes 2 m.name ++ big_bytes 2 m.descriptor ++ spell_counted spell_attribute m.attributes

-- behind the version
abbrev pub spell_class : ClassFile → List ℕ
spell_class c =
    spell_pool c.pool ++ big_bytes 2 c.flags ++ big_bytes 2 c.this_class ++ big_bytes 2 c.super_class
    ++ spell_counted (big_bytes 2) c.interfaces ++ spell_counted spell_member c.fields ++ spell_counted spell_member c.methods
    ++ spell_counted spell_attribute c.attributes

abbrev pub spelling : ClassFile → List ℕ
spelling c = big_bytes 4 0xcafebabe ++ big_bytes 2 c.minor ++ big_bytes 2 c.major ++ spell_class c

-- How long texts are.
use Rattle.std.proofs.Common.{◌≡◌, ℕ, ◌+◌, ◌*◌, List, [], ◌∷◌, ◌++◌, length, refl, length-append, arith}
use Rattle.std.specs.List.{flat_map}
use Rattle.byteorder.specs.Endian.{big_bytes}
use Rattle.class_form.specs.Spelling.{spell_line, spell_handler, spell_code, spell_code_attribute, spell_constant, spell_member, spell_attribute, spell_counted, spelling}
use Rattle.class_form.specs.declared.class_file.ClassFile.{ClassFile}
use Rattle.class_form.specs.declared.class_file.CodeBody.{CodeBody}
use Rattle.class_form.specs.declared.class_file.Handler.{Handler}

joined : (xs ys : List ℕ) → length (xs ++ ys) ≡ length xs + length ys
joined xs ys = length-append xs ys

pub lines_length : (ls : List (ℕ × ℕ)) → length (flat_map spell_line ls) ≡ length ls * 4
lines_length [] = refl
lines_length (l ∷ ls) = omega (arith, lines_length ls)

pub handlers_length : (hs : List Handler) → length (flat_map spell_handler hs) ≡ length hs * 8
handlers_length [] = refl
handlers_length (h ∷ hs) = omega (arith, handlers_length hs)

pub shorts_length : (is : List ℕ) → length (flat_map (big_bytes 2) is) ≡ length is * 2
shorts_length [] = refl
shorts_length (i ∷ is) = omega (arith, shorts_length is)

three : (a b c : List ℕ) → length (a ++ b ++ c) ≡ length a + length b + length c
three a b c = omega (arith, joined (a ++ b) c, joined a b)

eight : (a b c d e f g h : List ℕ) → length (a ++ b ++ c ++ d ++ e ++ f ++ g ++ h) ≡ length a + length b + length c + length d + length e + length f + length g + length h
eight a b c d e f g h =
    omega (arith, three (a ++ b ++ c ++ d ++ e ++ f) g h, three (a ++ b ++ c ++ d) e f, three (a ++ b) c d, joined a b)

pub code_length : (b : CodeBody) → length (spell_code b) ≡ length b.code + 12 + length b.handlers * 8 + length (flat_map spell_code_attribute b.attributes)
code_length b = omega (arith, handlers_length b.handlers, three b.code (spell_counted spell_handler b.handlers) (spell_counted spell_code_attribute b.attributes))

pub class_length : (c : ClassFile)
    → length (spelling c) ≡ length (flat_map spell_constant c.pool.constants) + 24 + length c.interfaces * 2 + length (flat_map spell_member c.fields) + length (flat_map spell_member c.methods) + length (flat_map spell_attribute c.attributes)
class_length c =
    let rest = eight (flat_map spell_constant c.pool.constants) (big_bytes 2 c.flags) (big_bytes 2 c.this_class) (big_bytes 2 c.super_class) (spell_counted (big_bytes 2) c.interfaces) (spell_counted spell_member c.fields) (spell_counted spell_member c.methods) (spell_counted spell_attribute c.attributes) in
    omega (arith, shorts_length c.interfaces, rest)

-- A class file has more bytes than classes, fields and methods.
use Rattle.std.proofs.Common.{◌≡◌, ◌<◌, ◌≤◌, ◌+◌, ℕ, List, [], ◌∷◌, ◌++◌, length, ap, arith, length-append}
use Rattle.std.specs.Int.{bytes_high_first}
use Rattle.std.specs.List.{sum_by, flat_map}
use Rattle.std.proofs.lemmas.List.Sums.{sum_by-cons}
use Rattle.std.proofs.lemmas.List.Concat.{flat_map-cons}
use Rattle.byte_form.proofs.Numbers.{length-big_bytes}
use Rattle.class_form.specs.Spelling.{spell_pool, spell_counted, spell_attribute, spell_member, spell_class, spelling}
use Rattle.class_form.specs.declared.class_file.ClassFile.{ClassFile}
use Rattle.class_form.specs.declared.class_file.Member.{Member}
use Rattle.hierarchy.specs.Trees.{AreFew}
use Rattle.acceptance.specs.Classes.{AreSound, none, file}

first_part : (a b c d : List ℕ) → length a ≡ 2 → 0 < length (a ++ b ++ c ++ d)
first_part a b c d two = omega (arith, two, length-append a b, length-append (a ++ b) c, length-append (a ++ b ++ c) d)

last_part : (a b : List ℕ) (n : ℕ) → n ≤ length b → n ≤ length (a ++ b)
last_part a b n le = omega (arith, le, length-append a b)

middle_parts : (a b c d : List ℕ) (m n : ℕ) → m ≤ length b → n ≤ length c → m + n ≤ length (a ++ b ++ c ++ d)
middle_parts a b c d m n le more = omega (arith, le, more, length-append a b, length-append (a ++ b) c, length-append (a ++ b ++ c) d)

outer_parts : (a b c d : List ℕ) (n : ℕ) → length a ≡ 4 → n ≤ length d → n + 1 ≤ length (a ++ b ++ c ++ d)
outer_parts a b c d n four le = omega (arith, four, le, length-append a b, length-append (a ++ b) c, length-append (a ++ b ++ c) d)

-- where no item is spelled by no bytes, there are no fewer bytes than items
one_each : {A : Type 0} (f : A → List ℕ) (xs : List A) → ((x : A) → 0 < length (f x)) → length xs ≤ length (flat_map f xs)
one_each f [] some = omega arith
one_each f (x ∷ xs) some =
    omega (arith, some x, one_each f xs some, ap (length {A = ℕ}) (flat_map-cons f x xs), length-append (f x) (flat_map f xs))

counted : (ms : List Member) → length ms ≤ length (spell_counted spell_member ms)
counted ms =
    last_part (bytes_high_first 2 (length ms)) (flat_map spell_member ms) (length ms)
    (one_each spell_member ms (λ m. first_part (bytes_high_first 2 m.flags) (bytes_high_first 2 m.name) (bytes_high_first 2 m.descriptor) (spell_counted spell_attribute m.attributes) (length-big_bytes 2 m.flags)))

one_class : (c : ClassFile) → length c.fields + length c.methods + 1 ≤ length (spelling c)
one_class c =
    let before = spell_pool c.pool ++ bytes_high_first 2 c.flags ++ bytes_high_first 2 c.this_class ++ bytes_high_first 2 c.super_class ++ spell_counted (bytes_high_first 2) c.interfaces in
    let members = middle_parts before (spell_counted spell_member c.fields) (spell_counted spell_member c.methods) (spell_counted spell_attribute c.attributes) (length c.fields) (length c.methods) (counted c.fields) (counted c.methods) in
    outer_parts (bytes_high_first 4 0xcafebabe) (bytes_high_first 2 c.minor) (bytes_high_first 2 c.major) (spell_class c) (length c.fields + length c.methods) (length-big_bytes 4 0xcafebabe) members

all_classes : (contents : List (List ℕ)) (files : List ClassFile) → AreSound contents files
    → length files + sum_by (λ (k : ClassFile). length k.fields + length k.methods) files ≤ sum_by length contents
all_classes _ _ none = omega arith
all_classes _ _ (file {bytes} {c} {contents} {files} s rest) =
    omega (
      arith,
      one_class c,
      ap (length {A = ℕ}) s.spells.1,
      all_classes contents files rest,
      sum_by-cons (λ (k : ClassFile). length k.fields + length k.methods) c files,
      sum_by-cons (length {A = ℕ}) bytes contents,
    )

pub are_few : (contents : List (List ℕ)) (files : List ClassFile) → sum_by length contents ≤ 67108864 → AreSound contents files → AreFew files
are_few contents files total sound = omega (arith, total, all_classes contents files sound)

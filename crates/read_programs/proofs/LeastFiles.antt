-- The class file of the least program keeps the rules.
use Rattle.std.proofs.Common.{◌≡◌, ℕ, List, [], ◌∷◌, All, AllPairs, codes, inl, inr, refl, ap, arith}
use Rattle.std.proofs.lemmas.List.Elements.{All-nil, All-cons}
use Rattle.class_form.specs.ClassRules.{IsCode, IsCodeAttribute, IsBody, IsMethodAttribute, IsFieldMember, IsMethodMember, IsInterfaceIndex, IsPlainAttribute, HasTextsOf, IsSizedHandler, IsClassFile}
use Rattle.class_form.specs.PoolRules.{IsPool}
use Rattle.class_form.specs.declared.class_file.Attribute.{Attribute}
use Rattle.class_form.specs.declared.class_file.Content.TheVariants.{Code}
use Rattle.class_form.specs.declared.class_file.Member.{Member}
use Rattle.class_form.proofs.Characters.{is_modified_utf8-Decides}
use Rattle.class_form.proofs.ClassNames.{is_class_name-Decides}
use Rattle.class_form.proofs.ClassTests.{are_method_texts-Decides, has_slots-Decides, is_of_kind-Decides, has_code_where_needed-Decides, has_locals_for_all-Decides}
use Rattle.program_form.specs.Tiny.{tiny_pool, tiny_code, tiny_member, tiny_class, tiny_program}

all_one : {A : Type 0} (P : A → Type 0) (x : A) → P x → All P (x ∷ [])
all_one P x h = All-cons P x [] h (All-nil P)

no_pairs : {A : Type 0} (R : A → A → Type 0) → AllPairs R []
no_pairs R = λ i j d lt within. absurd (omega (arith, within))

one_alone : {A : Type 0} (R : A → A → Type 0) (x : A) → AllPairs R (x ∷ [])
one_alone R x = λ i j d lt within. absurd (omega (arith, lt, within))

abbrev first_byte : List ℕ → ℕ
first_byte [] = 0
first_byte (b ∷ bytes) = b

pool_keeps : IsPool tiny_pool
pool_keeps = record {
  count = omega arith;
  version = (tt, (tt, (tt, (tt, (tt, tt)))));
  infos = (
    (omega arith, (is_modified_utf8-Decides (codes "java/lang/Object")).0 refl),
    (
      omega arith,
      (
        (omega arith, (is_modified_utf8-Decides (codes "main")).0 refl),
        ((omega arith, (is_modified_utf8-Decides (codes "([Ljava/lang/String;)V")).0 refl), ((omega arith, (is_modified_utf8-Decides (codes "Code")).0 refl), tt)),
      ),
    ),
  );
  indices = (λ n. n, λ n. n, (λ n. n, λ n. n, (λ n. n, λ n. n, (λ n. n, λ n. n, (λ n. n, λ n. n, λ n. n)))));
  kinds = (tt, ((codes "java/lang/Object", refl), (tt, (tt, (tt, tt)))));
  texts = (tt, ((codes "java/lang/Object", refl, inl ((is_class_name-Decides (codes "java/lang/Object")).0 refl)), (tt, (tt, (tt, tt)))));
}

body_keeps : IsBody tiny_pool tiny_code
body_keeps = record {
  max_stack = omega arith;
  max_locals = omega arith;
  code = (omega arith, omega arith);
  handler_count = omega arith;
  handlers = All-nil (IsSizedHandler tiny_pool 1);
  attribute_count = omega arith;
  attributes = All-nil (IsCodeAttribute tiny_pool 1);
}

abbrev code_attribute : Attribute
code_attribute = record { name = 5; content = Code tiny_code }

attribute_keeps : IsMethodAttribute tiny_pool code_attribute
attribute_keeps = record { number = omega arith; name = (codes "Code", refl); size = omega arith; content = (refl, body_keeps) }

method_keeps : IsMethodMember tiny_pool 33 tiny_member
method_keeps = record {
  flags = omega arith;
  name = omega arith;
  descriptor = omega arith;
  texts = (are_method_texts-Decides tiny_pool 3 4).0 refl;
  slots = (has_slots-Decides tiny_pool 9 4).0 refl;
  kind = (is_of_kind-Decides tiny_pool 33 9 3).0 refl;
  attribute_count = omega arith;
  attributes = all_one (IsMethodAttribute tiny_pool) code_attribute attribute_keeps;
  one_code = one_alone (λ a b. IsCode a → IsCode b → ⊥) code_attribute;
  code = (has_code_where_needed-Decides tiny_pool 9 3 (code_attribute ∷ [])).0 refl;
  locals = (has_locals_for_all-Decides tiny_pool 9 4 (code_attribute ∷ [])).0 refl;
}

abbrev AreApart : Member → Member → Type 0
AreApart a b = HasTextsOf tiny_pool a b.name b.descriptor → ⊥

class_keeps : IsClassFile tiny_class
class_keeps = record {
  minor = omega arith;
  major = (omega arith, omega arith);
  pool_major = refl;
  pool = pool_keeps;
  flags = omega arith;
  this_number = omega arith;
  this_class = (codes "java/lang/Object", refl, λ n. absurd (let e : 106 ≡ 91 = ap first_byte n.1 in omega (arith, e)));
  super_number = omega arith;
  super_class = inr (refl, refl);
  interface_count = omega arith;
  interfaces = All-nil (IsInterfaceIndex tiny_pool);
  field_count = omega arith;
  fields = All-nil (IsFieldMember tiny_pool);
  distinct_fields = no_pairs AreApart;
  method_count = omega arith;
  methods = all_one (IsMethodMember tiny_pool 33) tiny_member method_keeps;
  distinct_methods = one_alone AreApart tiny_member;
  attribute_count = omega arith;
  attributes = All-nil (IsPlainAttribute tiny_pool);
}

pub tiny_files_keep : All IsClassFile tiny_program.classes
tiny_files_keep = all_one IsClassFile tiny_class class_keeps

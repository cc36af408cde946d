-- The tests on class files decide their rules.
use Rattle.std.proofs.Common.{◌≡◌, ◌⊎◌, inl, inr, ℕ, zero, suc, ◌+◌, ◌<◌, ◌≤◌, ◌^◌, Bool, true, false, leb, List, [], ◌∷◌, length, get_or, refl, sym, arith}
use Rattle.std.specs.Prelude.{not, ◌&&◌, ◌||◌, codes}
use Rattle.std.specs.List.{list_all, list_any, All, AllPairs}
use Rattle.std.specs.Bool.{Decides}
use Rattle.std.proofs.lemmas.Bool.Decides.{Decides-eqb, Decides-ltb, Decides-and, Decides-or, Decides-not, Decides-like}
use Rattle.std.proofs.lemmas.List.Elements.{All-cons, All-head, All-tail}
use Rattle.std.proofs.lemmas.List.Kept.{AllPairs-cons}
use Rattle.class_form.specs.ClassRules.{IsNamed, IsPlainClass, HasTextsOf, AreDistinct, IsCode, IsLine, IsCodeContent, IsCodeAttribute, IsSizedHandler, IsBody, IsContent, IsMethodAttribute, IsPlainAttribute, IsFieldMember, IsMethodMember, IsInterfaceIndex, IsClassFile}
use Rattle.class_form.specs.ClassReading.{has_texts_of, is_new, is_code}
use Rattle.class_form.specs.Spelling.{spell_content, spell_code_content, spelling}
use Rattle.class_form.proofs.PoolTests.{Decides-leb}
use Rattle.class_form.proofs.ClassTests.{is_named-Decides, is_plain_class-Decides, is_superclass-Decides, are_field_texts-Decides, are_method_texts-Decides, is_new-Decides, has_slots-Decides, is_code-Decides, is_of_kind-Decides, has_code_where_needed-Decides, has_locals_for_all-Decides, is_code_length-Decides, is_handler-Decides, is_version-Decides, is_utf-Decides}
use Rattle.class_form.specs.declared.pool.Pool.{Pool}
use Rattle.class_form.specs.declared.class_file.ClassFile.{ClassFile}
use Rattle.class_form.specs.declared.class_file.Member.{Member}
use Rattle.class_form.specs.declared.class_file.Attribute.{Attribute}
use Rattle.class_form.specs.declared.class_file.Content.{Content}
use Rattle.class_form.specs.declared.class_file.Content.TheVariants as contents
use Rattle.class_form.specs.declared.class_file.CodeBody.{CodeBody}
use Rattle.class_form.specs.declared.class_file.CodeAttribute.{CodeAttribute}
use Rattle.class_form.specs.declared.class_file.CodeContent.{CodeContent}
use Rattle.class_form.specs.declared.class_file.CodeContent.TheVariants as code_contents
use Rattle.class_form.specs.declared.class_file.Handler.{Handler}
use Rattle.class_writer.specs.Numbers.{is_short, line_has_numbers, handler_has_numbers, body_has_numbers, member_has_numbers, class_has_numbers}
use Rattle.class_writer.specs.Tests.{is_size, is_line, is_code_content, is_code_attribute, is_sized_handler, are_handlers, are_code_attributes, is_body, is_content, is_method_attribute, has_one_code, are_method_attributes, is_plain_attribute, are_plain_attributes, is_alone, are_distinct, is_field_member, are_fields, is_method_member, are_methods, is_interface, are_interfaces, is_class, is_class_file}
use Rattle.class_writer.specs.Spelled.{IsSpelled}
use Rattle.class_writer.proofs.PoolDecided.{is_short-Decides, is_count-Decides, all-Decides, is_pool-Decides}

is_size-Decides : (bytes : List ℕ) → Decides (is_size bytes) (length bytes < 2 ^ 32)
is_size-Decides bytes = Decides-like _ (λ h. omega (arith, h)) (λ h. omega (arith, h)) (Decides-leb (length bytes) 0xffffffff)

-- a count, and all items
counted-Decides : {A : Type 0} (test : A → Bool) (P : A → Type 0) → ((x : A) → Decides (test x) (P x)) → (xs : List A) → Decides (leb (length xs) 0xffff && list_all test xs) ((length xs < 2 ^ 16) × All P xs)
counted-Decides test P each xs = Decides-and _ _ (is_count-Decides xs) (all-Decides test P each xs)

-- ---- attributes of code

is_line-Decides : (len : ℕ) (l : ℕ × ℕ) → Decides (is_line len l) (IsLine len l)
unfolding line_has_numbers
is_line-Decides len l = Decides-like _ (λ h. (h.0.0, h.0.1, h.1)) (λ h. ((h.0, h.1), h.2)) (Decides-and _ _ (Decides-and _ _ (is_short-Decides l.0) (is_short-Decides l.1)) (Decides-ltb l.0 len))

is_code_content-Decides : (p : Pool) (len name : ℕ) (c : CodeContent) → Decides (is_code_content p len name c) (IsCodeContent p len name c)
is_code_content-Decides p len name (code_contents.Lines lines) = Decides-like _ (λ h. (h.0.0, h.0.1, h.1)) (λ h. ((h.0, h.1), h.2))
    (Decides-and _ _ (Decides-and _ _ (is_named-Decides p name (codes "LineNumberTable")) (is_count-Decides lines)) (all-Decides (is_line len) (IsLine len) (is_line-Decides len) lines))
is_code_content-Decides p len name (code_contents.Other content) = Decides-not _ (is_named-Decides p name (codes "LineNumberTable"))

is_code_attribute-Decides : (p : Pool) (len : ℕ) (a : CodeAttribute) → Decides (is_code_attribute p len a) (IsCodeAttribute p len a)
is_code_attribute-Decides p len a =
    Decides-like _
    (λ h. record { number = h.0.0.0; name = h.0.0.1; size = h.0.1; content = h.1 })
    (λ h. (((h.number, h.name), h.size), h.content))
    (Decides-and _ _ (Decides-and _ _ (Decides-and _ _ (is_short-Decides a.name) (is_utf-Decides p a.name)) (is_size-Decides (spell_code_content a.content))) (is_code_content-Decides p len a.name a.content))

-- ---- code

is_sized_handler-Decides : (p : Pool) (len : ℕ) (h : Handler) → Decides (is_sized_handler p len h) (IsSizedHandler p len h)
unfolding handler_has_numbers
is_sized_handler-Decides p len h =
    Decides-like _
    (λ k. record { start = k.0.0.0.0; end = k.0.0.0.1; handler = k.0.0.1; catch_type = k.0.1; fits = k.1 })
    (λ k. ((((k.start, k.end), k.handler), k.catch_type), k.fits))
    (Decides-and _ _ (Decides-and _ _ (Decides-and _ _ (Decides-and _ _ (is_short-Decides h.start) (is_short-Decides h.end)) (is_short-Decides h.handler)) (is_short-Decides h.catch_type)) (is_handler-Decides p len h))

is_body-Decides : (p : Pool) (b : CodeBody) → Decides (is_body p b) (IsBody p b)
unfolding body_has_numbers
is_body-Decides p b =
    let len = length b.code in
    Decides-like _
    (λ h. record { max_stack = h.0.0.0.0; max_locals = h.0.0.0.1; code = h.0.0.1; handler_count = h.0.1.0; handlers = h.0.1.1; attribute_count = h.1.0; attributes = h.1.1 })
    (λ h. ((((h.max_stack, h.max_locals), h.code), (h.handler_count, h.handlers)), (h.attribute_count, h.attributes)))
    (Decides-and _ _ (Decides-and _ _ (Decides-and _ _ (Decides-and _ _ (is_short-Decides b.max_stack) (is_short-Decides b.max_locals)) (is_code_length-Decides len))
    (counted-Decides (is_sized_handler p len) (IsSizedHandler p len) (is_sized_handler-Decides p len) b.handlers))
    (counted-Decides (is_code_attribute p len) (IsCodeAttribute p len) (is_code_attribute-Decides p len) b.attributes))

-- ---- attributes

is_content-Decides : (p : Pool) (name : ℕ) (c : Content) → Decides (is_content p name c) (IsContent p name c)
is_content-Decides p name (contents.Code body) = Decides-and _ _ (is_named-Decides p name (codes "Code")) (is_body-Decides p body)
is_content-Decides p name (contents.Other content) = Decides-not _ (is_named-Decides p name (codes "Code"))

is_method_attribute-Decides : (p : Pool) (a : Attribute) → Decides (is_method_attribute p a) (IsMethodAttribute p a)
is_method_attribute-Decides p a =
    Decides-like _
    (λ h. record { number = h.0.0.0; name = h.0.0.1; size = h.0.1; content = h.1 })
    (λ h. (((h.number, h.name), h.size), h.content))
    (Decides-and _ _ (Decides-and _ _ (Decides-and _ _ (is_short-Decides a.name) (is_utf-Decides p a.name)) (is_size-Decides (spell_content a.content))) (is_content-Decides p a.name a.content))

is_plain_attribute-Decides : (p : Pool) (a : Attribute) → Decides (is_plain_attribute p a) (IsPlainAttribute p a)
is_plain_attribute-Decides p a =
    Decides-like _
    (λ h. record { number = h.0.0.0; name = h.0.0.1; size = h.0.1; plain = h.1 })
    (λ h. (((h.number, h.name), h.size), h.plain))
    (Decides-and _ _ (Decides-and _ _ (Decides-and _ _ (is_short-Decides a.name) (is_utf-Decides p a.name)) (is_size-Decides (spell_content a.content))) (Decides-not _ (is_code-Decides a)))

are_plain_attributes-Decides : (p : Pool) (attributes : List Attribute) → Decides (are_plain_attributes p attributes) ((length attributes < 2 ^ 16) × All (IsPlainAttribute p) attributes)
are_plain_attributes-Decides p attributes = counted-Decides (is_plain_attribute p) (IsPlainAttribute p) (is_plain_attribute-Decides p) attributes

-- ---- one Code at most

abbrev AreApart : Attribute → Attribute → Type 0
AreApart a b = IsCode a → IsCode b → ⊥

pub pairs_head : {A : Type 0} (R : A → A → Type 0) (x : A) (xs : List A) → AllPairs R (x ∷ xs) → All (R x) xs
pairs_head R x xs h = λ k d lt. h 0 (suc k) d (omega arith) (omega (arith, lt))

pub pairs_tail : {A : Type 0} (R : A → A → Type 0) (x : A) (xs : List A) → AllPairs R (x ∷ xs) → AllPairs R xs
pairs_tail R x xs h = λ i j d lt within. h (suc i) (suc j) d (omega (arith, lt)) (omega (arith, within))

-- none of the attributes is a Code where one was found, and no two are
abbrev AreSingle : Type 0 → List Attribute → Type 0
AreSingle Found attributes = (Found → All (λ a. IsCode a → ⊥) attributes) × AllPairs AreApart attributes

has_one_code-Decides : (found : Bool) (Found : Type 0) → Decides found Found → (attributes : List Attribute) → Decides (has_one_code found attributes) (AreSingle Found attributes)
has_one_code-Decides found Found d [] = (λ e. (λ _ k x lt. absurd (omega (arith, lt)), λ i j x lt within. absurd (omega (arith, within))), λ _. refl)
has_one_code-Decides found Found d (a ∷ attributes) =
    let none : Attribute → Type 0 = λ x. IsCode x → ⊥ in
    Decides-like _
    (λ h. (λ f. All-cons none a attributes (λ k. h.0 (f, k)) (h.1.0 (inl f)), AllPairs-cons AreApart a attributes (λ k x lt code other. h.1.0 (inr code) k x lt other) h.1.1))
    (λ h. (
      λ k. All-head none a attributes (h.0 k.0) k.1,
      (
        λ k. elim k [
          | inl f ↦ All-tail none a attributes (h.0 f)
          | inr code ↦ λ i x lt other. pairs_head AreApart a attributes h.1 i x lt code other
        ],
        pairs_tail AreApart a attributes h.1,
      ),
    ))
    (Decides-and _ _ (Decides-not _ (Decides-and _ _ d (is_code-Decides a))) (has_one_code-Decides (found || is_code a) (Found ⊎ IsCode a) (Decides-or _ _ d (is_code-Decides a)) attributes))

one_code-Decides : (attributes : List Attribute) → Decides (has_one_code false attributes) (AllPairs AreApart attributes)
one_code-Decides attributes = Decides-like _ (λ h. h.1) (λ h. (λ f. absurd f, h)) (has_one_code-Decides false ⊥ (λ e. absurd cc, λ h. absurd h) attributes)

-- ---- members

other_texts-Decides : (p : Pool) (name descriptor : ℕ) (m : Member) → Decides (not (has_texts_of p name descriptor m)) (HasTextsOf p m name descriptor → ⊥)
other_texts-Decides p name descriptor m = by (not (has_texts_of p name descriptor m)) (is_new-Decides p (m ∷ []) name descriptor)
  where
    by : (b : Bool) → Decides (b && true) (All (λ x. HasTextsOf p x name descriptor → ⊥) (m ∷ [])) → Decides b (HasTextsOf p m name descriptor → ⊥)
    by true d = (λ _. d.0 refl 0 m (omega arith), λ _. refl)
    by false d = (λ e. absurd cc, λ h. d.1 (All-cons (λ x. HasTextsOf p x name descriptor → ⊥) m [] h (λ k x lt. absurd (omega (arith, lt)))))

pub are_distinct-Decides : (p : Pool) (ms : List Member) → Decides (are_distinct p ms) (AreDistinct p ms)
are_distinct-Decides p [] = (λ e i j x lt within. absurd (omega (arith, within)), λ _. refl)
are_distinct-Decides p (m ∷ ms) =
    let R : Member → Member → Type 0 = λ a b. HasTextsOf p a b.name b.descriptor → ⊥ in
    Decides-like _
    (λ h. AllPairs-cons R m ms h.0 h.1)
    (λ h. (pairs_head R m ms h, pairs_tail R m ms h))
    (Decides-and _ _ (all-Decides (λ x. not (has_texts_of p x.name x.descriptor m)) (R m) (λ x. other_texts-Decides p x.name x.descriptor m) ms) (are_distinct-Decides p ms))

is_field_member-Decides : (p : Pool) (m : Member) → Decides (is_field_member p m) (IsFieldMember p m)
unfolding member_has_numbers
is_field_member-Decides p m =
    Decides-like _
    (λ h. record { flags = h.0.0.0.0; name = h.0.0.0.1; descriptor = h.0.0.1; texts = h.0.1; attribute_count = h.1.0; attributes = h.1.1 })
    (λ h. ((((h.flags, h.name), h.descriptor), h.texts), (h.attribute_count, h.attributes)))
    (Decides-and _ _ (Decides-and _ _ (Decides-and _ _ (Decides-and _ _ (is_short-Decides m.flags) (is_short-Decides m.name)) (is_short-Decides m.descriptor)) (are_field_texts-Decides p m.name m.descriptor)) (are_plain_attributes-Decides p m.attributes))

is_method_member-Decides : (p : Pool) (class_flags : ℕ) (m : Member) → Decides (is_method_member p class_flags m) (IsMethodMember p class_flags m)
unfolding member_has_numbers
is_method_member-Decides p class_flags m =
    Decides-like _
    (λ h. record {
      flags = h.0.0.0.0.0.0.0.0;
      name = h.0.0.0.0.0.0.0.1;
      descriptor = h.0.0.0.0.0.0.1;
      texts = h.0.0.0.0.0.1;
      slots = h.0.0.0.0.1;
      kind = h.0.0.0.1;
      attribute_count = h.0.0.1.0.0;
      attributes = h.0.0.1.0.1;
      one_code = h.0.0.1.1;
      code = h.0.1;
      locals = h.1;
    })
    (λ h. (((((((((h.flags, h.name), h.descriptor), h.texts), h.slots), h.kind), ((h.attribute_count, h.attributes), h.one_code)), h.code), h.locals)))
    (Decides-and _ _ (Decides-and _ _ (Decides-and _ _ (Decides-and _ _ (Decides-and _ _ (Decides-and _ _
    (Decides-and _ _ (Decides-and _ _ (is_short-Decides m.flags) (is_short-Decides m.name)) (is_short-Decides m.descriptor))
    (are_method_texts-Decides p m.name m.descriptor)) (has_slots-Decides p m.flags m.descriptor)) (is_of_kind-Decides p class_flags m.flags m.name))
    (Decides-and _ _ (counted-Decides (is_method_attribute p) (IsMethodAttribute p) (is_method_attribute-Decides p) m.attributes) (one_code-Decides m.attributes)))
    (has_code_where_needed-Decides p m.flags m.name m.attributes)) (has_locals_for_all-Decides p m.flags m.descriptor m.attributes))

-- ---- the class file

is_interface-Decides : (p : Pool) (i : ℕ) → Decides (is_interface p i) (IsInterfaceIndex p i)
is_interface-Decides p i = Decides-like _ (λ h. record { number = h.0; class = h.1 }) (λ h. (h.number, h.class)) (Decides-and _ _ (is_short-Decides i) (is_plain_class-Decides p i))

is_class_file-Decides : (c : ClassFile) → Decides (is_class_file c) (IsClassFile c)
unfolding class_has_numbers
is_class_file-Decides c =
    let p = c.pool in
    Decides-like _
    (λ h. let numbers = h.0.0.0.0.0.0.0.0 in record {
      minor = numbers.0.0.0;
      major = h.0.0.0.0.0.0.0.1;
      pool_major = h.0.0.0.0.0.0.1;
      pool = h.0.0.0.0.0.1;
      flags = numbers.0.0.1;
      this_number = numbers.0.1;
      this_class = h.0.0.0.0.1.0;
      super_number = numbers.1;
      super_class = h.0.0.0.0.1.1;
      interface_count = h.0.0.0.1.0;
      interfaces = h.0.0.0.1.1;
      field_count = h.0.0.1.0.0;
      fields = h.0.0.1.0.1;
      distinct_fields = h.0.0.1.1;
      method_count = h.0.1.0.0;
      methods = h.0.1.0.1;
      distinct_methods = h.0.1.1;
      attribute_count = h.1.0;
      attributes = h.1.1;
    })
    (λ h. ((((((((((((h.minor, h.flags), h.this_number), h.super_number), h.major), h.pool_major), h.pool), (h.this_class, h.super_class)), (h.interface_count, h.interfaces)), ((h.field_count, h.fields), h.distinct_fields)), ((h.method_count, h.methods), h.distinct_methods)), (h.attribute_count, h.attributes))))
    (Decides-and _ _ (Decides-and _ _ (Decides-and _ _ (Decides-and _ _ (Decides-and _ _ (Decides-and _ _ (Decides-and _ _ (Decides-and _ _
    (Decides-and _ _ (Decides-and _ _ (Decides-and _ _ (is_short-Decides c.minor) (is_short-Decides c.flags)) (is_short-Decides c.this_class)) (is_short-Decides c.super_class))
    (is_version-Decides c.major)) (Decides-eqb p.major c.major)) (is_pool-Decides p))
    (Decides-and _ _ (is_plain_class-Decides p c.this_class) (is_superclass-Decides p c.this_class c.super_class)))
    (counted-Decides (is_interface p) (IsInterfaceIndex p) (is_interface-Decides p) c.interfaces))
    (Decides-and _ _ (counted-Decides (is_field_member p) (IsFieldMember p) (is_field_member-Decides p) c.fields) (are_distinct-Decides p c.fields)))
    (Decides-and _ _ (counted-Decides (is_method_member p c.flags) (IsMethodMember p c.flags) (is_method_member-Decides p c.flags) c.methods) (are_distinct-Decides p c.methods)))
    (are_plain_attributes-Decides p c.attributes))

pub is_spelled-Decides : (c : ClassFile) → Decides (is_class_file c) (IsSpelled c)
is_spelled-Decides c = Decides-like _ (λ h. (spelling c, (h, refl))) (λ h. h.1.0) (is_class_file-Decides c)

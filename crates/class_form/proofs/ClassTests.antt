-- The tests of the rules behind the pool decide them.
use Rattle.std.proofs.Common.{◌≡◌, ◌⊎◌, inl, inr, ℕ, zero, suc, ◌+◌, ◌<◌, ◌≤◌, ◌^◌, Bool, true, false, cond, leb, List, [], ◌∷◌, length, get_or, Option, Some, None, refl, sym, ap, subst, ◌∙◌, arith}
use Rattle.std.specs.Prelude.{not, ◌||◌, ◌↔◌, bit_and, option_map, option_and_then, All, Any, codes}
use Rattle.std.specs.Option.{option_map_or}
use Rattle.std.specs.List.{list_all, list_any}
use Rattle.std.specs.Str.{bytes_eq}
use Rattle.std.specs.Bool.{Decides}
use Rattle.std.proofs.lemmas.Bool.Decides.{Decides-eqb, Decides-ltb, Decides-and, Decides-or, Decides-not, Decides-like, Decides-by_and, not_from_Decides}
use Rattle.std.proofs.lemmas.Slice.Eq.{bytes_eq-Decides}
use Rattle.class_form.specs.NameTests.{is_unqualified_name, is_method_name, is_field_type, is_method_type, parameter_slots}
use Rattle.class_form.specs.Names.{IsUnqualifiedName, IsMethodName}
use Rattle.class_form.specs.Types.{slots}
use Rattle.class_form.specs.Pools.{constant_at, utf_at, class_at}
use Rattle.class_form.specs.PoolRules.{IsUtf, IsField, IsMethod}
use Rattle.class_form.specs.PoolReading.{is_utf}
use Rattle.class_form.specs.Classes.{IsStatic}
use Rattle.class_form.specs.ClassRules.{IsNamed, NamesArray, IsPlainClass, IsSuperclass, AreFieldTexts, AreMethodTexts, HasTextsOf, IsCode, IsInitializer, NeedsCode, HasCodeWhereNeeded, IsCodeLength, IsHandler, TakesSlots, HasSlots, HasLocals, HasLocalsForAll, IsOfKind, IsVersion}
use Rattle.class_form.specs.ClassReading.{is_set, is_named, names_array, is_plain_class, is_superclass, are_field_texts, is_initializer, are_method_texts, same_text, has_texts_of, is_new, slots_at, has_slots, is_of_kind, needs_code, is_code, has_code_where_needed, has_locals, has_locals_for_all, is_code_length, is_handler, is_version}
use Rattle.class_form.proofs.PlainNames.{is_unqualified_name-Decides, is_method_name-Decides}
use Rattle.class_form.proofs.Descriptors.{is_field_type-Decides, is_method_type-Decides, parameter_slots-is, parameter_slots-found}
use Rattle.class_form.proofs.PoolTests.{Decides-leb, text_is-Decides, utf, class}
use Rattle.class_form.specs.declared.types.MethodType as types
use Rattle.class_form.specs.declared.pool.Pool.{Pool}
use Rattle.class_form.specs.declared.class_file.Member.{Member}
use Rattle.class_form.specs.declared.class_file.Attribute.{Attribute}
use Rattle.class_form.specs.declared.class_file.Content.{Content}
use Rattle.class_form.specs.declared.class_file.Content.TheVariants as contents
use Rattle.class_form.specs.declared.class_file.Handler.{Handler}

some_is : {A : Type 0} (x y : A) → Some x ≡ Some y → x ≡ y
some_is x y e = cc

-- ---- flags and texts

pub is_set-Decides : (flags k : ℕ) → Decides (is_set flags k) (bit_and flags (2 ^ k) ≡ 0 → ⊥)
is_set-Decides flags k = Decides-not _ (Decides-eqb (bit_and flags (2 ^ k)) 0)

pub is_named-Decides : (p : Pool) (i : ℕ) (text : List ℕ) → Decides (is_named p i text) (IsNamed p i text)
is_named-Decides p i text = Decides-like _ (λ h. h.1 ∙ ap (λ (t : List ℕ). Some t) h.2) (λ h. (text, h, refl)) (text_is-Decides (λ t. bytes_eq t text) (λ t. t ≡ text) (λ t. bytes_eq-Decides t text) p i)

names_array-Decides : (text : List ℕ) → Decides (names_array text) (NamesArray text)
names_array-Decides [] = (λ e. absurd cc, λ h. absurd (let e = h.1 in cc))
names_array-Decides (b ∷ text) = Decides-like _ (λ e. (text, ap (λ n. n ∷ text) e)) (λ h. let e = h.1 in cc) (Decides-eqb b 91)

-- a class at an index passes a test exactly where its name is of the test's kind
class_is-Decides : (test : List ℕ → Bool) (P : List ℕ → Type 0) → ((text : List ℕ) → Decides (test text) (P text)) → (p : Pool) (i : ℕ) → Decides (option_map_or test (class_at p i) false) ((text : List ℕ) × (class_at p i ≡ Some text) × P text)
class_is-Decides test P d p i = by (class_at p i)
  where
    by : (o : Option (List ℕ)) → Decides (option_map_or test o false) ((text : List ℕ) × (o ≡ Some text) × P text)
    by None = (λ e. absurd cc, λ h. absurd (let e = h.1 in cc))
    by (Some t) = (λ e. (t, refl, (d t).0 e), λ h. (d t).1 (subst P (sym (some_is t h.0 h.1)) h.2))

pub is_plain_class-Decides : (p : Pool) (i : ℕ) → Decides (is_plain_class p i) (IsPlainClass p i)
is_plain_class-Decides p i = class_is-Decides (λ t. not (names_array t)) (λ t. NamesArray t → ⊥) (λ t. Decides-not _ (names_array-Decides t)) p i

pub is_superclass-Decides : (p : Pool) (this super : ℕ) → Decides (is_superclass p this super) (IsSuperclass p this super)
is_superclass-Decides p this super =
    let object = codes "java/lang/Object" in
    Decides-or _ _ (is_plain_class-Decides p super) (Decides-and _ _ (Decides-eqb super 0)
    (Decides-like _ (λ h. h.1 ∙ ap (λ (t : List ℕ). Some t) h.2) (λ h. (object, h, refl)) (class_is-Decides (λ t. bytes_eq t object) (λ t. t ≡ object) (λ t. bytes_eq-Decides t object) p this)))

pub are_field_texts-Decides : (p : Pool) (name descriptor : ℕ) → Decides (are_field_texts p name descriptor) (AreFieldTexts p name descriptor)
are_field_texts-Decides p name descriptor = Decides-like _ (λ h. (h.0.0, h.1.0, h.0.1, h.1.1, h.0.2, h.1.2)) (λ h. ((h.0, h.2, h.4), (h.1, h.3, h.5)))
    (Decides-and _ _ (text_is-Decides is_unqualified_name IsUnqualifiedName is_unqualified_name-Decides p name) (text_is-Decides is_field_type IsField is_field_type-Decides p descriptor))

-- one fact where another holds
Decides-where : {P Q : Type 0} (x y : Bool) → Decides x P → Decides y Q → Decides (not x || y) (P → Q)
Decides-where true y d e = (λ h _. e.0 h, λ f. e.1 (f (d.0 refl)))
Decides-where false y d e = (λ h p. absurd (let c = d.1 p in cc), λ f. refl)

pub are_method_texts-Decides : (p : Pool) (name descriptor : ℕ) → Decides (are_method_texts p name descriptor) (AreMethodTexts p name descriptor)
are_method_texts-Decides p name descriptor = Decides-like _
    (λ h. (h.0.0.0, h.0.1.0, h.0.0.1, h.0.1.1, h.0.0.2, h.0.1.2, λ e. some_is h.0.1.0 (codes "()V") (sym h.0.1.1 ∙ h.1 (h.0.0.1 ∙ ap (λ (t : List ℕ). Some t) e))))
    (λ h. (((h.0, h.2, h.4), (h.1, h.3, h.5)), λ e. h.3 ∙ ap (λ (t : List ℕ). Some t) (h.6 (some_is h.0 (codes "<clinit>") (sym h.2 ∙ e)))))
    (Decides-and _ _ (Decides-and _ _ (text_is-Decides is_method_name IsMethodName is_method_name-Decides p name) (text_is-Decides is_method_type IsMethod is_method_type-Decides p descriptor))
    (Decides-where _ _ (is_named-Decides p name (codes "<clinit>")) (is_named-Decides p descriptor (codes "()V"))))

-- ---- members before

same_text-Decides : (a b : Option (List ℕ)) → Decides (same_text a b) (a ≡ b)
same_text-Decides (Some a) (Some b) = Decides-like _ (λ e. ap (λ (t : List ℕ). Some t) e) (λ e. some_is a b e) (bytes_eq-Decides a b)
same_text-Decides (Some a) None = (λ e. absurd cc, λ e. absurd cc)
same_text-Decides None (Some b) = (λ e. absurd cc, λ e. absurd cc)
same_text-Decides None None = (λ e. refl, λ e. refl)

has_texts_of-Decides : (p : Pool) (name descriptor : ℕ) (m : Member) → Decides (has_texts_of p name descriptor m) (HasTextsOf p m name descriptor)
has_texts_of-Decides p name descriptor m = Decides-and _ _ (same_text-Decides (utf_at p m.name) (utf_at p name)) (same_text-Decides (utf_at p m.descriptor) (utf_at p descriptor))

pub is_new-Decides : (p : Pool) (before : List Member) (name descriptor : ℕ) → Decides (is_new p before name descriptor) (All (λ m. HasTextsOf p m name descriptor → ⊥) before)
is_new-Decides p before name descriptor =
    Decides-by_and (λ m. not (has_texts_of p name descriptor m)) (λ m. HasTextsOf p m name descriptor → ⊥) (list_all (λ m. not (has_texts_of p name descriptor m))) (λ m. Decides-not _ (has_texts_of-Decides p name descriptor m)) refl (λ _ _. refl) before

-- ---- slots

slots_taken : (p : Pool) (flags descriptor n : ℕ) → slots_at p flags descriptor ≡ Some n → TakesSlots p flags descriptor n
slots_taken p flags descriptor n = by (utf_at p descriptor) refl
  where
    static : (text : List ℕ) (m : types.MethodType) (k : ℕ) (b : Bool) → is_set flags 3 ≡ b → slots m.arguments ≡ k → cond b k (k + 1) ≡ n → (IsStatic flags × (n ≡ slots m.arguments)) ⊎ ((IsStatic flags → ⊥) × (n ≡ slots m.arguments + 1))
    static text m k true e same h = inl ((is_set-Decides flags 3).0 e, omega (arith, same, h))
    static text m k false e same h = inr (not_from_Decides _ (is_set-Decides flags 3) e, omega (arith, same, h))

    inside : (text : List ℕ) → utf_at p descriptor ≡ Some text → (o : Option ℕ) → parameter_slots text ≡ o → option_map (λ k. cond (is_set flags 3) k (k + 1)) o ≡ Some n → TakesSlots p flags descriptor n
    inside text e None f h = absurd cc
    inside text e (Some k) f h =
        let m = parameter_slots-found text k f in
        (text, m.0, e, m.1, static text m.0 k (is_set flags 3) refl m.2 (some_is _ n h))

    by : (o : Option (List ℕ)) → utf_at p descriptor ≡ o → option_map (λ k. cond (is_set flags 3) k (k + 1)) (option_and_then parameter_slots o) ≡ Some n → TakesSlots p flags descriptor n
    by None e h = absurd cc
    by (Some text) e h = inside text e (parameter_slots text) refl h

slots_read : (p : Pool) (flags descriptor n : ℕ) → TakesSlots p flags descriptor n → slots_at p flags descriptor ≡ Some n
slots_read p flags descriptor n h =
    let given = parameter_slots-is h.0 h.1 h.3 in
    let whole : option_and_then parameter_slots (utf_at p descriptor) ≡ Some (slots h.1.arguments) = ap (option_and_then parameter_slots) h.2 ∙ given in
    ap (option_map (λ k. cond (is_set flags 3) k (k + 1))) whole ∙ by (is_set flags 3) (is_set-Decides flags 3) h.4
  where
    by : (b : Bool) → Decides b (IsStatic flags) → (IsStatic flags × (n ≡ slots h.1.arguments)) ⊎ ((IsStatic flags → ⊥) × (n ≡ slots h.1.arguments + 1)) → Some (cond b (slots h.1.arguments) (slots h.1.arguments + 1)) ≡ Some n
    by true d k = elim k [ inl j ↦ ap (λ (i : ℕ). Some i) (sym j.1) | inr j ↦ absurd (j.0 (d.0 refl)) ]
    by false d k = elim k [ inl j ↦ absurd (let e = d.1 j.0 in cc) | inr j ↦ ap (λ (i : ℕ). Some i) (sym j.1) ]

slots_is-Decides : (test : ℕ → Bool) (P : ℕ → Type 0) → ((n : ℕ) → Decides (test n) (P n)) → (p : Pool) (flags descriptor : ℕ) → Decides (option_map_or test (slots_at p flags descriptor) false) ((n : ℕ) × TakesSlots p flags descriptor n × P n)
slots_is-Decides test P d p flags descriptor = by (slots_at p flags descriptor) refl
  where
    by : (o : Option ℕ) → slots_at p flags descriptor ≡ o → Decides (option_map_or test o false) ((n : ℕ) × TakesSlots p flags descriptor n × P n)
    by None e = (λ h. absurd cc, λ h. absurd (let f = sym e ∙ slots_read p flags descriptor h.0 h.1 in cc))
    by (Some k) e = (λ h. (k, slots_taken p flags descriptor k e, (d k).0 h), λ h. let same : k ≡ h.0 = some_is k h.0 (sym e ∙ slots_read p flags descriptor h.0 h.1) in (d k).1 (subst P (sym same) h.2))

pub has_slots-Decides : (p : Pool) (flags descriptor : ℕ) → Decides (has_slots p flags descriptor) (HasSlots p flags descriptor)
has_slots-Decides p flags descriptor = slots_is-Decides (λ n. leb n 255) (λ n. n ≤ 255) (λ n. Decides-leb n 255) p flags descriptor

-- ---- code

code_content : (n : ℕ) (c : Content) → Decides (is_code (record { name = n; content = c })) (IsCode (record { name = n; content = c }))
code_content n (contents.Code body) = (λ _. tt, λ _. refl)
code_content n (contents.Other content) = (λ e. absurd cc, λ h. absurd h)

pub is_code-Decides : (a : Attribute) → Decides (is_code a) (IsCode a)
is_code-Decides a = code_content a.name a.content

locals_content : (k n : ℕ) (c : Content) → Decides (has_locals k (record { name = n; content = c })) (HasLocals k (record { name = n; content = c }))
locals_content k n (contents.Code body) = Decides-leb k body.max_locals
locals_content k n (contents.Other content) = (λ _. tt, λ _. refl)

pub has_locals-Decides : (n : ℕ) (a : Attribute) → Decides (has_locals n a) (HasLocals n a)
has_locals-Decides n a = locals_content n a.name a.content

pub is_initializer-Decides : (p : Pool) (name : ℕ) → Decides (is_initializer p name) (IsInitializer p name)
is_initializer-Decides p name = is_named-Decides p name (codes "<clinit>")

pub is_of_kind-Decides : (p : Pool) (class_flags flags name : ℕ) → Decides (is_of_kind p class_flags flags name) (IsOfKind p class_flags flags name)
is_of_kind-Decides p class_flags flags name = Decides-where _ _ (is_set-Decides class_flags 9) (Decides-or _ _ (is_set-Decides flags 10) (is_initializer-Decides p name))

needs_code-Decides : (p : Pool) (flags name : ℕ) → Decides (needs_code p flags name) (NeedsCode p flags name)
needs_code-Decides p flags name = Decides-or _ _ (Decides-and _ _ (Decides-not _ (is_set-Decides flags 10)) (Decides-not _ (is_set-Decides flags 8))) (is_initializer-Decides p name)

any_first : {X : Type 0} {P : X → Type 0} (x : X) (xs : List X) (k : ℕ) (y : X) → k < length (x ∷ xs) → get_or (x ∷ xs) k y ≡ y → P y → P x ⊎ Any P xs
any_first {X} {P} x xs zero y lt e h = inl (subst P (sym e) h)
any_first x xs (suc k) y lt e h = inr (k, y, omega (arith, lt), e, h)

any-Decides : {X : Type 0} (p : X → Bool) (P : X → Type 0) → ((x : X) → Decides (p x) (P x)) → (xs : List X) → Decides (list_any p xs) (Any P xs)
any-Decides p P each [] = (λ e. absurd cc, λ h. absurd (omega (arith, h.2)))
any-Decides p P each (x ∷ xs) = Decides-like _
    (λ h. elim h [ inl k ↦ (0, x, omega arith, refl, k) | inr k ↦ (suc k.0, k.1, omega (arith, k.2), k.3, k.4) ])
    (λ h. any_first {P = P} x xs h.0 h.1 h.2 h.3 h.4)
    (Decides-or _ _ (each x) (any-Decides p P each xs))

pub any_code-Decides : (attributes : List Attribute) → Decides (list_any is_code attributes) (Any IsCode attributes)
any_code-Decides attributes = any-Decides is_code IsCode is_code-Decides attributes

both_ways : (x y : Bool) (P Q : Type 0) → Decides x P → Decides y Q → Decides (cond x y (not y)) (P ↔ Q)
both_ways true y P Q d e = (λ h. (λ _. e.0 h, λ _. d.0 refl), λ f. e.1 (f.0 (d.0 refl)))
both_ways false y P Q d e = (λ h. (λ p. absurd (let c = d.1 p in cc), λ q. absurd (not_from_Decides y e (by y h) q)), λ f. by' y (λ t. let c = d.1 (f.1 (e.0 t)) in cc))
  where
    by : (b : Bool) → not b ≡ true → b ≡ false
    by true h = absurd cc
    by false h = refl

    by' : (b : Bool) → (b ≡ true → false ≡ true) → not b ≡ true
    by' true h = absurd (let c = h refl in cc)
    by' false h = refl

pub has_code_where_needed-Decides : (p : Pool) (flags name : ℕ) (attributes : List Attribute) → Decides (has_code_where_needed p flags name attributes) (HasCodeWhereNeeded p flags name attributes)
has_code_where_needed-Decides p flags name attributes = both_ways _ _ _ _ (any_code-Decides attributes) (needs_code-Decides p flags name)

pub has_locals_for_all-Decides : (p : Pool) (flags descriptor : ℕ) (attributes : List Attribute) → Decides (has_locals_for_all p flags descriptor attributes) (HasLocalsForAll p flags descriptor attributes)
has_locals_for_all-Decides p flags descriptor attributes =
    slots_is-Decides (λ n. list_all (has_locals n) attributes) (λ n. All (HasLocals n) attributes) (λ n. Decides-by_and (has_locals n) (HasLocals n) (list_all (has_locals n)) (has_locals-Decides n) refl (λ _ _. refl) attributes) p flags descriptor

pub is_code_length-Decides : (len : ℕ) → Decides (is_code_length len) (IsCodeLength len)
is_code_length-Decides len = Decides-and _ _ (Decides-ltb 0 len) (Decides-leb len 65535)

pub is_handler-Decides : (p : Pool) (len : ℕ) (h : Handler) → Decides (is_handler p len h) (IsHandler p len h)
is_handler-Decides p len h = Decides-like _ (λ k. (k.0, k.1.0, k.1.1.0, k.1.1.1)) (λ k. (k.0, (k.1, (k.2, k.3))))
    (Decides-and _ _ (Decides-ltb h.start h.end) (Decides-and _ _ (Decides-leb h.end len) (Decides-and _ _ (Decides-ltb h.handler len) (Decides-or _ _ (Decides-eqb h.catch_type 0) (class (constant_at p h.catch_type))))))

pub is_version-Decides : (major : ℕ) → Decides (is_version major) (IsVersion major)
is_version-Decides major = Decides-and _ _ (Decides-leb 45 major) (Decides-leb major 51)

pub is_utf-Decides : (p : Pool) (i : ℕ) → Decides (is_utf (constant_at p i)) (IsUtf p i)
is_utf-Decides p i = utf (constant_at p i)

-- Members are told apart by the numbers of their texts.
use Rattle.std.proofs.Common.{◌≡◌, ℕ, Bool, true, false, eqb, List, [], ◌∷◌, ◌++◌, Option, Some, None, refl, sym, ap, ◌∙◌, arith}
use Rattle.std.specs.Prelude.{not, ◌||◌, ◌&&◌, IsSome}
use Rattle.std.specs.List.{list_any, AllByRecursion}
use Rattle.std.specs.Str.{bytes_eq}
use Rattle.std.specs.Ordering.{is_eq, nat_cmp, ordering_then}
use Rattle.std.proofs.lemmas.Bool.Decides.{Decides-eqb, Decides-like, same_from_decides, nat_tests}
use Rattle.std.proofs.lemmas.Slice.Eq.{bytes_eq-Decides}
use Rattle.std.proofs.lemmas.List.Elements.{recursion_from_All, All-push}
use Rattle.class_form.specs.Pools.{utf_at}
use Rattle.std.specs.Prelude.{codes}
use Rattle.std.specs.Option.{option_map_or}
use Rattle.class_form.specs.NameTests.{is_unqualified_name, is_method_name, is_field_type, is_method_type}
use Rattle.class_form.specs.PoolReading.{text_is}
use Rattle.class_form.specs.ClassReading.{same_text, has_texts_of, is_new, are_field_texts, are_method_texts, is_initializer, is_named}
use Rattle.class_form.specs.declared.pool.Pool.{Pool}
use Rattle.class_form.specs.declared.class_file.Member.{Member}
use Rattle.class_reader.specs.Numbers.{number_at, AreNumbersOf, pair_cmp, numbers_of, names_of, AreTexts}

both_equal : (x y z w : ℕ) → is_eq (ordering_then (nat_cmp x y) (nat_cmp z w)) ≡ (eqb x y && eqb z w)
both_equal x y z w = grind (arith, nat_tests)

is_text : (o : Option (List ℕ)) → IsSome o → (t : List ℕ) × (o ≡ Some t)
is_text None h = absurd (let e : false ≡ true = h in cc)
is_text (Some t) h = (t, refl)

module _ (p : Pool) (numbers : List ℕ) (all : AreNumbersOf p numbers) where
  same_number : (i j : ℕ) → IsSome (utf_at p i) → IsSome (utf_at p j) → eqb (number_at numbers i) (number_at numbers j) ≡ same_text (utf_at p i) (utf_at p j)
  same_number i j a b =
      let s = is_text (utf_at p i) a in
      let t = is_text (utf_at p j) b in
      let h = all i j s.0 t.0 s.1 t.1 in
      same_from_decides _ (bytes_eq s.0 t.0) (Decides-like _ h.0 h.1 (Decides-eqb (number_at numbers i) (number_at numbers j))) (bytes_eq-Decides s.0 t.0)
      ∙ ap (λ (o : Option (List ℕ)). same_text o (Some t.0)) (sym s.1) ∙ ap (same_text (utf_at p i)) (sym t.1)

  module _ (name descriptor : ℕ) (n : IsSome (utf_at p name)) (d : IsSome (utf_at p descriptor)) where
    same_member : (m : Member) → IsSome (utf_at p m.name) → IsSome (utf_at p m.descriptor) → is_eq (pair_cmp (numbers_of numbers (m.name, m.descriptor)) (numbers_of numbers (name, descriptor))) ≡ has_texts_of p name descriptor m
    same_member m a b =
        both_equal (number_at numbers m.name) (number_at numbers name) (number_at numbers m.descriptor) (number_at numbers descriptor)
        ∙ ap (λ x. x && eqb (number_at numbers m.descriptor) (number_at numbers descriptor)) (same_number m.name name a n)
        ∙ ap (λ x. same_text (utf_at p m.name) (utf_at p name) && x) (same_number m.descriptor descriptor b d)

    not_or : (x y a b : Bool) → x ≡ a → not y ≡ b → not (x || y) ≡ (not a && b)
    not_or true y a b e f = ap (λ z. not z && b) e
    not_or false y a b e f = f ∙ ap (λ z. not z && b) e

    none_same : (before : List Member) → AllByRecursion (λ (q : ℕ × ℕ). IsSome (utf_at p q.0) × IsSome (utf_at p q.1)) (names_of before)
        → not (list_any (λ q. is_eq (pair_cmp (numbers_of numbers q) (numbers_of numbers (name, descriptor)))) (names_of before)) ≡ is_new p before name descriptor
    none_same [] h = refl
    none_same (m ∷ before) h = not_or _ _ (has_texts_of p name descriptor m) (is_new p before name descriptor) (same_member m h.0.0 h.0.1) (none_same before h.1)

    pub new_by_numbers : (before : List Member) → AreTexts p (names_of before) → not (list_any (λ q. is_eq (pair_cmp (numbers_of numbers q) (numbers_of numbers (name, descriptor)))) (names_of before)) ≡ is_new p before name descriptor
    new_by_numbers before h = none_same before (recursion_from_All _ (names_of before) h)

-- where a text passes a test, one stands there
pub text_there : (test : List ℕ → Bool) (p : Pool) (i : ℕ) → text_is test p i ≡ true → IsSome (utf_at p i)
text_there test p i = by (utf_at p i)
  where
    by : (o : Option (List ℕ)) → option_map_or test o false ≡ true → IsSome o
    by None e = absurd cc
    by (Some t) e = refl

both_true : (x y : Bool) → (x && y) ≡ true → (x ≡ true) × (y ≡ true)
both_true true y e = (refl, e)
both_true false y e = absurd cc

pub field_there : (p : Pool) (name descriptor : ℕ) → are_field_texts p name descriptor ≡ true → IsSome (utf_at p name) × IsSome (utf_at p descriptor)
field_there p name descriptor e = let h = both_true (text_is is_unqualified_name p name) (text_is is_field_type p descriptor) e in (text_there is_unqualified_name p name h.0, text_there is_field_type p descriptor h.1)

pub method_there : (p : Pool) (name descriptor : ℕ) → are_method_texts p name descriptor ≡ true → IsSome (utf_at p name) × IsSome (utf_at p descriptor)
method_there p name descriptor e =
    let h = both_true (text_is is_method_name p name && text_is is_method_type p descriptor) (not (is_initializer p name) || is_named p descriptor (codes "()V")) e in
    let k = both_true (text_is is_method_name p name) (text_is is_method_type p descriptor) h.0 in
    (text_there is_method_name p name k.0, text_there is_method_type p descriptor k.1)

pub names_push : (ms : List Member) (m : Member) → names_of (ms ++ m ∷ []) ≡ names_of ms ++ (m.name, m.descriptor) ∷ []
names_push [] m = refl
names_push (x ∷ ms) m = ap (λ (qs : List (ℕ × ℕ)). (x.name, x.descriptor) ∷ qs) (names_push ms m)

pub texts_push : (p : Pool) (ms : List Member) (name descriptor : ℕ) → AreTexts p (names_of ms) → IsSome (utf_at p name) × IsSome (utf_at p descriptor) → AreTexts p (names_of ms ++ (name, descriptor) ∷ [])
texts_push p ms name descriptor all one = All-push (λ (q : ℕ × ℕ). IsSome (utf_at p q.0) × IsSome (utf_at p q.1)) (names_of ms) (name, descriptor) all one

-- Further constants leave what the first ones say.
use Rattle.std.proofs.Common.{◌≡◌, ℕ, zero, suc, List, [], ◌∷◌, ◌++◌, Option, Some, None, Result, Ok, Err, OnOk, refl, sym, subst}
use Rattle.std.specs.Prelude.{slice_get, option_and_then}
use Rattle.class_form.specs.Pools.{constant_at, text_of, utf_at, class_of, class_at}
use Rattle.class_form.specs.declared.pool.Constant.{Constant}
use Rattle.class_form.specs.declared.pool.Constant.TheVariants.{Class}
use Rattle.hierarchy_tests.specs.TestClasses.{HasTestTexts}
use Rattle.large_folders.specs.Pools.{pool_of}

kept : (xs ys : List Constant) (k : ℕ) (c : Constant) → slice_get xs k ≡ Some c → slice_get (xs ++ ys) k ≡ Some c
kept [] ys k c e = absurd cc
kept (x ∷ xs) ys zero c e = e
kept (x ∷ xs) ys (suc k) c e = kept xs ys k c e

module _ (xs ys : List Constant) where
  constant_kept : (i : ℕ) (c : Constant) → constant_at (pool_of xs) i ≡ Some c → constant_at (pool_of (xs ++ ys)) i ≡ Some c
  constant_kept zero c e = absurd cc
  constant_kept (suc i) c e = kept xs ys i c e

  text_kept : (i : ℕ) (n : List ℕ) → utf_at (pool_of xs) i ≡ Some n → utf_at (pool_of (xs ++ ys)) i ≡ Some n
  text_kept i n h = by_case (constant_at (pool_of xs) i) refl h
    where
      by_case : (o : Option Constant) → constant_at (pool_of xs) i ≡ o → option_and_then text_of o ≡ Some n → utf_at (pool_of (xs ++ ys)) i ≡ Some n
      by_case None e h = absurd cc
      by_case (Some c) e h = rw (constant_kept i c e) h

  class_of_kept : (c : Constant) (n : List ℕ) → class_of (pool_of xs) c ≡ Some n → class_of (pool_of (xs ++ ys)) c ≡ Some n
  class_of_kept (Class i) n h = text_kept i n h
  class_of_kept c n h = h

  class_kept : (i : ℕ) (n : List ℕ) → class_at (pool_of xs) i ≡ Some n → class_at (pool_of (xs ++ ys)) i ≡ Some n
  class_kept i n h = by_case (constant_at (pool_of xs) i) refl h
    where
      by_case : (o : Option Constant) → constant_at (pool_of xs) i ≡ o → option_and_then (class_of (pool_of xs)) o ≡ Some n → class_at (pool_of (xs ++ ys)) i ≡ Some n
      by_case None e h = absurd cc
      by_case (Some c) e h = rw (constant_kept i c e) (class_of_kept c n h)

  pub texts_kept : HasTestTexts (pool_of xs) → HasTestTexts (pool_of (xs ++ ys))
  texts_kept t = record {
    class = (t.class.0, class_kept 2 t.class.0 t.class.1);
    field_name = (t.field_name.0, text_kept 9 t.field_name.0 t.field_name.1);
    field_type = (t.field_type.0, text_kept 10 t.field_type.0 t.field_type.1);
    method_name = (t.method_name.0, text_kept 11 t.method_name.0 t.method_name.1);
    method_type = (t.method_type.0, text_kept 12 t.method_type.0 t.method_type.1);
  }

pub both_kept : (a b c : List Constant) (x y : Constant) → b ≡ a ++ x ∷ [] → c ≡ b ++ y ∷ [] → HasTestTexts (pool_of a) → HasTestTexts (pool_of c)
both_kept a b c x y e f h =
    let first : HasTestTexts (pool_of b) = subst (λ (zs : List Constant). HasTestTexts (pool_of zs)) (sym e) (texts_kept a (x ∷ []) h) in
    subst (λ (zs : List Constant). HasTestTexts (pool_of zs)) (sym f) (texts_kept b (y ∷ []) first)

pub on_any : {A E : Type 0} {P : Type 0} (r : Result A E) → P → OnOk r P
on_any (Ok x) p = p
on_any (Err e) p = tt

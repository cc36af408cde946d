-- Variables whose numbers follow one another.
use Rattle.std.proofs.Common.{◌≡◌, ◌+◌, ℕ, zero, suc, List, [], ◌∷◌, ◌++◌, length, Some, sym, ap, subst, ◌∙◌, arith}
use Rattle.std.specs.Prelude.{slice_get}
use Rattle.std.proofs.lemmas.List.{map_push}
use Rattle.std.proofs.lemmas.Option.{none-some, same_Some}
use Rattle.dep_form.specs.declared.rules.Var.{Var}
use Rattle.variable_tables.specs.Numbers.{IsCounted, keys_of, numbers_of}

-- one more
pub counted_push : (n m : ℕ) (xs : List Var) (x : Var) → IsCounted n xs m → x.0 ≡ m → IsCounted n (xs ++ x ∷ []) (m + 1)
counted_push n m [] x c e = (e ∙ sym c, omega (arith, c))
counted_push n m (y ∷ ys) x (f, c) e = (f, counted_push (suc n) m ys x c e)

pub counted_length : (n m : ℕ) (xs : List Var) → IsCounted n xs m → m ≡ n + length xs
counted_length n m [] c = omega (arith, c)
counted_length n m (x ∷ xs) (e, c) = let rest = counted_length (suc n) m xs c in omega (arith, rest)

pub counted_at : (n m : ℕ) (xs : List Var) (i : ℕ) (x : Var) → IsCounted n xs m → slice_get xs i ≡ Some x → x.0 ≡ n + i
counted_at n m [] i x c at = absurd (none-some x at)
counted_at n m (y ∷ ys) zero x (e, c) at = let f : y.0 ≡ x.0 = ap (λ (z : Var). z.0) (same_Some y x at) in omega (arith, e, f)
counted_at n m (y ∷ ys) (suc i) x (e, c) at = let rest = counted_at (suc n) m ys i x c at in omega (arith, rest)

-- one more in a table
module _ {K : Type 0} where
  pub keys_push : (table new : List (K × Var)) (keys : List K) (k : K) (x : Var) → new ≡ table ++ (k, x) ∷ [] → keys_of table ≡ keys → keys_of new ≡ keys ++ k ∷ []
  keys_push table new keys k x e f =
      ap (λ (t : List (K × Var)). keys_of t) e ∙ map_push (λ (e : K × Var). e.0) table (k, x) ∙ ap (λ (ks : List K). ks ++ k ∷ []) f

  pub numbers_push : (n m : ℕ) (table new : List (K × Var)) (k : K) (x : Var) → new ≡ table ++ (k, x) ∷ [] → IsCounted n (numbers_of table) m → x.0 ≡ m
      → IsCounted n (numbers_of new) (m + 1)
  numbers_push n m table new k x e c is =
      subst (λ (xs : List Var). IsCounted n xs (m + 1)) (sym (ap (λ (t : List (K × Var)). numbers_of t) e ∙ map_push (λ (e : K × Var). e.1) table (k, x)))
      (counted_push n m (numbers_of table) x c is)

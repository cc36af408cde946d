-- Lists of what the numbers from one on stand for.
use Rattle.std.proofs.Common.{◌≡◌, ◌<◌, ◌+◌, ◌⊎◌, ℕ, zero, suc, List, [], ◌∷◌, ◌++◌, length, map, Option, Some, None, Contains, inl, inr, refl, sym, ap, subst, ◌∙◌, arith}
use Rattle.std.specs.Prelude.{◌↔◌, slice_get, option_map}
use Rattle.std.proofs.lemmas.List.{length-append, length-map}
use Rattle.std.proofs.lemmas.Option.{none-some, same_Some, slice_get-map}
use Rattle.class_form.proofs.Indices.{index_in, there_at}
use Rattle.dep_form.specs.declared.rules.Var.{Var}
use Rattle.constraint_form.specs.Variables.{Meaning}
use Rattle.variable_tables.specs.Numbers.{IsCounted, numbers_of}
use Rattle.variable_tables.proofs.Counting.{counted_length, counted_at}

-- the numbers from n on, up to m, stand for what E says, each for one thing
pub record Listed (n m : ℕ) (E : Meaning → Var → Type 0) : Type 0 where
  pub names : List Meaning
  pub count : m ≡ n + length names
  pub exact : (a : Meaning) (x : Var) → E a x ↔ ((i : ℕ) × (x.0 ≡ n + i) × (slice_get names i ≡ Some a))

pub same_var : (x y : Var) → x.0 ≡ y.0 → x ≡ y
same_var x y e = ap (λ k. record { 0 = k }) e

module _ {A : Type 0} where
  at_left : (xs ys : List A) (i : ℕ) (a : A) → slice_get xs i ≡ Some a → slice_get (xs ++ ys) i ≡ Some a
  at_left [] ys i a e = absurd (none-some a e)
  at_left (x ∷ xs) ys zero a e = e
  at_left (x ∷ xs) ys (suc i) a e = at_left xs ys i a e

  at_right : (xs ys : List A) (i j : ℕ) (a : A) → j ≡ length xs + i → slice_get ys i ≡ Some a → slice_get (xs ++ ys) j ≡ Some a
  at_right [] ys i j a e at = let same : i ≡ j = omega (arith, e) in subst (λ k. slice_get ys k ≡ Some a) same at
  at_right (x ∷ xs) ys i zero a e at = absurd (omega (arith, e))
  at_right (x ∷ xs) ys i (suc j) a e at = at_right xs ys i j a (omega (arith, e)) at

  pub at_either : (xs ys : List A) (j : ℕ) (a : A) → slice_get (xs ++ ys) j ≡ Some a → (slice_get xs j ≡ Some a) ⊎ ((i : ℕ) × (j ≡ length xs + i) × (slice_get ys i ≡ Some a))
  at_either [] ys j a e = inr (j, omega arith, e)
  at_either (x ∷ xs) ys zero a e = inl e
  at_either (x ∷ xs) ys (suc j) a e = elim (at_either xs ys j a e) [ inl l ↦ inl l | inr r ↦ inr (r.0, omega (arith, r.1), r.2) ]

map_some : {A C : Type 0} (f : A → C) (o : Option A) (b : C) → option_map f o ≡ Some b → (a : A) × (o ≡ Some a) × (f a ≡ b)
map_some f None b e = absurd (none-some b e)
map_some f (Some a) b e = (a, refl, same_Some (f a) b e)

pub map_at : {A C : Type 0} (f : A → C) (xs : List A) (i : ℕ) (b : C) → slice_get (map f xs) i ≡ Some b → (a : A) × (slice_get xs i ≡ Some a) × (f a ≡ b)
map_at f xs i b e = map_some f (slice_get xs i) b (sym (slice_get-map f xs i) ∙ e)

pub mapped : {A C : Type 0} (f : A → C) (xs : List A) (i : ℕ) (a : A) → slice_get xs i ≡ Some a → slice_get (map f xs) i ≡ Some (f a)
mapped f xs i a e = slice_get-map f xs i ∙ ap (λ o. option_map f o) e

-- one range after another
pub listed_join : (n k m : ℕ) (E F : Meaning → Var → Type 0) → Listed n k E → Listed k m F → Listed n m (λ a x. E a x ⊎ F a x)
listed_join n k m E F l r = record {
  names = l.names ++ r.names;
  count = omega (arith, l.count, r.count, length-append l.names r.names);
  exact = λ a x. (
    λ h. elim h [
      | inl e ↦ let at = (l.exact a x).0 e in (at.0, at.1, at_left l.names r.names at.0 a at.2)
      | inr f ↦
          let at = (r.exact a x).0 f in
          (length l.names + at.0, omega (arith, at.1, l.count), at_right l.names r.names at.0 (length l.names + at.0) a refl at.2)
    ],
    λ h. elim (at_either l.names r.names h.0 a h.2) [
      | inl at ↦ inl ((l.exact a x).1 (h.0, h.1, at))
      | inr at ↦ inr ((r.exact a x).1 (at.0, omega (arith, h.1, at.1, l.count), at.2))
    ],
  );
}

-- .. said otherwise
pub listed_same : (n m : ℕ) (E F : Meaning → Var → Type 0) → ((a : Meaning) (x : Var) → E a x → F a x) → ((a : Meaning) (x : Var) → F a x → E a x) → Listed n m E → Listed n m F
listed_same n m E F to from l = record {
  names = l.names;
  count = l.count;
  exact = λ a x. (λ f. (l.exact a x).0 (from a x f), λ h. to a x ((l.exact a x).1 h));
}

-- a list of meanings
abbrev pub IsInList : ℕ → List Meaning → Meaning → Var → Type 0
IsInList n names a x = (i : ℕ) × (x.0 ≡ n + i) × (slice_get names i ≡ Some a)

pub listed_list : (n m : ℕ) (names : List Meaning) → m ≡ n + length names → Listed n m (IsInList n names)
listed_list n m names e = record { names = names; count = e; exact = λ a x. (λ h. h, λ h. h) }

-- nothing
pub listed_none : (n m : ℕ) (E : Meaning → Var → Type 0) → n ≡ m → ((a : Meaning) (x : Var) → E a x → ⊥) → Listed n m E
listed_none n m E e never = record {
  names = [];
  count = omega (arith, e);
  exact = λ a x. (λ h. absurd (never a x h), λ h. absurd (none-some a h.2));
}

-- the variables of a table
pub listed_table : {K : Type 0} (f : K → Meaning) (table : List (K × Var)) (n m : ℕ) → IsCounted n (numbers_of table) m
    → Listed n m (λ a x. (k : K) × (a ≡ f k) × Contains table (k, x))
listed_table {K} f table n m counted = record {
  names = map (λ (e : K × Var). f e.0) table;
  count = omega (arith, counted_length n m (numbers_of table) counted, length-map table (λ (e : K × Var). e.1), length-map table (λ (e : K × Var). f e.0));
  exact = λ a x. (
    λ h.
        let (k, e, c) = h in
        let at = index_in table (k, x) c in
        let number = counted_at n m (numbers_of table) at.0 x counted (mapped (λ (e : K × Var). e.1) table at.0 (k, x) at.1) in
        (at.0, number, mapped (λ (e : K × Var). f e.0) table at.0 (k, x) at.1 ∙ ap (λ z. Some z) (sym e)),
    λ h.
        let (i, number, at) = h in
        let (e, there, is) = map_at (λ (e : K × Var). f e.0) table i a at in
        let same = same_var e.1 x (counted_at n m (numbers_of table) i e.1 counted (mapped (λ (e : K × Var). e.1) table i e there) ∙ sym number) in
        (e.0, sym is, subst (λ y. Contains table (e.0, y)) same (there_at table i e there)),
  );
}

-- numbers that stand for what a function says
abbrev named_by : (ℕ → Meaning) → ℕ → List Meaning
named_by g zero = []
named_by g (suc k) = g 0 ∷ named_by (λ i. g (suc i)) k

length_by : (g : ℕ → Meaning) (k : ℕ) → length (named_by g k) ≡ k
length_by g zero = refl
length_by g (suc k) = ap (λ n. suc n) (length_by (λ i. g (suc i)) k)

by_to : (g : ℕ → Meaning) (k i : ℕ) (a : Meaning) → slice_get (named_by g k) i ≡ Some a → (i < k) × (a ≡ g i)
by_to g zero i a e = absurd (none-some a e)
by_to g (suc k) zero a e = (omega arith, sym (same_Some (g 0) a e))
by_to g (suc k) (suc i) a e = let rest = by_to (λ i. g (suc i)) k i a e in (omega (arith, rest.0), rest.1)

by_from : (g : ℕ → Meaning) (k i : ℕ) (a : Meaning) → i < k → a ≡ g i → slice_get (named_by g k) i ≡ Some a
by_from g zero i a lt e = absurd (omega (arith, lt))
by_from g (suc k) zero a lt e = ap (λ z. Some z) (sym e)
by_from g (suc k) (suc i) a lt e = by_from (λ i. g (suc i)) k i a (omega (arith, lt)) e

pub listed_by : (g : ℕ → Meaning) (n k m : ℕ) → m ≡ n + k → Listed n m (λ a x. (i : ℕ) × (i < k) × (x.0 ≡ n + i) × (a ≡ g i))
listed_by g n k m e = record {
  names = named_by g k;
  count = omega (arith, e, length_by g k);
  exact = λ a x. (
    λ h. let (i, lt, number, is) = h in (i, number, by_from g k i a lt is),
    λ h. let (i, number, at) = h in let found = by_to g k i a at in (i, found.0, number, found.1),
  );
}

-- one variable
one_at : (c : Meaning) (i : ℕ) (a : Meaning) → slice_get (c ∷ []) i ≡ Some a → (i ≡ 0) × (a ≡ c)
one_at c zero a e = (refl, sym (same_Some c a e))
one_at c (suc i) a e = absurd (none-some a e)

pub listed_one : (n m : ℕ) (c : Meaning) → m ≡ n + 1 → Listed n m (λ a x. (a ≡ c) × (x.0 ≡ n))
listed_one n m c e = record {
  names = c ∷ [];
  count = e;
  exact = λ a x. (
    λ h. (0, omega (arith, h.1), ap (λ z. Some z) (sym h.0)),
    λ h. let is = one_at c h.0 a h.2 in (is.1, omega (arith, h.1, is.0)),
  );
}

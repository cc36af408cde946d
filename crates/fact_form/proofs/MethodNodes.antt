-- The nodes of one method, and those of some methods in a row.
use Rattle.std.proofs.Common.{◌≡◌, ◌<◌, ◌≤◌, ◌+◌, ◌++◌, ℕ, suc, List, [], Contains, Some, inl, inr, ap, arith}
use Rattle.std.specs.Prelude.{slice_get}
use Rattle.std.proofs.lemmas.Bool.{cases_eq}
use Rattle.std.proofs.lemmas.Option.{slice_get_within}
use Rattle.std.proofs.lemmas.List.Elements.{Contains-append_left, Contains-append_right, Contains-append_cases}
use Rattle.slicer_ids.specs.declared.ids.MethodId.{MethodId}
use Rattle.class_form.proofs.Indices.{there_at}
use Rattle.program_form.specs.Nodes.{Node}
use Rattle.fact_form.proofs.ItemLists.{joined}

-- the list has the nodes of the method of which P holds, each once
pub record AreOfMethod (P : Node → Type 0) (m : MethodId) (xs : List Node) : Type 0 where
  pub each : (a : Node) → Contains xs a → P a × (a.method ≡ m)
  pub once : (i j : ℕ) (a : Node) → slice_get xs i ≡ Some a → slice_get xs j ≡ Some a → i ≡ j
  pub whole : (a : Node) → P a → a.method ≡ m → Contains xs a

-- .. of so many methods from the first on
pub record AreOfMethods (P : Node → Type 0) (first count : ℕ) (xs : List Node) : Type 0 where
  pub each : (a : Node) → Contains xs a → P a × (first ≤ a.method.0)
  pub once : (i j : ℕ) (a : Node) → slice_get xs i ≡ Some a → slice_get xs j ≡ Some a → i ≡ j
  pub whole : (a : Node) → P a → first ≤ a.method.0 → a.method.0 < first + count → Contains xs a

pub no_methods : (P : Node → Type 0) (first : ℕ) → AreOfMethods P first 0 []
no_methods P first = record {
  each = λ a c. absurd (omega (arith, c.1));
  once = λ i j a e f. absurd (omega (arith, slice_get_within [] i a e));
  whole = λ a is low high. absurd (omega (arith, low, high));
}

module _ (P : Node → Type 0) (first count : ℕ) (xs ys : List Node) (one : AreOfMethod P (record { 0 = first }) xs) (rest : AreOfMethods P (suc first) count ys) where
  both_each : (a : Node) → Contains (xs ++ ys) a → P a × (first ≤ a.method.0)
  both_each a c = elim (Contains-append_cases xs ys a c) [
    | inl here ↦ let h = one.each a here in (h.0, omega (arith, ap (λ (z : MethodId). z.0) h.1))
    | inr there ↦ let h = rest.each a there in (h.0, omega (arith, h.1))
  ]

  never : (i j : ℕ) (a : Node) → slice_get xs i ≡ Some a → slice_get ys j ≡ Some a → ⊥
  never i j a e f =
      let h = one.each a (there_at xs i a e) in
      let l = rest.each a (there_at ys j a f) in
      omega (arith, ap (λ (z : MethodId). z.0) h.1, l.1)

  both_once : (i j : ℕ) (a : Node) → slice_get (xs ++ ys) i ≡ Some a → slice_get (xs ++ ys) j ≡ Some a → i ≡ j
  both_once i j a e f = elim (joined xs ys i a e) [
    | inl x ↦ elim (joined xs ys j a f) [ inl y ↦ one.once i j a x y | inr y ↦ absurd (never i y.0 a x y.2) ]
    | inr x ↦ elim (joined xs ys j a f) [ inl y ↦ absurd (never j x.0 a y x.2) | inr y ↦ omega (arith, x.1, y.1, rest.once x.0 y.0 a x.2 y.2) ]
  ]

  both_whole : (a : Node) → P a → first ≤ a.method.0 → a.method.0 < first + suc count → Contains (xs ++ ys) a
  both_whole a is low high = elim (cases_eq a.method.0 first) [
    | inl e ↦ Contains-append_left xs ys a (one.whole a is (ap (λ z. record { 0 = z }) e))
    | inr ne ↦ Contains-append_right xs ys a (rest.whole a is (omega (arith, low, ne)) (omega (arith, high)))
  ]

  -- one method before the others
  pub one_more : AreOfMethods P first (suc count) (xs ++ ys)
  one_more = record { each = both_each; once = both_once; whole = both_whole }

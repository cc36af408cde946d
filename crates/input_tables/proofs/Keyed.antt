-- Items in order of a key: an item has one place.
use Rattle.std.proofs.Common.{◌≡◌, ◌<◌, ℕ, List, Some, inl, inr, sym, ap, subst, ◌∙◌, arith}
use Rattle.std.specs.Prelude.{slice_get}
use Rattle.std.specs.Ordering.{nat_cmp}
use Rattle.std.specs.declared.cmp.Ordering.TheVariants.{Less, Equal}
use Rattle.std.proofs.lemmas.Bool.{cases_lt}
use Rattle.dep_form.specs.Orders.{RiseBy}
use Rattle.worklist.proofs.Orders.{nat_less}
use Rattle.fact_form.proofs.ItemLists.{pair_at}

module _ {X : Type 0} (key : X → ℕ) (xs : List X) (rise : RiseBy nat_cmp key xs) where
  never : (j k : ℕ) (x y : X) → slice_get xs j ≡ Some x → slice_get xs k ≡ Some y → key x ≡ key y → j < k → ⊥
  never j k x y at there e lt = omega (arith, e, nat_less (key x) (key y) (pair_at (λ a b. nat_cmp (key a) (key b) ≡ Less) xs rise j k x y lt at there))

  pub one_place : (j k : ℕ) (x y : X) → slice_get xs j ≡ Some x → slice_get xs k ≡ Some y → key x ≡ key y → j ≡ k
  one_place j k x y at there e = elim (cases_lt j k) [
    | inl lt ↦ absurd (never j k x y at there e lt)
    | inr ge ↦ elim (cases_lt k j) [ inl lt ↦ absurd (never k j y x there at (sym e) lt) | inr le ↦ omega (arith, ge, le) ]
  ]

-- Items of a list whose keys rise.
use Rattle.std.proofs.Common.{◌≡◌, ◌<◌, ℕ, List, AllPairs, Some, Contains, sym, subst, ◌∙◌, arith}
use Rattle.std.specs.Prelude.{slice_get}
use Rattle.std.proofs.lemmas.Option.{same_Some}
use Rattle.class_form.proofs.Indices.{index_in}
use Rattle.constraint_form.proofs.OnePlace.{same_or_before}

-- a key has one item
pub one_of_key : {A : Type 0} (key : A → ℕ) (xs : List A) → AllPairs (λ a b. key a < key b) xs → (x y : A) → Contains xs x → Contains xs y → key x ≡ key y → x ≡ y
one_of_key key xs order x y c d e =
    let (i, at) = index_in xs x c in
    let (j, there) = index_in xs y d in
    let same : i ≡ j = same_or_before (λ a b. key a < key b) xs order i j x y at there (λ lt. omega (arith, lt, e)) (λ lt. omega (arith, lt, e)) in
    same_Some x y (sym (subst (λ k. slice_get xs k ≡ Some x) same at) ∙ there)

-- Keys of tables.
use Rattle.std.proofs.Common.{◌≡◌, ℕ, List, AllPairs, Some, Contains, sym, ap, subst, ◌∙◌}
use Rattle.std.specs.Prelude.{slice_get}
use Rattle.std.proofs.lemmas.Option.{same_Some}
use Rattle.class_form.proofs.Indices.{index_in, there_at}
use Rattle.constraint_form.proofs.OnePlace.{one_place}
use Rattle.dep_form.specs.declared.rules.Var.{Var}
use Rattle.variable_tables.specs.Numbers.{keys_of}
use Rattle.variable_tables.proofs.Listing.{map_at, mapped}

module _ {K : Type 0} (table : List (K × Var)) where
  key_at : (k : K) (x : Var) (i : ℕ) → slice_get table i ≡ Some (k, x) → slice_get (keys_of table) i ≡ Some k
  key_at k x i at = mapped (λ (e : K × Var). e.0) table i (k, x) at

  pub contains_key : (k : K) (x : Var) → Contains table (k, x) → Contains (keys_of table) k
  contains_key k x c = let (i, at) = index_in table (k, x) c in there_at (keys_of table) i k (key_at k x i at)

  pub has_key : (k : K) → Contains (keys_of table) k → (x : Var) × Contains table (k, x)
  has_key k c =
      let (i, at) = index_in (keys_of table) k c in
      let (e, there, is) = map_at (λ (e : K × Var). e.0) table i k at in
      (e.1, subst (λ z. Contains table (z, e.1)) is (there_at table i e there))

  -- a key has one variable
  pub one_var : (B : K → K → Type 0) → ((k : K) → B k k → ⊥) → AllPairs B (keys_of table) → (k : K) (x y : Var) → Contains table (k, x) → Contains table (k, y) → x ≡ y
  one_var B never order k x y c d =
      let (i, at) = index_in table (k, x) c in
      let (j, there) = index_in table (k, y) d in
      let same : i ≡ j = one_place B (keys_of table) order never i j k (key_at k x i at) (key_at k y j there) in
      ap (λ (e : K × Var). e.1) (same_Some (k, x) (k, y) (sym at ∙ subst (λ n. slice_get table n ≡ Some (k, y)) (sym same) there))

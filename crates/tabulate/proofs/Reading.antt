-- What indexing reads.
use Rattle.std.proofs.Common.{◌≡◌, ◌≢◌, ℕ, ◌<◌, List, length, get_or, set, slice_get, Some, inl, inr, ap, refl, sym, ◌∙◌, get_or-set_same, get_or-set_other, arith}
use Rattle.std.proofs.lemmas.List.{length-set}
use Rattle.tabulate.specs.declared.found.Found.{Found}
use Rattle.std.specs.Option.{option_map_or}
use Rattle.std.proofs.lemmas.Option.{slice_get_read, slice_get_past, slice_get-get_or}
use Rattle.std.proofs.lemmas.Bool.{cases_lt}

pub read_is : {A B : Type 0} (f : A → B) (d : B) (xs : List A) (n : ℕ) (r : A) → n < length xs → r ≡ get_or xs n r → option_map_or f (slice_get xs n) d ≡ f r
read_is {A} f d xs n r lt is = ap (λ o. option_map_or f o d) (slice_get_read xs (length xs) n r refl lt is)

module _ {B : Type 0} (f : Found → B) (d : B) (ts : List Found) (m : ℕ) (t' : Found) where
  pub field_same : m < length ts → option_map_or f (slice_get (set ts m t') m) d ≡ f t'
  field_same lt = read_is f d (set ts m t') m t' (omega (arith, length-set ts m t')) (sym (get_or-set_same ts m t' t' lt))

  pub field_other : (j : ℕ) → j ≢ m → option_map_or f (slice_get (set ts m t') j) d ≡ option_map_or f (slice_get ts j) d
  field_other j ne = ap (λ o. option_map_or f o d) (elim (cases_lt j (length ts)) [
    | inl lt ↦ slice_get-get_or (set ts m t') j t' (omega (arith, lt, length-set ts m t')) ∙ ap (λ x. Some x) (get_or-set_other ts m j t' t' ne) ∙ sym (slice_get-get_or ts j t' lt)
    | inr le ↦ slice_get_past (set ts m t') j (omega (arith, le, length-set ts m t')) ∙ sym (slice_get_past ts j le)
  ])

  pub field_at : m < length ts → option_map_or f (slice_get ts m) d ≡ f (get_or ts m t')
  field_at lt = ap (λ o. option_map_or f o d) (slice_get-get_or ts m t' lt)

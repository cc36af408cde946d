-- Reading a list, item by item, as a loop does.
use Rattle.std.proofs.Common.{◌≡◌, ℕ, suc, ◌+◌, ◌-◌, ◌<◌, ◌≤◌, List, [], ◌∷◌, ◌++◌, Ok, Err, refl, sym, ◌∙◌, arith}
use Rattle.byte_form.specs.Places.{State}
use Rattle.byte_form.specs.Forms.{Fault, Truncated, Broken, Outcome}
use Rattle.byte_form.specs.Reading.{Fails, list_at}
use Rattle.byte_form.specs.declared.error.ItemError.{ItemError}
use Rattle.byte_form.specs.declared.error.ItemError.TheVariants as errors

module _ {A : Type 0} (one : List A → State → Outcome Fault A) (front : List A) (count i : ℕ) (s : State) (total : Outcome Fault (List A)) where
  -- an item more was read
  pub goes_on : (x : A) (after : State) → i < count → one front s ≡ Ok (x, after) → list_at one (count - i) front s ≡ total → list_at one (count - (i + 1)) (front ++ x ∷ []) after ≡ total
  unfolding list_at
  goes_on x after lt h so_far =
      let k : count - i ≡ suc (count - (i + 1)) = omega arith in
      let here : list_at one (count - i) front s ≡ list_at one (count - (i + 1)) (front ++ x ∷ []) after = rw (k, h) refl in
      sym here ∙ so_far

  fails : (f : Fault) → i < count → one front s ≡ Err f → list_at one (count - i) front s ≡ total → total ≡ Err f
  unfolding list_at
  fails f lt h so_far =
      let k : count - i ≡ suc (count - (i + 1)) = omega arith in
      let here : list_at one (count - i) front s ≡ Err f = rw (k, h) refl in
      sym so_far ∙ here

  -- an item was not read
  pub ends : (e : ItemError) → i < count → Fails e (one front s) → list_at one (count - i) front s ≡ total → Fails e total
  ends errors.NoMemory lt h so_far = tt
  ends errors.Truncated lt h so_far = fails Truncated lt h so_far
  ends (errors.Broken r at) lt h so_far = fails (Broken r at) lt h so_far

  -- all were read
  pub is_done : count ≤ i → list_at one (count - i) front s ≡ total → total ≡ Ok (front, s)
  unfolding list_at
  is_done le so_far =
      let k : count - i ≡ 0 = omega arith in
      let here : list_at one (count - i) front s ≡ Ok (front, s) = rw k refl in
      sym so_far ∙ here

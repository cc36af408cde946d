-- Variables whose numbers follow one another, and tables that give a key its variable.
use Rattle.std.specs.Prelude.{◌≡◌, ℕ, suc, List, [], ◌∷◌, map}
use Rattle.dep_form.specs.declared.rules.Var.{Var}

-- the variables have the numbers from the first on, up to the second
abbrev pub IsCounted : ℕ → List Var → ℕ → Type 0
IsCounted n [] m = n ≡ m
IsCounted n (x ∷ xs) m = (x.0 ≡ n) × IsCounted (suc n) xs m

abbrev pub keys_of : {K : Type 0} → List (K × Var) → List K
keys_of table = map (λ e. e.0) table

abbrev pub numbers_of : {K : Type 0} → List (K × Var) → List Var
numbers_of table = map (λ e. e.1) table

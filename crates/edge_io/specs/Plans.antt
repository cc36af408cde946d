-- Which calls are to fail, by their numbers from 1.
use Rattle.std.specs.Prelude.{ℕ, Bool, true, false, List, [], ◌∷◌, ◌==◌, filter, map}
use Rattle.std.specs.List.{list_any}
use Rattle.std.specs.Str.{bytes_eq}

-- no call is to fail
abbrev pub is_nil : List ℕ → Bool
is_nil [] = true
is_nil (n ∷ ns) = false

-- the call with this number is to fail
abbrev pub is_planned : List ℕ → ℕ → Bool
is_planned failing number = list_any (λ n. n == number) failing

-- the numbers that a plan names for the file at a path
abbrev pub calls_of : List (List ℕ × ℕ) → List ℕ → List ℕ
calls_of plan path = map (λ p. p.1) (filter (λ p. bytes_eq p.0 path) plan)

-- So many nodes, and so many words, against their limits.
use Rattle.std.specs.Prelude.{◌≡◌, ◌⊎◌, ◌<◌, ◌≤◌, ◌^◌, ℕ}
use Rattle.slicer_ids.specs.declared.limits.LimitKind.TheVariants.{Nodes, MemoWords}
use Rattle.dep_form.specs.declared.rules.TooMany.{TooMany}
use Rattle.dep_form.specs.declared.rules.TooMany.TheVariants.{NoMemory, Limit}

abbrev pub IsWithinLimitsOf : ℕ → ℕ → Type 0
IsWithinLimitsOf nodes words = (nodes ≤ 2 ^ 24) × (words ≤ 2 ^ 25)

abbrev pub IsTooManyOf : ℕ → ℕ → TooMany → Type 0
IsTooManyOf nodes words NoMemory = ⊥
IsTooManyOf nodes words (Limit kind n) =
    ((kind ≡ Nodes) × (2 ^ 24 < n) × (n ≡ nodes)) ⊎ ((kind ≡ MemoWords) × (2 ^ 25 < n) × (n ≡ words) × (nodes ≤ 2 ^ 24))

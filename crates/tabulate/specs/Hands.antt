-- Rows to hand, by exit.
use Rattle.std.specs.Prelude.{◌≡◌, ◌≢◌, ℕ, List, Option, Some, option_map}
use Rattle.std.specs.Ordering.{nat_cmp}
use Rattle.std.specs.BTreeMap.{get}
use Rattle.tabulate.specs.declared.hands.Hands.{Hands}

-- the row of the exit of this number
abbrev pub hand_of : Hands → ℕ → Option (List ℕ)
hand_of h e = option_map (λ v. v.items) (get nat_cmp h.rows e)

-- the row was put in the place of this number
abbrev pub IsPut : Hands → Hands → ℕ → List ℕ → Type 0
IsPut h h' e row = (hand_of h' e ≡ Some row) × ((d : ℕ) → d ≢ e → hand_of h' d ≡ hand_of h d)

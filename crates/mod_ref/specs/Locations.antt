-- Locations in order.
use Rattle.std.specs.Prelude.{◌≡◌, Bool, List, Contains}
use Rattle.std.specs.declared.cmp.Ordering.{Ordering}
use Rattle.dep_form.specs.declared.effects.Location.{Location}
use Rattle.dep_form.specs.contracts.effects.LocationOrd.TheImpl as of_location
use Rattle.dep_form.specs.contracts.effects.LocationPartialEq.TheImpl as tested_location
use Rattle.mod_ref.specs.declared.effects.Effect.{Effect}

-- the order of locations, as it is compared and as it is tested
abbrev pub location_cmp : Location → Location → Ordering
location_cmp = (of_location.ghosts).cmp

abbrev pub location_eq : Location → Location → Bool
location_eq = (tested_location.ghosts).eq

abbrev pub location_of : Effect → Location
location_of x = x.location

-- the location of one of the effects
abbrev pub IsLocationOf : List Effect → Location → Type 0
IsLocationOf effects l = (x : Effect) × Contains effects x × (x.location ≡ l)

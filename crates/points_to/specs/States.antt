-- What was found so far, and what a step adds.
use Rattle.std.specs.Prelude.{◌≡◌, ◌≢◌, ◌⊎◌, ◌↔◌, ℕ, ◌+◌, ◌<◌, ◌≤◌, ◌^◌, Bool, true, false, List, [], ◌∷◌, Option, Some, None, AllPairs, length, slice_get, slice_index_or, if◌then◌else◌, nat_eq}
use Rattle.std.specs.Global.{Vec}
use Rattle.std.specs.Option.{option_map_or}
use Rattle.slicer_ids.specs.declared.ids.CallId.{CallId}
use Rattle.slicer_ids.specs.declared.ids.FieldId.{FieldId}
use Rattle.dep_form.specs.declared.system.System.{System}
use Rattle.dep_form.specs.Constraints.{SystemFact, SystemHolds}
use Rattle.points_to.specs.declared.found.Found.{Found}
use Rattle.points_to.specs.declared.place.Place.{Place}
use Rattle.points_to.specs.declared.place.Place.TheVariants.{Variable, Cell, Targets, Receivers, Static, Written, Running}
use Rattle.points_to.specs.declared.places.Places.{Places}
use Rattle.points_to.specs.declared.places.Slot.{Slot}
use Rattle.points_to.specs.Bits.{IsMember, AreShort, row_of}
use Rattle.points_to.specs.Items.{Item, At, IsClosed}
use Rattle.points_to.specs.Meaning.{MeansTrue, coded}

-- ---- the row of a place
abbrev pub find_slot : List Slot → FieldId → Option ℕ
find_slot [] f = None
find_slot (s ∷ ss) f = if nat_eq s.field.0 f.0 then Some s.row else find_slot ss f

abbrev pub slots_in : List (Vec Slot) → ℕ → List Slot
slots_in cells o = option_map_or (λ ss. ss.items) (slice_get cells o) []

abbrev pub row_in : Places → Place → Option ℕ
row_in ps (Variable v) = slice_index_or ps.variables.items v.0 None
row_in ps (Cell o f) = find_slot (slots_in ps.cells.items o.0) f
row_in ps (Targets c) = slice_index_or ps.targets.items c.0 None
row_in ps (Receivers c) = slice_index_or ps.receivers.items c.0 None
row_in ps (Static c) = slice_index_or ps.statics.items c.0 None
row_in ps (Written c) = slice_index_or ps.written.items c.0 None
row_in ps Running = ps.running

-- the slots of each site are in the order of their fields
abbrev pub AreSorted : List (Vec Slot) → Type 0
AreSorted cells = (o : ℕ) → AllPairs (λ (a b : Slot). a.field.0 < b.field.0) (slots_in cells o)

-- a number got a row
pub record SetsRow (old new : List (Option ℕ)) (number row : ℕ) : Type 0 where
  pub is : slice_index_or new number None ≡ Some row
  pub other : (k : ℕ) → k ≢ number → slice_index_or new k None ≡ slice_index_or old k None

-- a field got a row
pub record AddsSlot (old new : List Slot) (slot : Slot) : Type 0 where
  pub is : find_slot new slot.field ≡ Some slot.row
  pub other : (f : FieldId) → f ≢ slot.field → find_slot new f ≡ find_slot old f
  pub sorted : AllPairs (λ (a b : Slot). a.field.0 < b.field.0) new

-- a cell got a row
pub record SetsSlot (old new : List (Vec Slot)) (o : ℕ) (slot : Slot) : Type 0 where
  pub is : find_slot (slots_in new o) slot.field ≡ Some slot.row
  pub other : (k : ℕ) (f : FieldId) → (k ≢ o) ⊎ (f ≢ slot.field) → find_slot (slots_in new k) f ≡ find_slot (slots_in old k) f
  pub sorted : AreSorted old → AreSorted new
  pub few : o < 2 ^ 32 → length old ≤ 2 ^ 32 → length new ≤ 2 ^ 32

-- a place got a row
pub record SetsPlace (old new : Places) (place : Place) (row : ℕ) : Type 0 where
  pub is : row_in new place ≡ Some row
  pub other : (p : Place) → (p ≡ place) ⊎ (row_in new p ≡ row_in old p)
  pub sorted : AreSorted old.cells.items → AreSorted new.cells.items
  pub few : length old.cells.items ≤ 2 ^ 32 → length new.cells.items ≤ 2 ^ 32

-- ---- what was found
abbrev pub row_at : Found → Place → Option ℕ
row_at st p = row_in st.places p

abbrev pub Knows : Found → Item → Type 0
Knows st (At p n) = (r : ℕ) × (row_at st p ≡ Some r) × IsMember (row_of st.rows.items r) n

pub record IsShape (st : Found) : Type 0 where
  pub rows : (p : Place) (r : ℕ) → row_at st p ≡ Some r → r < length st.rows.items
  pub short : AreShort st.rows.items
  pub sorted : AreSorted st.places.cells.items
  pub few : length st.places.cells.items ≤ 2 ^ 32

-- each item means a fact that has a derivation, and places that share a row have the same ones
pub record IsSound (s : System) (st : Found) : Type 0 where
  pub each : (f : Item) → Knows st f → MeansTrue s f
  pub same : (p q : Place) (r n : ℕ) → row_at st p ≡ Some r → row_at st q ≡ Some r → MeansTrue s (At p n) → MeansTrue s (At q n)

-- nothing changed since the flag was taken back, and every rule is tried
abbrev pub IsQuiet : Found → Type 0
IsQuiet st = (st.full ≡ true) × (st.changed ≡ false)

-- What a step did: it added items that follow by these rules. Where nothing changed, what is known is closed under them.
pub record Moves (s : System) (old new : Found) (R : List Item → Item → Type 0) : Type 0 where
  pub sound : IsClosed R (MeansTrue s) → IsSound s old → IsSound s new
  pub grows : (f : Item) → Knows old f → Knows new f
  pub quiet : IsQuiet new → IsQuiet old × ((f : Item) → Knows new f → Knows old f) × IsClosed R (Knows old)

-- the places are as they were, and a row got what P holds of
pub record Pours (old new : Found) (to : ℕ) (P : ℕ → Type 0) : Type 0 where
  pub places : new.places ≡ old.places
  pub len : length new.rows.items ≡ length old.rows.items
  pub other : (r : ℕ) → r ≢ to → row_of new.rows.items r ≡ row_of old.rows.items r
  pub keeps : (k : ℕ) → IsMember (row_of old.rows.items to) k → IsMember (row_of new.rows.items to) k
  pub only : (k : ℕ) → IsMember (row_of new.rows.items to) k → IsMember (row_of old.rows.items to) k ⊎ P k
  pub quiet : IsQuiet new → IsQuiet old × ((k : ℕ) → IsMember (row_of new.rows.items to) k → IsMember (row_of old.rows.items to) k) × ((k : ℕ) → P k → IsMember (row_of old.rows.items to) k)
  pub short : AreShort old.rows.items → AreShort new.rows.items

-- the place got a row of its own, which is empty
pub record Opens (old new : Found) (place : Place) (row : ℕ) : Type 0 where
  pub places : SetsPlace old.places new.places place row
  pub fresh : row ≡ length old.rows.items
  pub len : length new.rows.items ≡ length old.rows.items + 1
  pub rows : (r : ℕ) → row_of new.rows.items r ≡ row_of old.rows.items r
  pub full : new.full ≡ old.full
  pub changed : new.changed ≡ old.changed

-- the place has some number
abbrev pub HasSome : Found → Place → Type 0
HasSome st p = (n : ℕ) × Knows st (At p n)

-- the call goes outside, as far as is known
abbrev pub IsGone : Found → CallId → Type 0
IsGone st c = HasSome st (Receivers c) ⊎ Knows st (At (Static c) 0)

-- the facts that are known are those that have a derivation
abbrev pub IsExact : System → Found → Type 0
IsExact s st = (f : SystemFact) → Knows st (coded f) ↔ SystemHolds s f

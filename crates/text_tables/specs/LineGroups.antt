-- Statements by line.
use Rattle.std.specs.Prelude.{◌≡◌, ◌<◌, ◌&&◌, nat_eq, ℕ, Bool, List, [], ◌∷◌, ◌++◌, Option, Some, Contains, length, map, slice_get}
use Rattle.std.specs.declared.cmp.Ordering.{Ordering}
use Rattle.slicer_ids.specs.Sets.{IsOrderedListOf}
use Rattle.slicer_ids.specs.Order.{StatementBefore}
use Rattle.slicer_ids.specs.declared.ids.ClassId.{ClassId}
use Rattle.slicer_ids.specs.declared.ids.MethodId.{MethodId}
use Rattle.slicer_ids.specs.declared.ids.Statement.{Statement}
use Rattle.dep_form.specs.Keys.{key_of_line}
use Rattle.dep_form.specs.LookUps.{HasLineIn}
use Rattle.dep_form.specs.Orders.{RiseBy, line_cmp}
use Rattle.dep_form.specs.declared.texts.MethodText.{MethodText}
use Rattle.text_tables.specs.contracts.lines.LinePlaceOrd.TheImpl as of_place
use Rattle.text_tables.specs.declared.lines.LinePlace.{LinePlace}

-- a statement of the method of this class and number, where the entry has a line
abbrev pub IsPlaceOf : ClassId → MethodId → ℕ × Option ℕ → LinePlace → Type 0
IsPlaceOf class m e x = (e.1 ≡ Some x.line) × (x ≡ record { class = class; line = x.line; place = record { method = m; pc = e.0 } })

-- a statement of the method of this number
abbrev pub IsPlaceAt : List MethodText → ℕ → LinePlace → Type 0
IsPlaceAt texts m x =
    (t : MethodText) × (e : ℕ × Option ℕ) × (slice_get texts m ≡ Some t) × Contains t.lines e × IsPlaceOf t.class (record { 0 = m }) e x

-- the statement of the texts has the line, and its method the class
abbrev pub IsLinePlace : List MethodText → LinePlace → Type 0
IsLinePlace texts x =
    (t : MethodText) × (slice_get texts x.place.method.0 ≡ Some t) × (t.class ≡ x.class) × HasLineIn t x.place.pc (Some x.line)

-- the order of places, as they are compared
abbrev pub place_cmp : LinePlace → LinePlace → Ordering
place_cmp = (of_place.ghosts).cmp

-- it is of the class, and at the line
abbrev pub is_at : ClassId → ℕ → LinePlace → Bool
is_at class line x = nat_eq x.class.0 class.0 && nat_eq x.line line

abbrev pub statement_of : LinePlace → Statement
statement_of x = x.place

-- the places of one line are side by side, and each line's are a group
pub data AreRuns : List LinePlace → List (ClassId × ℕ × List Statement) → Type 0 where
  none : AreRuns [] []
  one : {class : ClassId} {line : ℕ} {rest all : List LinePlace} {ts : List Statement} {groups : List (ClassId × ℕ × List Statement)} (run : List LinePlace) →
      0 < length run → ((x : LinePlace) → Contains run x → (x.class ≡ class) × (x.line ≡ line)) → ts ≡ map statement_of run →
      ((y : LinePlace) → slice_get rest 0 ≡ Some y → y.class ≡ class → y.line ≡ line → ⊥) → all ≡ run ++ rest → AreRuns rest groups →
      AreRuns all ((class, line, ts) ∷ groups)

-- the groups of these places
pub record AreGroups (places : List LinePlace) (groups : List (ClassId × ℕ × List Statement)) : Type 0 where
  pub order : RiseBy line_cmp key_of_line groups
  pub some : (c : ClassId) (line : ℕ) (ts : List Statement) → Contains groups (c, line, ts) → (t : Statement) × Contains ts t
  pub each : (c : ClassId) (line : ℕ) (ts : List Statement) → Contains groups (c, line, ts) →
      IsOrderedListOf StatementBefore ts (λ t. Contains places (record { class = c; line = line; place = t }))
  pub whole : (c : ClassId) (line : ℕ) (t : Statement) → Contains places (record { class = c; line = line; place = t }) → (ts : List Statement) × Contains groups (c, line, ts)

-- The calls of a program, each with each method that it may go to.
use Rattle.std.specs.Prelude.{◌≡◌, ◌+◌, ◌↔◌, ℕ, Bool, true, false, List, Some, Contains, length, slice_get}
use Rattle.std.specs.declared.cmp.Ordering.{Ordering}
use Rattle.slicer_ids.specs.declared.ids.CallId.{CallId}
use Rattle.slicer_ids.specs.declared.ids.MethodId.{MethodId}
use Rattle.slicer_ids.specs.declared.ids.Statement.{Statement}
use Rattle.dep_form.specs.declared.call_site.CallSite.{CallSite}
use Rattle.dep_form.specs.declared.system.System.{System}
use Rattle.dep_form.specs.Constraints.{IsCallSite, SystemHolds}
use Rattle.dep_form.specs.Orders.{RiseBy}
use Rattle.dep_form.specs.PointsTo.{Calls}
use Rattle.fact_form.specs.EdgeNumbers.{IsCallNumber}
use Rattle.fact_form.specs.EntryCalls.{root_of}
use Rattle.edge_tables.specs.declared.links.Link.{Link}
use Rattle.edge_tables.specs.contracts.links.LinkOrd.TheImpl as of_link

-- the order of calls, as it is compared
abbrev pub link_cmp : Link → Link → Ordering
link_cmp = (of_link.ghosts).cmp

-- a call under the method called, or under the one that calls
abbrev pub link_of : Bool → CallId → MethodId → ℕ → MethodId → Link
link_of true c m pc t = record { key = t; number = c; caller = m; pc = pc; target = t }
link_of false c m pc t = record { key = m; number = c; caller = m; pc = pc; target = t }

-- the call of a statement to a method
abbrev pub IsLinkTo : Bool → CallId → Statement → MethodId → Link → Type 0
IsLinkTo by_target c place t x = x ≡ link_of by_target c place.method place.pc t

-- the call of this number, to each method that it may go to
abbrev pub IsCallLink : Bool → System → ℕ → Link → Type 0
IsCallLink by_target s n x =
    (k : CallSite) × (place : Statement) × (t : MethodId) × IsCallSite s (record { 0 = n }) k × (k.place ≡ Some place)
    × SystemHolds s (Calls (record { 0 = n }) t) × IsLinkTo by_target (record { 0 = n }) place t x

-- the root's call of this number
abbrev pub IsEntryLink : Bool → System → List MethodId → ℕ → Link → Type 0
IsEntryLink by_target s entries n x =
    (t : MethodId) × (slice_get entries n ≡ Some t)
    × IsLinkTo by_target (record { 0 = length s.calls + n }) (record { method = root_of s; pc = n }) t x

-- a call of the program
abbrev pub IsAnyLink : Bool → System → List MethodId → Link → Type 0
IsAnyLink by_target s entries x =
    (c : CallId) × (m : MethodId) × (pc : ℕ) × (t : MethodId) × IsCallNumber s entries c m pc t × (x ≡ link_of by_target c m pc t)

-- all calls, in order
pub record AreLinks (by_target : Bool) (s : System) (entries : List MethodId) (links : List Link) : Type 0 where
  pub order : RiseBy link_cmp (λ x. x) links
  pub members : (x : Link) → Contains links x ↔ IsAnyLink by_target s entries x

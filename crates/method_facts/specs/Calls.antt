-- Calls by the statements where they stand.
use Rattle.std.specs.Prelude.{◌≡◌, ℕ, List, Option, Some, None, All, slice_get}
use Rattle.slicer_ids.specs.declared.ids.CallId.{CallId}
use Rattle.slicer_ids.specs.declared.ids.Statement.{Statement}
use Rattle.dep_form.specs.declared.call_site.CallSite.{CallSite}
use Rattle.dep_form.specs.Orders.{RiseBy, statement_cmp}

abbrev pub first_statement : Statement
first_statement = record { method = record { 0 = 0 }; pc = 0 }

abbrev pub statement_or_first : Option Statement → Statement
statement_or_first None = first_statement
statement_or_first (Some t) = t

abbrev pub place_of : CallSite → Statement
place_of k = statement_or_first k.place

-- each call stands at a statement, in order
pub record ArePlaced (calls : List CallSite) : Type 0 where
  pub placed : All (λ (k : CallSite). (t : Statement) × (k.place ≡ Some t)) calls
  pub order : RiseBy statement_cmp place_of calls

-- the call of this number stands at the statement
abbrev pub IsCallAt : List CallSite → Statement → CallId → Type 0
IsCallAt calls t c = (k : CallSite) × (slice_get calls c.0 ≡ Some k) × (k.place ≡ Some t)

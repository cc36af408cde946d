-- The lines of a slice.
use Rattle.std.proofs.Common.{◌≡◌, ◌≢◌, List, Contains, All, subst, sym}
use Rattle.std.proofs.lemmas.List.Elements.{All-contains, All-weaker}
use Rattle.slicer_ids.specs.declared.ids.NodeId.{NodeId}
use Rattle.slicer_ids.specs.declared.ids.Statement.{Statement}
use Rattle.slicer_ids.specs.Order.{StatementBefore}
use Rattle.slicer_ids.specs.Sets.{IsOrderedListOf}
use Rattle.slicer_ids.proofs.GrowingOrder.{reworded}
use Rattle.dep_form.specs.declared.facts.Facts.{Facts}
use Rattle.dep_form.specs.LookUps.{IsStatement}
use Rattle.dep_form.specs.Slices.{StatementsOf}
use Rattle.report.specs.declared.reply.LinePlace.{LinePlace}
use Rattle.session_form.specs.States.{State, AreListed, LineBefore, InSlice, IsLineOfSlice}
use Rattle.session_slices.specs.SliceLines.{IsLineOfSome}

-- the statements of nodes are statements of the facts
pub all_statements : (f : Facts) (P : NodeId → Type 0) (ss : List Statement) → AreListed f → IsOrderedListOf StatementBefore ss (StatementsOf f.inputs P) → All (IsStatement f) ss
all_statements f P ss listed is = All-weaker (StatementsOf f.inputs P) (IsStatement f) (λ s h. listed h.0 s h.2) ss is.each

pub lines_are : (f : Facts) (st : State) (ss : List Statement) (ls : List LinePlace) → IsOrderedListOf StatementBefore ss (InSlice f st) → IsOrderedListOf LineBefore ls (IsLineOfSome f (Contains ss)) → IsOrderedListOf LineBefore ls (IsLineOfSlice f st)
lines_are f st ss ls is lines = reworded LineBefore ls (IsLineOfSome f (Contains ss)) (IsLineOfSlice f st)
    (λ l h. (h.0, All-contains (InSlice f st) ss h.0 is.each h.1, h.2, h.3))
    (λ l h. (h.0, is.whole h.0 h.1, h.2, h.3))
    lines

-- .. where the statements were handed on
pub lines_of_list : (f : Facts) (st : State) (ss ts : List Statement) (ls : List LinePlace) → ts ≡ ss → IsOrderedListOf StatementBefore ss (InSlice f st) → IsOrderedListOf LineBefore ls (IsLineOfSome f (Contains ts)) → IsOrderedListOf LineBefore ls (IsLineOfSlice f st)
lines_of_list f st ss ts ls e is lines = lines_are f st ss ls is (subst (λ (xs : List Statement). IsOrderedListOf LineBefore ls (IsLineOfSome f (Contains xs))) e lines)

-- What a clause says of the memo and its seats.
use Rattle.std.specs.Prelude.{◌≡◌, Some}
use Rattle.dep_form.specs.declared.facts.Facts.{Facts}
use Rattle.summary_memo.specs.declared.view.View.{View}
use Rattle.summary_memo.specs.declared.memo.Memo.{Memo}
use Rattle.summary_memo.specs.declared.memo.MemoSeat.{MemoSeat}

-- the facts that the rows are of
abbrev pub facts_of : Memo → Facts
facts_of m = m.table.shared.key

-- what the seat knows
abbrev pub view_of : MemoSeat → View
view_of s = s.seat.me.0

-- the seat is one of this memo
pub record IsSeatOf (m : Memo) (s : MemoSeat) : Type 0 where
  pub table : s.seat.table_id ≡ m.table.shared.table_id
  pub about : (view_of s).about ≡ Some (facts_of m)

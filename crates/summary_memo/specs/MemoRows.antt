-- What the rows of a memo surely have.
use Rattle.std.specs.Prelude.{◌≡◌, ◌<◌, ◌≤◌, length, refl}
use Rattle.std.proofs.Common.{◌∙◌, ap, sym, subst}
use Rattle.slicer_ids.specs.declared.ids.ExitId.{ExitId}
use Rattle.slicer_ids.specs.declared.ids.Mode.{Mode}
use Rattle.dep_form.specs.declared.facts.Facts.{Facts}
use Rattle.summary_memo.specs.declared.rows.MemoRows.{MemoRows}
use Rattle.summary_memo.specs.Places.{width, gate_of}
use Rattle.summary_memo.specs.Rule.{KnowsShut, Knows}
use Rattle.summary_memo.specs.Memo.{facts_of, view_of, IsSeatOf}

abbrev pub facts_of_rows : MemoRows → Facts
facts_of_rows m = facts_of m.memo.now

-- the seat is one of the memo, and the buffer has room for each row
pub record IsSound (m : MemoRows) : Type 0 where
  pub seat : IsSeatOf m.memo.now m.seat.now
  pub room : (e : ExitId) → e.0 < length (facts_of m.memo.now).exits → width (facts_of m.memo.now) e ≤ length m.buffer.items

-- the seat is still that one, of that memo, and knows all that it knew
pub record IsLater (m n : MemoRows) : Type 0 where
  pub memo : n.memo.now ≡ m.memo.now
  pub seat : n.seat.ghost_name ≡ m.seat.ghost_name
  pub knows : Knows (view_of m.seat.now) (view_of n.seat.now)

abbrev pub HasSurely : MemoRows → ExitId → Mode → Type 0
HasSurely m e mode = KnowsShut (view_of m.seat.now) (facts_of m.memo.now) e mode

pub later_refl : (m : MemoRows) → IsLater m m
later_refl m = record { memo = refl; seat = refl; knows = record { about = refl; bits = λ x c. c; gates = λ x c. c } }

pub later_trans : (m n o : MemoRows) → IsLater m n → IsLater n o → IsLater m o
later_trans m n o a b = record {
  memo = b.memo ∙ a.memo;
  seat = b.seat ∙ a.seat;
  knows = record { about = b.knows.about ∙ a.knows.about; bits = λ x c. b.knows.bits x (a.knows.bits x c); gates = λ x c. b.knows.gates x (a.knows.gates x c) };
}

pub later_facts : (m n : MemoRows) → IsLater m n → facts_of_rows n ≡ facts_of_rows m
later_facts m n a = ap facts_of a.memo

pub later_surely : (m n : MemoRows) (e : ExitId) (mode : Mode) → IsLater m n → HasSurely m e mode → HasSurely n e mode
later_surely m n e mode a h =
    subst (λ (f : Facts). KnowsShut (view_of n.seat.now) f e mode) (sym (ap facts_of a.memo))
    (h.0, a.knows.gates (gate_of (facts_of m.memo.now) e mode, h.0) h.1, h.2)

-- What a seat knows of the rows of a memo.
use Rattle.std.specs.Prelude.{◌≡◌, refl}
use Rattle.std.proofs.Common.{◌∙◌, ap, sym, subst}
use Rattle.slicer_ids.specs.declared.ids.ExitId.{ExitId}
use Rattle.slicer_ids.specs.declared.ids.Mode.{Mode}
use Rattle.dep_form.specs.declared.facts.Facts.{Facts}
use Rattle.summary_memo.specs.Places.{gate_of}
use Rattle.summary_memo.specs.Rule.{KnowsShut, Knows}
use Rattle.summary_memo.specs.Memo.{facts_of, view_of, IsSeatOf}
use Rattle.session_walk.specs.declared.known.SeatView.{SeatView}

abbrev pub facts_of_view : SeatView → Facts
facts_of_view v = facts_of v.memo.now

-- the seat is one of the memo
abbrev pub IsSound : SeatView → Type 0
IsSound v = IsSeatOf v.memo.now v.seat.now

-- the seat is still that one, of that memo, and knows all that it knew
pub record IsLater (v w : SeatView) : Type 0 where
  pub memo : w.memo.now ≡ v.memo.now
  pub seat : w.seat.ghost_name ≡ v.seat.ghost_name
  pub knows : Knows (view_of v.seat.now) (view_of w.seat.now)

-- the seat knows the row shut
abbrev pub KnowsRow : SeatView → ExitId → Mode → Type 0
KnowsRow v e mode = KnowsShut (view_of v.seat.now) (facts_of v.memo.now) e mode

pub later_refl : (v : SeatView) → IsLater v v
later_refl v = record { memo = refl; seat = refl; knows = record { about = refl; bits = λ x c. c; gates = λ x c. c } }

pub later_trans : (v w x : SeatView) → IsLater v w → IsLater w x → IsLater v x
later_trans v w x a b = record {
  memo = b.memo ∙ a.memo;
  seat = b.seat ∙ a.seat;
  knows = record { about = b.knows.about ∙ a.knows.about; bits = λ y c. b.knows.bits y (a.knows.bits y c); gates = λ y c. b.knows.gates y (a.knows.gates y c) };
}

pub later_facts : (v w : SeatView) → IsLater v w → facts_of_view w ≡ facts_of_view v
later_facts v w a = ap facts_of a.memo

pub later_known : (v w : SeatView) (e : ExitId) (mode : Mode) → IsLater v w → KnowsRow v e mode → KnowsRow w e mode
later_known v w e mode a h =
    subst (λ (f : Facts). KnowsShut (view_of w.seat.now) f e mode) (sym (ap facts_of a.memo))
    (h.0, a.knows.gates (gate_of (facts_of v.memo.now) e mode, h.0) h.1, h.2)

use Rattle.std.proofs.Common.{◌≡◌, ◌+◌, ◌<◌, ◌∙◌, ℕ, List, length, get_or, take, Contains, inl, inr, sym, subst}
use Rattle.std.proofs.lemmas.List.{take_all, take_more}
use Rattle.std.proofs.lemmas.List.Elements.{Contains-push_cases}
use Rattle.slicer_ids.specs.declared.ids.ExitId.{ExitId}
use Rattle.summary_memo.specs.Memo.{facts_of, view_of}
use Rattle.summary_memo.specs.Rule.{KnowsShut}
use Rattle.summary_memo.proofs.Knowing.{knows_all, still_shut}
use Rattle.summary_memo.proofs.memo.Memo.fill_all.Goals as goal

pub fill_one-requires-clause-row : goal.fill_one-requires-clause-row
fill_one-requires-clause-row c =
    let x : ExitId × List ℕ = c.row-item.result in
    c.requires.rows x.0 x.1 (c.loop-row.row-index, c.loop-row-test.true, sym c.row-item.is)

more : (P : ExitId → Type 0) (rows : List (ExitId × List ℕ)) (i : ℕ) (x : ExitId × List ℕ) → i < length rows → x ≡ get_or rows i x → ((d : ExitId) (row : List ℕ) → Contains (take i rows) (d, row) → P d) → P x.0 → (d : ExitId) (row : List ℕ) → Contains (take (i + 1) rows) (d, row) → P d
more P rows i x lt is old new d row c = elim (Contains-push_cases (take i rows) (get_or rows i x) (d, row) (subst (λ (ys : List (ExitId × List ℕ)). Contains ys (d, row)) (take_more rows i x lt) c)) [
  | inl o ↦ old d row o
  | inr same ↦ subst (λ (y : ExitId × List ℕ). P y.0) (is ∙ same) new
]

pub loop-row-preserved : goal.loop-row-preserved
loop-row-preserved c =
    let f = facts_of c.args.self.now in
    let l = c.loop-row in
    record {
      seat = c.fill_one.ensures.seat;
      knows = knows_all (view_of c.args.seat.now) (view_of l.seat) (view_of c.fill_one.new.seat) l.invariant.knows c.fill_one.ensures.knows;
      shut = more (λ d. KnowsShut (view_of c.fill_one.new.seat) f d c.args.mode) c.args.rows.now l.row-index c.row-item.result c.loop-row-test.true c.row-item.is
          (λ d row k. still_shut (view_of l.seat) (view_of c.fill_one.new.seat) f d c.args.mode c.fill_one.ensures.knows (l.invariant.shut d row k)) c.fill_one.ensures.shut;
    }

pub returns-clause-shut : goal.returns-clause-shut
returns-clause-shut c = λ d row k. c.loop-row.invariant.shut d row (subst (λ (ys : List (ExitId × List ℕ)). Contains ys (d, row)) (sym (take_all c.loop-row.row-index c.args.rows.now c.loop-row-test.false)) k)

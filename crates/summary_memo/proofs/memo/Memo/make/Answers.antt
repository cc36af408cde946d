use Rattle.std.proofs.Common.{◌≡◌, ◌∙◌, ℕ, List, [], ◌<◌, get_or, Contains, inl, inr, sym, subst, ap, arith}
use Rattle.std.specs.Prelude.{length}
use Rattle.std.proofs.lemmas.List.{get_or-map, length-map}
use Rattle.std.proofs.lemmas.Option.{same_Some, slice_get-get_or}
use Rattle.slicer_ids.specs.declared.ids.ExitId.{ExitId}
use Rattle.dep_form.specs.declared.facts.Facts.{Facts}
use Rattle.dep_form.specs.Summaries.{IsRow}
use Rattle.tabulate.specs.declared.table.Table.{Table}
use Rattle.tabulate.specs.Tables.{HasExit}
use Rattle.summary_memo.specs.Memo.{view_of}
use Rattle.summary_memo.specs.Rule.{KnowsShut}
use Rattle.summary_memo.proofs.Knowing.{still_shut}
use Rattle.summary_memo.proofs.memo.Memo.make.Goals as goal

pub fill_all-requires-clause-rows : goal.fill_all-requires-clause-rows
fill_all-requires-clause-rows g c = λ d row k. subst (λ (f : Facts). IsRow f c.args.mode d row) (sym c.requires.facts) (c.in_ok-table.ensures.rows d row (subst (λ (ys : List (ExitId × List ℕ)). Contains ys (d, row)) c.items.ensures k))

-- an exit of a table has a row
row_of_exit : (t : Table) (e : ExitId) → HasExit t e → (row : List ℕ) × Contains t.rows (e, row)
row_of_exit t e (k, lt, is) =
    let low : k < length t.rows = omega (arith, lt, length-map t.rows (λ (y : ExitId × List ℕ). y.0)) in
    let y : ExitId × List ℕ = get_or t.rows k (e, []) in
    let first : y.0 ≡ e = sym (get_or-map (λ (y : ExitId × List ℕ). y.0) t.rows k (e, []) e low) ∙ is in
    let any : get_or t.rows k (e, y.1) ≡ y = same_Some _ _ (sym (slice_get-get_or t.rows k (e, y.1) low) ∙ slice_get-get_or t.rows k (e, []) low) in
    (y.1, (k, low, any ∙ ap (λ (d : ExitId). (d, y.1)) first))

pub returns-clause-shut : goal.returns-clause-shut
returns-clause-shut g c =
    let r = row_of_exit c.in_ok-table.table c.args.e c.in_ok-table.ensures.own in
    subst (λ (f : Facts). KnowsShut (view_of c.fill_all.new.seat) f c.args.e c.args.mode) c.requires.facts (c.fill_all.ensures.shut c.args.e r.0 (subst (λ (ys : List (ExitId × List ℕ)). Contains ys (c.args.e, r.0)) (sym c.items.ensures) r.1))

pub returns-clause-more : goal.returns-clause-more
returns-clause-more g c = λ d k. elim (c.in_ok-table.ensures.more.each d k) [
  | inl own ↦
      let r = row_of_exit c.in_ok-table.table d own in
      subst (λ (f : Facts). KnowsShut (view_of c.fill_all.new.seat) f d c.args.mode) c.requires.facts (c.fill_all.ensures.shut d r.0 (subst (λ (ys : List (ExitId × List ℕ)). Contains ys (d, r.0)) (sym c.items.ensures) r.1))
  | inr shut ↦ still_shut (view_of c.table.new.seat) (view_of c.fill_all.new.seat) c.args.f.now d c.args.mode c.fill_all.ensures.knows shut
]

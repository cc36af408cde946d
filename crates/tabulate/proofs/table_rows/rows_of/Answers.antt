use Rattle.std.proofs.Common.{◌≡◌, ◌<◌, ◌+◌, ◌++◌, ◌∷◌, [], ℕ, List, length, get_or, take, Contains, sym, subst, ap, ◌∙◌, inl, inr}
use Rattle.std.specs.Prelude.{map}
use Rattle.std.proofs.lemmas.List.{take_more, map-append}
use Rattle.std.proofs.lemmas.List.Elements.{Contains-get_or, Contains-push_cases}
use Rattle.slicer_ids.specs.declared.ids.ExitId.{ExitId}
use Rattle.tabulate.specs.States.{IsRowFound}
use Rattle.tabulate.proofs.table_rows.rows_of.Goals as goal

pub row_at-requires-clause-exit : goal.row_at-requires-clause-exit
row_at-requires-clause-exit c = c.requires.exits _ (Contains-get_or c.args.asked.now c.loop-exit.exit-index _ c.loop-exit-test.true)

exits_more : (rows rows' : List (ExitId × List ℕ)) (asked : List ExitId) (i : ℕ) (none : ExitId) (row : List ℕ) → i < length asked → rows' ≡ rows ++ (get_or asked i none, row) ∷ [] → map (λ (y : ExitId × List ℕ). y.0) rows ≡ take i asked → map (λ (y : ExitId × List ℕ). y.0) rows' ≡ take (i + 1) asked
exits_more rows rows' asked i none row lt grown old = ap (map (λ (y : ExitId × List ℕ). y.0)) grown ∙ map-append (λ (y : ExitId × List ℕ). y.0) rows ((get_or asked i none, row) ∷ []) ∙ ap (λ ys. ys ++ get_or asked i none ∷ []) old ∙ sym (take_more asked i none lt)

rows_more : (P : ExitId → List ℕ → Type 0) (rows rows' : List (ExitId × List ℕ)) (e : ExitId) (new : List ℕ) → rows' ≡ rows ++ (e, new) ∷ [] → ((d : ExitId) (row : List ℕ) → Contains rows (d, row) → P d row) → P e new → (d : ExitId) (row : List ℕ) → Contains rows' (d, row) → P d row
rows_more P rows rows' e new grown old one d row k = elim (Contains-push_cases rows (e, new) (d, row) (subst (λ (ys : List (ExitId × List ℕ)). Contains ys (d, row)) grown k)) [
  | inl o ↦ old d row o
  | inr same ↦ subst (λ (z : ExitId × List ℕ). P z.0 z.1) same one
]

pub loop-exit-preserved : goal.loop-exit-preserved
loop-exit-preserved c =
    let none : ExitId = record { 0 = 0 } in
    record {
      exits = exits_more c.loop-exit.rows.items c.push.new.self.items c.args.asked.now c.loop-exit.exit-index none c.in_ok-row.row c.loop-exit-test.true c.in_ok-push.ensures.items c.loop-exit.invariant.exits;
      rows = rows_more (IsRowFound c.args.f.now c.args.found.now.items) c.loop-exit.rows.items c.push.new.self.items (get_or c.args.asked.now c.loop-exit.exit-index none) c.in_ok-row.row c.in_ok-push.ensures.items c.loop-exit.invariant.rows c.in_ok-row.ensures;
    }

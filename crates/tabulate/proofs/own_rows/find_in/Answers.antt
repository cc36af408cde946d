use Rattle.std.proofs.Common.{◌≡◌, ◌+◌, ◌<◌, ◌∙◌, ℕ, List, length, get_or, take, Contains, inl, inr, sym, subst, ap, eq-eqb}
use Rattle.std.proofs.lemmas.Bool.{false≢true}
use Rattle.std.proofs.lemmas.List.{take_all, take_more}
use Rattle.std.proofs.lemmas.List.Elements.{Contains-push_cases}
use Rattle.slicer_ids.specs.declared.ids.ExitId.{ExitId}
use Rattle.tabulate.proofs.own_rows.find_in.Goals as goal

pub loop-row-preserved : goal.loop-row-preserved
loop-row-preserved c = λ row k.
    let x : ExitId × List ℕ = c.row-item.result in
    let i : ℕ = c.loop-row.row-index in
    elim (Contains-push_cases (take i c.args.rows.now) (get_or c.args.rows.now i x) (c.args.e, row) (subst (λ (ys : List (ExitId × List ℕ)). Contains ys (c.args.e, row)) (take_more c.args.rows.now i x c.loop-row-test.true) k)) [
      | inl o ↦ c.loop-row.invariant row o
      | inr same ↦ false≢true (c.if-eq.ensures ∙ eq-eqb x.0.0 c.args.e.0 (ap (λ (y : ExitId × List ℕ). y.0.0) (c.row-item.is ∙ same)))
    ]

pub returns : goal.returns
returns c = λ row k. c.loop-row.invariant row (subst (λ (ys : List (ExitId × List ℕ)). Contains ys (c.args.e, row)) (sym (take_all c.loop-row.row-index c.args.rows.now c.loop-row-test.false)) k)

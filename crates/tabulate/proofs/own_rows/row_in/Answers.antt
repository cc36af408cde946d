use Rattle.std.proofs.Common.{ℕ, List, Contains, sym, subst}
use Rattle.slicer_ids.specs.declared.ids.ExitId.{ExitId}
use Rattle.tabulate.proofs.OwnRowLaws.{match_map}
use Rattle.tabulate.proofs.own_rows.row_in.Goals as goal

pub returns : goal.returns
returns c =
    match_map _ _ _ _ c.find_in.result (λ none row is. none row (subst (λ (ys : List (ExitId × List ℕ)). Contains ys (c.args.e, row)) (sym c.items.ensures) is.1))
    (λ r k. (c.same_mode.ensures.0 c.if-not-same_mode.false, subst (λ (ys : List (ExitId × List ℕ)). Contains ys (c.args.e, r.now)) c.items.ensures k)) c.find_in.ensures

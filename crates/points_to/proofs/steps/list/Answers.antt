use Rattle.std.proofs.Common.{◌∙◌, sym, refl}
use Rattle.std.proofs.lemmas.Result.{IfOk-weaker}
use Rattle.points_to.proofs.Moving.{list_knows, list_nothing}
use Rattle.points_to.proofs.steps.list.Goals as goal

pub returns-in-Some : goal.returns-in-Some
returns-in-Some c = IfOk-weaker c.list_row.result _ _ (λ v h. list_knows c.args.found.now c.args.place c.in-Some.row v.items (sym c.lookup.ensures ∙ c.in-Some.is) h) c.list_row.ensures

use Rattle.std.proofs.Common.{◌∙◌, sym}
use Rattle.std.proofs.lemmas.Result.{IfOk-weaker}
use Rattle.points_to.proofs.Moving.{opened, opened_shape}
use Rattle.points_to.proofs.steps.row_for.Goals as goal

pub returns-in-None-clause-shape : goal.returns-in-None-clause-shape
returns-in-None-clause-shape c = IfOk-weaker c.open.result _ _ (λ row o. opened_shape c.args.found.now c.open.new.found c.args.place row (sym c.lookup.ensures ∙ c.in-None.is) o c.requires) c.open.ensures

pub returns-in-None-clause-moved : goal.returns-in-None-clause-moved
returns-in-None-clause-moved c = IfOk-weaker c.open.result _ _ (λ row o s. opened c.args.found.now c.open.new.found c.args.place row (sym c.lookup.ensures ∙ c.in-None.is) o c.requires s) c.open.ensures

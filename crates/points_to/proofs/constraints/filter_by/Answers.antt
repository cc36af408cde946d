use Rattle.std.proofs.lemmas.Result.{on_ok_weaker}
use Rattle.points_to.proofs.Choosing.{filters_as}
use Rattle.points_to.proofs.constraints.filter_by.Goals as goal

pub returns-clause-moved : goal.returns-clause-moved
returns-clause-moved c = on_ok_weaker c.pass.result (λ m s. filters_as s c.args.system.now c.args.found.now c.pass.new.found c.args.from c.args.to c.args.keep c.args.row.now c.requires.mask (m s)) c.pass.ensures.moved

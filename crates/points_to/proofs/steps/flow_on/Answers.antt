use Rattle.std.proofs.lemmas.Result.{on_ok_weaker}
use Rattle.points_to.specs.Items.{Flows}
use Rattle.points_to.proofs.Moving.{Moves-first}
use Rattle.points_to.proofs.steps.flow_on.Goals as goal

pub returns-clause-moved : goal.returns-clause-moved
returns-clause-moved c = on_ok_weaker c.flow_to.result (λ m s. Moves-first s c.args.found.now c.row_for.new.found c.flow_to.new.found (Flows c.args.from c.args.to) (c.in_ok-row.ensures.moved s) (m s)) c.flow_to.ensures.moved

use Rattle.std.proofs.lemmas.Result.{on_ok_weaker}
use Rattle.points_to.specs.Bits.{IsMember}
use Rattle.points_to.specs.Items.{Filters}
use Rattle.points_to.proofs.Moving.{Moves-first}
use Rattle.points_to.proofs.steps.pass.Goals as goal

pub returns-clause-moved : goal.returns-clause-moved
returns-clause-moved c = on_ok_weaker c.pass_to.result (λ m s. Moves-first s c.args.found.now c.row_for.new.found c.pass_to.new.found (Filters (IsMember c.args.mask.now) c.args.from c.args.to) (c.in_ok-row.ensures.moved s) (m s)) c.pass_to.ensures.moved

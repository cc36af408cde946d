use Rattle.std.proofs.Common.{◌≡◌}
use Rattle.std.proofs.lemmas.Result.{on_ok_weaker}
use Rattle.points_to.specs.Items.{Adds}
use Rattle.points_to.proofs.Moving.{shaped, gave, Moves-first}
use Rattle.points_to.proofs.steps.give.Goals as goal

pub returns-clause-shape : goal.returns-clause-shape
returns-clause-shape c = on_ok_weaker c.put.result (λ d. shaped c.row_for.new.found c.put.new.found c.in_ok-row.row (λ k. k ≡ c.args.number) d c.in_ok-row.ensures.shape) c.put.ensures

pub returns-clause-moved : goal.returns-clause-moved
returns-clause-moved c = on_ok_weaker c.put.result (λ d s. Moves-first s c.args.found.now c.row_for.new.found c.put.new.found (Adds c.args.place c.args.number) (c.in_ok-row.ensures.moved s) (gave s c.row_for.new.found c.put.new.found c.args.place c.in_ok-row.row c.args.number c.in_ok-row.ensures.is d)) c.put.ensures

use Rattle.points_to.specs.Rules.{receiver_at, formal_at, FlowsSome, Enters}
use Rattle.points_to.proofs.Moving.{Moves-then}
use Rattle.points_to.proofs.constraints.direct_call.Goals as goal

pub returns-clause-moved : goal.returns-clause-moved
returns-clause-moved c = λ s. Moves-then s c.args.found.now c.enter.new.found c.receive.new.found (Enters c.args.c c.args.t) (FlowsSome (receiver_at c.args.system.now c.args.c) (formal_at c.args.system.now c.args.t 0)) (c.in_ok-enter.ensures.moved s) (c.in_ok-receive.ensures.moved s)

use Rattle.std.proofs.Common.{subst}
use Rattle.std.proofs.lemmas.Result.{on_ok_weaker}
use Rattle.points_to.specs.Rules.{formal_at, FlowsSome}
use Rattle.points_to.specs.States.{Moves}
use Rattle.points_to.proofs.constraints.receive.Goals as goal

pub returns-clause-moved : goal.returns-clause-moved
returns-clause-moved c = on_ok_weaker c.flow_some.result (λ m s. subst (λ o. Moves s c.args.found.now c.flow_some.new.found (FlowsSome o (formal_at c.args.system.now c.args.t 0))) c.receiver_at-receiver.ensures (subst (λ o. Moves s c.args.found.now c.flow_some.new.found (FlowsSome c.receiver_at-receiver.result o)) c.formal_at-formal.ensures (m s))) c.flow_some.ensures.moved

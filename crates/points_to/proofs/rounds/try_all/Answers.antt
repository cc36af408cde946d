use Rattle.std.proofs.Common.{slice_get, length}
use Rattle.points_to.specs.Items.{OneOf, Below, IfSome}
use Rattle.points_to.specs.Rules.{call, Constrains, CallDoes}
use Rattle.points_to.proofs.Moving.{Moves-then}
use Rattle.points_to.proofs.rounds.try_all.Goals as goal

pub returns-clause-moved : goal.returns-clause-moved
returns-clause-moved c = Moves-then c.args.system.now c.args.found.now c.constrain_each.new.found c.call_each.new.found (OneOf (Constrains c.args.system.now) c.args.system.now.constraints) (Below (λ i. IfSome (CallDoes c.args.system.now (call i)) (slice_get c.args.system.now.calls i)) (length c.args.system.now.calls)) c.in_ok-constrain_each.ensures.moved c.in_ok-call_each.ensures.moved

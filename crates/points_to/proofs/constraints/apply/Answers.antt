use Rattle.std.proofs.Common.{subst, sym}
use Rattle.std.proofs.lemmas.Result.{on_ok_weaker}
use Rattle.points_to.specs.Rules.{Does}
use Rattle.points_to.specs.States.{Moves}
use Rattle.points_to.proofs.constraints.apply.Goals as goal

pub returns-in-Direct-clause-moved : goal.returns-in-Direct-clause-moved
returns-in-Direct-clause-moved c = on_ok_weaker c.direct_call.result (λ m. subst (λ r. Moves c.args.system.now c.args.found.now c.direct_call.new.found (Does c.args.system.now r)) (sym c.in-Direct.is) (m c.args.system.now)) c.direct_call.ensures.moved

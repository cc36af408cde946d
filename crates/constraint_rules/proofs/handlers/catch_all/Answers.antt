use Rattle.constraint_rules.specs.Handlers.{IsCatchAll}
use Rattle.constraint_rules.proofs.Passing.{one_passed, all_passed}
use Rattle.constraint_rules.proofs.handlers.catch_all.Goals as goal

pub loop-handler-preserved : goal.loop-handler-preserved
loop-handler-preserved c = one_passed (IsCatchAll c.args.pc) c.args.handlers.now c.loop-handler.handler-index c.is_catch_all.result _ c.loop-handler-test.true c.if-is_catch_all.false c.is_catch_all.ensures c.loop-handler.invariant

pub returns : goal.returns
returns c = (λ e. absurd (cc e), λ h. absurd (all_passed (IsCatchAll c.args.pc) c.args.handlers.now c.loop-handler.handler-index c.loop-handler-test.false c.loop-handler.invariant h.0 h.1 h.2))

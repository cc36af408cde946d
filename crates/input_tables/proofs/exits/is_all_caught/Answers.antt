use Rattle.input_tables.specs.Exits.{IsCatchAll}
use Rattle.input_tables.proofs.Passing.{all_passed, one_passed}
use Rattle.input_tables.proofs.exits.is_all_caught.Goals as goal

pub loop-handler-preserved : goal.loop-handler-preserved
loop-handler-preserved c = one_passed (IsCatchAll c.args.pc) c.args.handlers.now c.loop-handler.handler-index c.is_catch_all.result _ c.loop-handler-test.true c.if-is_catch_all.false c.is_catch_all.ensures c.loop-handler.invariant

pub returns : goal.returns
returns c = (λ e. absurd (cc e), λ h. absurd (all_passed (IsCatchAll c.args.pc) c.args.handlers.now c.loop-handler.handler-index c.loop-handler-test.false c.loop-handler.invariant h.0 h.1 h.2))

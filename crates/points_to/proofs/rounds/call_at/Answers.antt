use Rattle.std.proofs.Common.{arith}
use Rattle.std.proofs.lemmas.Result.{on_ok_weaker}
use Rattle.points_to.specs.Rules.{call, CallDoes}
use Rattle.points_to.proofs.Moving.{Moves-got, Moves-got_none}
use Rattle.points_to.proofs.rounds.call_at.Goals as goal

pub returns-in-None-clause-moved : goal.returns-in-None-clause-moved
returns-in-None-clause-moved c = Moves-got_none c.args.system.now c.args.found.now (CallDoes c.args.system.now (call c.args.number)) c.args.system.now.calls c.items.result.now c.args.number c.items.ensures (grind (arith, c.in-None.ensures.lookup.0))

pub returns-in-Some-clause-moved : goal.returns-in-Some-clause-moved
returns-in-Some-clause-moved c = on_ok_weaker c.call_rules.result (λ m. Moves-got c.args.system.now c.args.found.now c.call_rules.new.found (CallDoes c.args.system.now (call c.args.number)) c.args.system.now.calls c.items.result.now c.args.number c.in-Some.call.now c.items.ensures (grind (arith, c.in-Some.ensures.lookup.0)) c.in-Some.ensures.lookup.1 m) c.call_rules.ensures.moved

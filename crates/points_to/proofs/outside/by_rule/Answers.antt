use Rattle.std.proofs.Common.{arith}
use Rattle.std.proofs.lemmas.Result.{on_ok_weaker}
use Rattle.points_to.specs.Rules.{OutsideDoes}
use Rattle.points_to.proofs.Moving.{Moves-got, Moves-got_none}
use Rattle.points_to.proofs.outside.by_rule.Goals as goal

pub returns-in-None-clause-moved : goal.returns-in-None-clause-moved
returns-in-None-clause-moved c = λ s. Moves-got_none s c.args.found.now (OutsideDoes c.args.system.now c.args.c c.args.call.now) c.args.system.now.outside_rules c.items.result.now c.args.c.0 c.items.ensures (grind (arith, c.in-None.ensures.lookup.0))

pub returns-in-Some-clause-moved : goal.returns-in-Some-clause-moved
returns-in-Some-clause-moved c = on_ok_weaker c.outside_does.result (λ m s. Moves-got s c.args.found.now c.outside_does.new.found (OutsideDoes c.args.system.now c.args.c c.args.call.now) c.args.system.now.outside_rules c.items.result.now c.args.c.0 c.in-Some.rule.now c.items.ensures (grind (arith, c.in-Some.ensures.lookup.0)) c.in-Some.ensures.lookup.1 (m s)) c.outside_does.ensures.moved

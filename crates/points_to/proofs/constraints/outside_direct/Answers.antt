use Rattle.std.proofs.Common.{arith}
use Rattle.std.proofs.lemmas.Result.{on_ok_weaker}
use Rattle.points_to.specs.Rules.{GoesOutside}
use Rattle.points_to.proofs.Moving.{Moves-got, Moves-got_none}
use Rattle.points_to.proofs.constraints.outside_direct.Goals as goal

pub returns-in-None-clause-moved : goal.returns-in-None-clause-moved
returns-in-None-clause-moved c = λ s. Moves-got_none s c.args.found.now (GoesOutside c.args.c) c.args.system.now.calls c.items.result.now c.args.c.0 c.items.ensures (grind (arith, c.in-None.ensures.lookup.0))

pub returns-in-Some-clause-moved : goal.returns-in-Some-clause-moved
returns-in-Some-clause-moved c = on_ok_weaker c.go_outside.result (λ m s. Moves-got s c.args.found.now c.go_outside.new.found (GoesOutside c.args.c) c.args.system.now.calls c.items.result.now c.args.c.0 c.in-Some.call.now c.items.ensures (grind (arith, c.in-Some.ensures.lookup.0)) c.in-Some.ensures.lookup.1 (m s)) c.go_outside.ensures.moved

use Rattle.std.proofs.Common.{arith}
use Rattle.std.proofs.lemmas.Result.{on_ok_weaker}
use Rattle.points_to.specs.Rules.{Binds}
use Rattle.points_to.proofs.Moving.{Moves-got, Moves-got_none}
use Rattle.points_to.proofs.edges.join_one.Goals as goal

pub returns-in-None-clause-moved : goal.returns-in-None-clause-moved
returns-in-None-clause-moved c = λ s. Moves-got_none s c.args.found.now (Binds c.args.call.now) c.args.system.now.methods c.items.result.now c.args.target c.items.ensures (grind (arith, c.in-None.ensures.lookup.0))

pub returns-in-Some-clause-moved : goal.returns-in-Some-clause-moved
returns-in-Some-clause-moved c = on_ok_weaker c.bind.result (λ m s. Moves-got s c.args.found.now c.bind.new.found (Binds c.args.call.now) c.args.system.now.methods c.items.result.now c.args.target c.in-Some.method.now c.items.ensures (grind (arith, c.in-Some.ensures.lookup.0)) c.in-Some.ensures.lookup.1 (m s)) c.bind.ensures.moved

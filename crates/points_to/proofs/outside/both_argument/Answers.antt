use Rattle.std.proofs.lemmas.Result.{on_ok_weaker}
use Rattle.points_to.specs.Rules.{Both, IsArgumentPlace}
use Rattle.points_to.proofs.Moving.{Moves-that, Moves-those_none}
use Rattle.points_to.proofs.Looking.{none_of, some_of, one_of}
use Rattle.points_to.proofs.outside.both_argument.Goals as goal

pub returns-in-None-clause-moved : goal.returns-in-None-clause-moved
returns-in-None-clause-moved c = λ s. Moves-those_none s c.args.found.now (IsArgumentPlace c.args.c c.args.call.now c.args.argument) (Both c.args.system.now c.args.to) (none_of c.argument_place.result (IsArgumentPlace c.args.c c.args.call.now c.args.argument) c.argument_place.ensures c.in-None.is)

pub returns-in-Some-clause-moved : goal.returns-in-Some-clause-moved
returns-in-Some-clause-moved c = on_ok_weaker c.both.result (λ m s. Moves-that s c.args.found.now c.both.new.found (IsArgumentPlace c.args.c c.args.call.now c.args.argument) (Both c.args.system.now c.args.to) c.in-Some.from (some_of c.argument_place.result (IsArgumentPlace c.args.c c.args.call.now c.args.argument) c.in-Some.from c.argument_place.ensures c.in-Some.is) (one_of c.argument_place.result (IsArgumentPlace c.args.c c.args.call.now c.args.argument) c.in-Some.from c.argument_place.ensures c.in-Some.is) (m s)) c.both.ensures.moved

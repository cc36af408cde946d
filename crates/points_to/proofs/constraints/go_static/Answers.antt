use Rattle.std.proofs.Common.{arith, ◌≡◌, false}
use Rattle.std.proofs.lemmas.Result.{on_ok_weaker}
use Rattle.points_to.specs.declared.place.Place.TheVariants.{Static}
use Rattle.points_to.specs.Items.{Adds}
use Rattle.points_to.proofs.Moving.{Moves-where, Moves-not_where}
use Rattle.points_to.proofs.constraints.go_static.Goals as goal

pub returns-then-call-clause-moved : goal.returns-then-call-clause-moved
returns-then-call-clause-moved c = λ s. Moves-not_where s c.args.found.now (c.args.call.now.instance ≡ false) (Adds (Static c.args.c) 0) (λ e. grind (arith, e, c.if-call.true))

pub returns-else-call-clause-moved : goal.returns-else-call-clause-moved
returns-else-call-clause-moved c = on_ok_weaker c.give.result (λ m s. Moves-where s c.args.found.now c.give.new.found (c.args.call.now.instance ≡ false) (Adds (Static c.args.c) 0) c.if-call.false (m s)) c.give.ensures.moved

use Rattle.std.proofs.Common.{slice_get}
use Rattle.std.proofs.lemmas.Result.{on_ok_weaker}
use Rattle.std.proofs.lemmas.Bool.{iff_false}
use Rattle.points_to.specs.Items.{Or, IfSome}
use Rattle.points_to.specs.Rules.{OutsideDoes, Freshens}
use Rattle.points_to.proofs.Moving.{Moves-if_outside, Moves-not_outside}
use Rattle.points_to.proofs.outside.go_if.Goals as goal

pub returns-then-gone-clause-moved : goal.returns-then-gone-clause-moved
returns-then-gone-clause-moved c = on_ok_weaker c.go_outside.result (λ m s. Moves-if_outside s c.args.found.now c.go_outside.new.found c.args.c (Or (Freshens c.args.call.now) (IfSome (OutsideDoes c.args.system.now c.args.c c.args.call.now) (slice_get c.args.system.now.outside_rules c.args.c.0))) (c.requires.gone.0 c.if-gone.true) (m s)) c.go_outside.ensures.moved

pub returns-else-gone-clause-moved : goal.returns-else-gone-clause-moved
returns-else-gone-clause-moved c = λ s. Moves-not_outside s c.args.found.now c.args.c (Or (Freshens c.args.call.now) (IfSome (OutsideDoes c.args.system.now c.args.c c.args.call.now) (slice_get c.args.system.now.outside_rules c.args.c.0))) (iff_false c.requires.gone c.if-gone.false)

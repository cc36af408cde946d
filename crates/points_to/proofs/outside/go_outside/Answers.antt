use Rattle.std.proofs.Common.{slice_get}
use Rattle.points_to.specs.Items.{IfSome}
use Rattle.points_to.specs.Rules.{OutsideDoes, Freshens}
use Rattle.points_to.proofs.Moving.{Moves-then}
use Rattle.points_to.proofs.outside.go_outside.Goals as goal

pub returns-clause-moved : goal.returns-clause-moved
returns-clause-moved c = λ s. Moves-then s c.args.found.now c.freshen.new.found c.by_rule.new.found (Freshens c.args.call.now) (IfSome (OutsideDoes c.args.system.now c.args.c c.args.call.now) (slice_get c.args.system.now.outside_rules c.args.c.0)) (c.in_ok-freshen.ensures.moved s) (c.in_ok-by_rule.ensures.moved s)

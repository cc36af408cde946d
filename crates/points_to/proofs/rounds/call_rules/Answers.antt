use Rattle.points_to.specs.declared.place.Place.TheVariants.{Targets}
use Rattle.points_to.specs.Items.{Each}
use Rattle.points_to.specs.Rules.{Joins, OutsideCall}
use Rattle.points_to.proofs.Moving.{Moves-then}
use Rattle.points_to.proofs.rounds.call_rules.Goals as goal

pub returns-clause-moved : goal.returns-clause-moved
returns-clause-moved c = Moves-then c.args.system.now c.args.found.now c.join_all.new.found c.outside_call.new.found (Each (Targets c.args.c) (Joins c.args.system.now c.args.call.now)) (OutsideCall c.args.system.now c.args.c c.args.call.now) (c.in_ok-join_all.ensures.moved c.args.system.now) (c.in_ok-outside_call.ensures.moved c.args.system.now)

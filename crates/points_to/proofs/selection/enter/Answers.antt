use Rattle.points_to.specs.declared.place.Place.TheVariants.{Targets, Running}
use Rattle.points_to.specs.Items.{Adds}
use Rattle.points_to.proofs.Moving.{Moves-then}
use Rattle.points_to.proofs.selection.enter.Goals as goal

pub returns-clause-moved : goal.returns-clause-moved
returns-clause-moved c = λ s. Moves-then s c.args.found.now c.give.new.found c.give-2.new.found (Adds (Targets c.args.c) c.args.t.0) (Adds Running c.args.t.0) (c.in_ok-give.ensures.moved s) (c.in_ok-give-2.ensures.moved s)

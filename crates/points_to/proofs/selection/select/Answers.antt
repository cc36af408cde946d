use Rattle.points_to.specs.declared.place.Place.TheVariants.{Variable}
use Rattle.points_to.specs.Items.{Adds, IfSome}
use Rattle.points_to.specs.Rules.{formal_at, Enters}
use Rattle.points_to.proofs.Moving.{Moves-then}
use Rattle.points_to.proofs.selection.select.Goals as goal

pub returns-clause-moved : goal.returns-clause-moved
returns-clause-moved c = λ s. Moves-then s c.args.found.now c.enter.new.found c.receive.new.found (Enters c.args.c c.args.t) (IfSome (λ v. Adds (Variable v) c.args.object) (formal_at c.args.system.now c.args.t 0)) (c.in_ok-enter.ensures.moved s) (c.in_ok-receive.ensures.moved s)

use Rattle.points_to.specs.declared.place.Place.TheVariants.{Cell}
use Rattle.points_to.specs.Items.{Flows, Each, IfSome}
use Rattle.points_to.specs.Rules.{site, state_of}
use Rattle.points_to.proofs.Moving.{Moves-then}
use Rattle.points_to.proofs.outside.both.Goals as goal

pub returns-clause-moved : goal.returns-clause-moved
returns-clause-moved c = λ s. Moves-then s c.args.found.now c.flow.new.found c.states_to.new.found (Flows c.args.from c.args.to) (Each c.args.from (λ b. IfSome (λ f. Flows (Cell (site b) f) c.args.to) (state_of c.args.system.now b))) (c.in_ok-flow.ensures.moved s) (c.in_ok-states_to.ensures.moved s)

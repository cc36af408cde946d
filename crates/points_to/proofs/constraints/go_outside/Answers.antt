use Rattle.std.proofs.Common.{◌≡◌, false}
use Rattle.points_to.specs.declared.place.Place.TheVariants.{Variable, Receivers, Static}
use Rattle.points_to.specs.Items.{Adds, Flows, Where, IfSome}
use Rattle.points_to.specs.Rules.{receiver_of}
use Rattle.points_to.proofs.Moving.{Moves-then}
use Rattle.points_to.proofs.constraints.go_outside.Goals as goal

pub returns-clause-moved : goal.returns-clause-moved
returns-clause-moved c = λ s. Moves-then s c.args.found.now c.go_static.new.found c.go_receiver.new.found (Where (c.args.call.now.instance ≡ false) (Adds (Static c.args.c) 0)) (IfSome (λ v. Flows (Variable v) (Receivers c.args.c)) (receiver_of c.args.call.now)) (c.in_ok-go_static.ensures.moved s) (c.in_ok-go_receiver.ensures.moved s)

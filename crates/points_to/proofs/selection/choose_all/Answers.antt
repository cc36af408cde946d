use Rattle.std.proofs.Common.{subst}
use Rattle.std.proofs.lemmas.Result.{on_ok_weaker}
use Rattle.points_to.specs.declared.place.Place.TheVariants.{Variable}
use Rattle.points_to.specs.Items.{OneOf}
use Rattle.points_to.specs.Rules.{Chooses}
use Rattle.points_to.specs.States.{Moves}
use Rattle.points_to.proofs.Moving.{Moves-each}
use Rattle.points_to.proofs.selection.choose_all.Goals as goal

pub returns-clause-moved : goal.returns-clause-moved
returns-clause-moved c = on_ok_weaker c.choose_each.result (λ m. Moves-each c.args.system.now c.args.found.now c.choose_each.new.found (Variable c.args.v) (Chooses c.args.system.now c.args.c c.args.signature) c.in_ok-sites.sites.items c.in_ok-sites.ensures (subst (λ xs. Moves c.args.system.now c.args.found.now c.choose_each.new.found (OneOf (Chooses c.args.system.now c.args.c c.args.signature) xs)) c.as_slice.ensures.value m)) c.choose_each.ensures.moved

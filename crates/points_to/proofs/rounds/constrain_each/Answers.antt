use Rattle.std.proofs.Common.{subst}
use Rattle.std.proofs.lemmas.Result.{on_ok_weaker}
use Rattle.points_to.specs.Items.{OneOf}
use Rattle.points_to.specs.Rules.{Constrains}
use Rattle.points_to.specs.States.{Moves}
use Rattle.points_to.proofs.rounds.constrain_each.Goals as goal

pub returns-clause-moved : goal.returns-clause-moved
returns-clause-moved c = on_ok_weaker c.constrain_list.result (λ m. subst (λ xs. Moves c.args.system.now c.args.found.now c.constrain_list.new.found (OneOf (Constrains c.args.system.now) xs)) c.items.ensures m) c.constrain_list.ensures.moved

use Rattle.std.proofs.lemmas.Result.{on_ok_weaker}
use Rattle.slicer_ids.specs.declared.ids.SiteId.{SiteId}
use Rattle.points_to.specs.declared.place.Place.TheVariants.{Variable}
use Rattle.points_to.specs.Items.{Adds, IfSome}
use Rattle.points_to.proofs.Moving.{Moves-if_some}
use Rattle.points_to.proofs.outside.freshen.Goals as goal

pub returns-in-Some-clause-moved : goal.returns-in-Some-clause-moved
returns-in-Some-clause-moved c = on_ok_weaker c.freshen_to.result (λ m s. Moves-if_some s c.args.found.now c.freshen_to.new.found (λ v. IfSome (λ (h : SiteId). Adds (Variable v) h.0) c.args.call.now.fresh) c.args.call.now.result c.in-Some.v c.in-Some.is (m s)) c.freshen_to.ensures.moved

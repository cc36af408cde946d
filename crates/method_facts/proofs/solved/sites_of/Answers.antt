use Rattle.slicer_ids.specs.Order.{SiteBefore}
use Rattle.dep_form.specs.PointsTo.{Has}
use Rattle.dep_form.specs.Constraints.{SystemHolds}
use Rattle.mod_ref.proofs.Members.{members}
use Rattle.method_facts.proofs.solved.sites_of.Goals as goal

pub returns : goal.returns
returns c = λ s h solved. members SiteBefore c.sites.result.now (λ h. SystemHolds s (Has c.args.v h)) (solved.sites c.args.v c.sites.result.now c.sites.ensures) h

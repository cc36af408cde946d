use Rattle.std.proofs.Common.{◌≡◌}
use Rattle.edge_tables.specs.Links.{IsLinkTo}
use Rattle.mod_ref.proofs.Gaining.{gains_first, gains_more, gains_all}
use Rattle.edge_tables.proofs.links.add_targets.Goals as goal

pub loop-target-init : goal.loop-target-init
loop-target-init c = gains_first (IsLinkTo c.args.by_target c.args.number c.args.place) c.args.targets.now c.args.links.now.items

pub loop-target-preserved : goal.loop-target-preserved
loop-target-preserved c = gains_more (IsLinkTo c.args.by_target c.args.number c.args.place) c.args.targets.now c.loop-target.target-index _ c.args.links.now.items c.loop-target.links.items c.add_target.new.links.items c.loop-target-test.true c.loop-target.invariant c.in_ok-add_target.ensures

pub returns : goal.returns
returns c = gains_all (IsLinkTo c.args.by_target c.args.number c.args.place) c.args.targets.now c.loop-target.target-index c.args.links.now.items c.loop-target.links.items c.loop-target-test.false c.loop-target.invariant

use Rattle.std.proofs.Common.{◌≡◌}
use Rattle.input_tables.specs.Effects.{AtCell}
use Rattle.mod_ref.proofs.Gaining.{gains_first, gains_more, gains_all}
use Rattle.input_tables.proofs.touches.add_cells.Goals as goal

pub loop-site-init : goal.loop-site-init
loop-site-init c = gains_first (AtCell c.args.scene.now.effects.now c.args.field c.args.at) c.args.sites.now c.args.effects.now.items

pub loop-site-preserved : goal.loop-site-preserved
loop-site-preserved c = gains_more (AtCell c.args.scene.now.effects.now c.args.field c.args.at) c.args.sites.now c.loop-site.site-index _ c.args.effects.now.items c.loop-site.effects.items c.add_location.new.effects.items c.loop-site-test.true c.loop-site.invariant c.in_ok-add_location.ensures

pub returns : goal.returns
returns c = gains_all (AtCell c.args.scene.now.effects.now c.args.field c.args.at) c.args.sites.now c.loop-site.site-index c.args.effects.now.items c.loop-site.effects.items c.loop-site-test.false c.loop-site.invariant

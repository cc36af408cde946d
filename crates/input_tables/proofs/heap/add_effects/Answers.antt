use Rattle.std.proofs.Common.{◌≡◌}
use Rattle.input_tables.specs.Uses.{IsEffectUse}
use Rattle.mod_ref.proofs.Gaining.{gains_first, gains_more, gains_all}
use Rattle.input_tables.proofs.heap.add_effects.Goals as goal

pub loop-effect-init : goal.loop-effect-init
loop-effect-init c = gains_first (IsEffectUse c.args.points.now c.args.first c.args.row.now c.args.answered) c.args.effects.now c.args.uses.now.items

pub loop-effect-preserved : goal.loop-effect-preserved
loop-effect-preserved c = gains_more (IsEffectUse c.args.points.now c.args.first c.args.row.now c.args.answered) c.args.effects.now c.loop-effect.effect-index _ c.args.uses.now.items c.loop-effect.uses.items c.add_effect.new.uses.items c.loop-effect-test.true c.loop-effect.invariant c.in_ok-add_effect.ensures

pub returns : goal.returns
returns c = gains_all (IsEffectUse c.args.points.now c.args.first c.args.row.now c.args.answered) c.args.effects.now c.loop-effect.effect-index c.args.uses.now.items c.loop-effect.uses.items c.loop-effect-test.false c.loop-effect.invariant

use Rattle.std.proofs.Common.{◌≡◌}
use Rattle.input_tables.specs.Control.{IsStepTo}
use Rattle.mod_ref.proofs.Gaining.{gains_first, gains_more, gains_all}
use Rattle.input_tables.proofs.flow.add_pcs.Goals as goal

pub loop-pc-init : goal.loop-pc-init
loop-pc-init c = gains_first (IsStepTo c.args.points.now c.args.from) c.args.pcs.now c.args.steps.now.items

pub loop-pc-preserved : goal.loop-pc-preserved
loop-pc-preserved c = gains_more (IsStepTo c.args.points.now c.args.from) c.args.pcs.now c.loop-pc.pc-index _ c.args.steps.now.items c.loop-pc.steps.items c.add_pc.new.steps.items c.loop-pc-test.true c.loop-pc.invariant c.in_ok-add_pc.ensures

pub returns : goal.returns
returns c = gains_all (IsStepTo c.args.points.now c.args.from) c.args.pcs.now c.loop-pc.pc-index c.args.steps.now.items c.loop-pc.steps.items c.loop-pc-test.false c.loop-pc.invariant

use Rattle.input_tables.specs.Edges.{IsRaise}
use Rattle.mod_ref.proofs.Gaining.{gains_first, gains_more, gains_all}
use Rattle.input_tables.proofs.raises.add_handlers.Goals as goal

pub loop-h-init : goal.loop-h-init
loop-h-init c = gains_first (IsRaise c.args.q) c.args.handlers.now c.args.steps.now.items

pub loop-h-preserved : goal.loop-h-preserved
loop-h-preserved c = gains_more (IsRaise c.args.q) c.args.handlers.now c.loop-h.h-index _ c.args.steps.now.items c.loop-h.steps.items c.add_handler.new.steps.items c.loop-h-test.true c.loop-h.invariant c.in_ok-add_handler.ensures

pub returns : goal.returns
returns c = gains_all (IsRaise c.args.q) c.args.handlers.now c.loop-h.h-index c.args.steps.now.items c.loop-h.steps.items c.loop-h-test.false c.loop-h.invariant

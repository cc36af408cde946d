use Rattle.std.proofs.Common.{◌⊎◌, length, false}
use Rattle.worklists.specs.Growth.{FromOne}
use Rattle.worklists.proofs.Growing.{FromBelow}
use Rattle.input_tables.specs.declared.outside.Way.TheVariants.{Copies}
use Rattle.input_tables.specs.Effects.{AtNumber, AtTouch}
use Rattle.input_tables.proofs.Collecting.{both_collected}
use Rattle.input_tables.proofs.gathering.gets.Goals as goal

pub returns : goal.returns
returns c = both_collected (FromOne (AtTouch c.args.scene.now.system.now c.args.scene.now.effects.now false) c.args.scene.now.system.now.touches) (FromBelow (AtNumber c.args.scene.now.system.now c.args.scene.now.effects.now Copies) (length c.args.scene.now.system.now.calls)) c.new-effects.result.items c.add_touches.new.effects.items c.add_calls.new.effects.items c.in_order.result.items c.new-effects.ensures.items
    c.in_ok-add_touches.ensures c.in_ok-add_calls.ensures c.in_order.ensures.order c.in_order.ensures.members

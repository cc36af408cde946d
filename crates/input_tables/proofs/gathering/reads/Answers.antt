use Rattle.std.proofs.Common.{length}
use Rattle.worklists.proofs.Growing.{FromBelow}
use Rattle.input_tables.specs.declared.outside.Way.TheVariants.{Reads}
use Rattle.input_tables.specs.Effects.{AtNumber}
use Rattle.input_tables.proofs.Collecting.{collected}
use Rattle.input_tables.proofs.gathering.reads.Goals as goal

pub returns : goal.returns
returns c = collected (FromBelow (AtNumber c.args.scene.now.system.now c.args.scene.now.effects.now Reads) (length c.args.scene.now.system.now.calls)) c.new-effects.result.items c.add_calls.new.effects.items c.in_order.result.items c.new-effects.ensures.items c.in_ok-add_calls.ensures c.in_order.ensures.order c.in_order.ensures.members

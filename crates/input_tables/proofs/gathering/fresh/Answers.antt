use Rattle.std.proofs.Common.{length}
use Rattle.worklists.proofs.Growing.{FromBelow}
use Rattle.input_tables.specs.declared.outside.Way.TheVariants.{Reads}
use Rattle.input_tables.specs.Effects.{AtFresh}
use Rattle.input_tables.proofs.Collecting.{collected}
use Rattle.input_tables.proofs.gathering.fresh.Goals as goal

pub returns : goal.returns
returns c = collected (FromBelow (AtFresh c.args.scene.now.system.now c.args.scene.now.effects.now) (length c.args.scene.now.system.now.sites)) c.new-effects.result.items c.add_fresh.new.effects.items c.in_order.result.items c.new-effects.ensures.items c.in_ok-add_fresh.ensures c.in_order.ensures.order c.in_order.ensures.members

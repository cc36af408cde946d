use Rattle.std.proofs.Common.{true, false}
use Rattle.worklists.specs.Growth.{FromOne}
use Rattle.input_tables.specs.Uses.{IsCalleeUse, IsEffectUse}
use Rattle.input_tables.proofs.MethodUses.{three_gained}
use Rattle.input_tables.proofs.heap.all_of.Goals as goal

pub returns : goal.returns
returns c = three_gained (FromOne (IsEffectUse c.args.points.now c.args.first c.args.row.now false) c.args.own.now) (FromOne (IsEffectUse c.args.points.now c.args.first c.args.row.now true) c.args.results.now) (FromOne (IsCalleeUse c.args.points.now c.args.first c.args.row.now c.args.write) c.args.row.now)
    c.new-uses.result.items c.add_effects.new.uses.items c.add_effects-2.new.uses.items c.add_callees.new.uses.items c.new-uses.ensures.items c.in_ok-add_effects.ensures c.in_ok-add_effects-2.ensures c.in_ok-add_callees.ensures

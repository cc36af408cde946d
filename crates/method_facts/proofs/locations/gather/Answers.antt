use Rattle.std.proofs.Common.{◌≡◌}
use Rattle.worklists.specs.Growth.{FromOne}
use Rattle.method_facts.specs.Numbers.{HasNumber}
use Rattle.mod_ref.proofs.Gaining.{gains_first, gains_more, gains_all, gained}
use Rattle.method_facts.proofs.locations.gather.Goals as goal

pub loop-m-init : goal.loop-m-init
loop-m-init c = gains_first (HasNumber c.args.lists.now) c.args.methods.now c.new-all.result.items

pub loop-m-preserved : goal.loop-m-preserved
loop-m-preserved c = gains_more (HasNumber c.args.lists.now) c.args.methods.now c.loop-m.m-index _ c.new-all.result.items c.loop-m.all.items c.add_list.new.all.items c.loop-m-test.true c.loop-m.invariant c.in_ok-full.ensures

pub returns : goal.returns
returns c = gained c.new-all.result.items c.loop-m.all.items (FromOne (HasNumber c.args.lists.now) c.args.methods.now) c.new-all.ensures.items (gains_all (HasNumber c.args.lists.now) c.args.methods.now c.loop-m.m-index c.new-all.result.items c.loop-m.all.items c.loop-m-test.false c.loop-m.invariant)

use Rattle.std.proofs.Common.{subst, refl}
use Rattle.points_to.specs.Indexes.{AreGroupsOf}
use Rattle.points_to.proofs.Grouping.{no_groups, one_more}
use Rattle.std.proofs.lemmas.List.{take_all}
use Rattle.points_to.proofs.groups.grouped.Goals as goal

pub loop-entry-init : goal.loop-entry-init
loop-entry-init c = no_groups c.new-groups.result.items c.new-groups.ensures.items

pub loop-entry-preserved : goal.loop-entry-preserved
loop-entry-preserved c = one_more c.args.selects.now c.loop-entry.entry-index _ c.loop-entry.groups.items c.add.new.groups.items _ c.loop-entry-test.true refl refl c.loop-entry.invariant c.in_ok-add.ensures

pub returns : goal.returns
returns c = subst (λ xs. AreGroupsOf xs c.loop-entry.groups.items) (take_all c.loop-entry.entry-index c.args.selects.now c.loop-entry-test.false) c.loop-entry.invariant

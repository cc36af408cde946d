use Rattle.std.proofs.Common.{[]}
use Rattle.std.proofs.Common.{subst, sym, ◌∙◌, arith, refl}
use Rattle.points_to.specs.Indexes.{group_of}
use Rattle.points_to.proofs.Grouping.{group_read, group_past, Sorted, selected_is, nothing_selected}
use Rattle.points_to.proofs.index.selects.Goals as goal

pub selected-requires : goal.selected-requires
selected-requires c = subst Sorted (sym (c.as_slice.ensures.value ∙ group_read c.args.index.now.groups.items c.args.class.0 c.index.result.now (omega (arith, c.if-number-len.true, c.len.ensures)) c.index.ensures)) (c.requires.sorted c.args.class.0)

pub returns-then-number-len : goal.returns-then-number-len
returns-then-number-len c = selected_is c.selected.result.now c.as_slice.result.now (group_of c.args.index.now.groups.items c.args.class.0) c.args.system.now.selects c.args.class c.args.signature (c.as_slice.ensures.value ∙ group_read c.args.index.now.groups.items c.args.class.0 c.index.result.now (omega (arith, c.if-number-len.true, c.len.ensures)) c.index.ensures) (c.requires.groups c.args.class) c.selected.ensures

pub returns-else-number-len : goal.returns-else-number-len
returns-else-number-len c = nothing_selected [] (group_of c.args.index.now.groups.items c.args.class.0) c.args.system.now.selects c.args.class c.args.signature refl (group_past c.args.index.now.groups.items c.args.class.0 (omega (arith, c.if-number-len.false, c.len.ensures))) (c.requires.groups c.args.class)

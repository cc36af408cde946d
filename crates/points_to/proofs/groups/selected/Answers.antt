use Rattle.std.proofs.Common.{◌-◌, take, refl}
use Rattle.std.proofs.Common.{drop}
use Rattle.points_to.proofs.Grouping.{part_is}
use Rattle.points_to.proofs.groups.selected.Goals as goal

pub returns-then-first-end : goal.returns-then-first-end
returns-then-first-end c = part_is c.args.group.now c.args.signature c.first_of-first.result c.end_of-end.result c.first_of-first.ensures.before c.first_of-first.ensures.after c.end_of-end.ensures.before c.end_of-end.ensures.after c.end_of-end.ensures.bound (take (c.end_of-end.result - c.first_of-first.result) (drop c.first_of-first.result c.args.group.now)) refl c.if-first-end.true

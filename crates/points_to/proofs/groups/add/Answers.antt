use Rattle.std.proofs.Common.{◌++◌, ◌∷◌, []}
use Rattle.std.proofs.Common.{◌∙◌, ap, ◌≡◌}
use Rattle.points_to.specs.Indexes.{group_of}
use Rattle.points_to.proofs.Grouping.{group_read, select_added}
use Rattle.points_to.proofs.groups.add.Goals as goal

pub returns : goal.returns
returns c = let is : c.index_mut.result.now.items ≡ group_of c.widen.new.groups.items c.args.class.0 = group_read c.widen.new.groups.items c.args.class.0 c.index_mut.result.now c.in_ok-widen.ensures.len c.index_mut.ensures.value in
    select_added c.args.groups.now.items c.widen.new.groups.items c.args.class.0 c.args.select c.push.new.self c.in_ok-widen.ensures.same c.in_ok-widen.ensures.len (c.in_ok-push.ensures.items ∙ ap (λ xs. xs ++ c.args.select ∷ []) is)

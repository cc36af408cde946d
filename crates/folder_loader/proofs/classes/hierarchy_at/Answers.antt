use Rattle.std.proofs.Common.{rules, inl, inr}
use Rattle.folder_loader.proofs.Told.{ok_tree}
use Rattle.folder_loader.proofs.classes.hierarchy_at.Goals as goal

pub returns-in_err-classes-clause-refused : goal.returns-in_err-classes-clause-refused
returns-in_err-classes-clause-refused c = λ line e. inl (c.classes_at.ensures.refused line (search rules))

pub returns-clause-tree : goal.returns-clause-tree
returns-clause-tree c = ok_tree c.args.contents.now c.in_ok-classes.classes.items c.hierarchy_of.result c.in_ok-classes.ensures.sound c.hierarchy_of.ensures.tree

pub returns-clause-refused : goal.returns-clause-refused
returns-clause-refused c = λ line e.
    let r = c.hierarchy_of.ensures.refused line e in
    inr (c.in_ok-classes.classes.items, c.in_ok-classes.ensures.sound, r.0, r.1, r.2)

use Rattle.std.proofs.Common.{rules}
use Rattle.folder_loader.proofs.classes.hierarchy_of.Goals as goal

pub returns-in-Ok-clause-tree : goal.returns-in-Ok-clause-tree
returns-in-Ok-clause-tree c = c.in-Ok.ensures.ok

pub returns-in-Err-clause-refused : goal.returns-in-Err-clause-refused
returns-in-Err-clause-refused c = λ line e. (c.in-Err.error, c.in-Err.ensures.err, c.no_hierarchy.ensures.line line (search rules))

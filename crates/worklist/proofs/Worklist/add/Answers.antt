use Rattle.worklist.proofs.Marking.{worklist_add, grows_add}
use Rattle.worklist.proofs.Worklist.add.Goals as goal

pub returns-clause-set : goal.returns-clause-set
returns-clause-set c = rw (c.in_ok-mark.ensures.marks, c.in_ok-mark.ensures.items) (worklist_add c.args.self.now.marks.items c.args.self.now.items.items c.args.number c.requires.within c.requires.set)

pub returns-clause-grown : goal.returns-clause-grown
returns-clause-grown c = rw c.in_ok-mark.ensures.items (grows_add c.args.self.now.marks.items c.args.self.now.items.items c.args.number c.requires.within c.requires.set)

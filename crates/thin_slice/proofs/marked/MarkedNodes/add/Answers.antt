use Rattle.std.proofs.Common.{ap, arith, true, length, length-set}
use Rattle.thin_slice.proofs.Marking.{listed_add, grows_add}
use Rattle.thin_slice.specs.Marks.{found}
use Rattle.thin_slice.proofs.marked.MarkedNodes.add.Goals as goal

pub returns-clause-set : goal.returns-clause-set
returns-clause-set c = record {
  room = omega (arith, c.mark.ensures.room, c.requires.set.room, length-set c.args.self.now.marks.items c.args.n.0 true, ap length c.mark.ensures.marks);
  set = rw (c.mark.ensures.marks, c.mark.ensures.found) (listed_add c.args.self.now.marks.items (found c.args.self.now) c.args.n c.requires.within c.requires.set.set);
  count = c.mark.ensures.count;
}

pub returns-clause-grown : goal.returns-clause-grown
returns-clause-grown c = rw c.mark.ensures.found (grows_add c.args.self.now.marks.items (found c.args.self.now) c.args.n c.requires.within c.requires.set.set)

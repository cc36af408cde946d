use Rattle.reaching_defs.proofs.Spreading.{grows_formal}
use Rattle.reaching_defs.proofs.spread.begin_formal.Goals as goal

pub returns-clause-grown : goal.returns-clause-grown
returns-clause-grown c = grows_formal c.args.frame.now c.args.number c.args.slot c.args.found.now.items.items c.add.new.found.items.items c.requires.start c.in_ok-add.ensures.grown

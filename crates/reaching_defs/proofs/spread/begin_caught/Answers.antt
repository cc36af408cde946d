use Rattle.std.proofs.Common.{inr, refl}
use Rattle.reaching_defs.proofs.Spreading.{grows_caught}
use Rattle.reaching_defs.proofs.spread.begin_caught.Goals as goal

pub add-requires-clause-point : goal.add-requires-clause-point
add-requires-clause-point c = c.requires.frame.flow.goes c.requires.start.0.pc c.args.handler (c.requires.start.0, (c.requires.start.1, refl), inr c.requires.start.2)

pub returns-clause-grown : goal.returns-clause-grown
returns-clause-grown c = grows_caught c.args.frame.now c.args.handler c.args.slot c.requires.start.0 c.args.found.now.items.items c.add.new.found.items.items c.requires.start.1 c.requires.start.2 c.requires.start.3 c.in_ok-add.ensures.grown

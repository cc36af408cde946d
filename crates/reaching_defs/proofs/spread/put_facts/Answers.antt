use Rattle.std.proofs.Common.{arith}
use Rattle.reaching_defs.proofs.Windows.{no_facts}
use Rattle.reaching_defs.proofs.spread.put_facts.Goals as goal

pub returns-clause-grown : goal.returns-clause-grown
returns-clause-grown c = no_facts c.args.method.now.shape.now c.args.method.now.depth c.args.slot c.args.def c.args.facts.now.items c.requires.method.flow c.requires.method.depth (omega arith)

use Rattle.tabulate.proofs.Placing.{met_at, not_met}
use Rattle.tabulate.proofs.method.find_method.Goals as goal

pub returns-in-Some : goal.returns-in-Some
returns-in-Some c = met_at c.args.f.now c.args.methods.now.items c.requires.methods c.args.m.0 c.requires.method c.index.result.now c.index.ensures c.in-Some.method c.in-Some.is

pub returns-in-None : goal.returns-in-None
returns-in-None c = not_met c.args.f.now c.args.methods.now.items c.requires.methods c.args.m.0 c.requires.method c.index.result.now c.index.ensures c.in-None.is

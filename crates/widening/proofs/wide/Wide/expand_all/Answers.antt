use Rattle.widening.proofs.StartLaws.{sliced_on}
use Rattle.widening.proofs.wide.Wide.expand_all.Goals as goal

pub widened-requires-clause-sliced : goal.widened-requires-clause-sliced
widened-requires-clause-sliced g c = (c.args.self.now.seeds.items, c.requires.wide)

pub returns-in_err-next-clause-wide : goal.returns-in_err-next-clause-wide
returns-in_err-next-clause-wide g c = sliced_on c.args.f.now c.args.self.now.seeds.items c.args.self.now.methods.items c.widened.new.methods.items c.args.self.now.state c.widened.ensures.methods.0 c.widened.ensures.methods.1 c.requires.wide

pub returns-in_err-next-clause-within : goal.returns-in_err-next-clause-within
returns-in_err-next-clause-within g c = c.widened.ensures.within c.args.self.now.seeds.items c.requires.wide

pub returns-clause-wide : goal.returns-clause-wide
returns-clause-wide g c = c.in_ok-next.ensures.sliced c.args.self.now.seeds.items c.requires.wide

pub returns-clause-turns : goal.returns-clause-turns
returns-clause-turns g c = c.in_ok-next.ensures.turns c.args.self.now.seeds.items c.requires.wide

pub returns-clause-within : goal.returns-clause-within
returns-clause-within g c = c.widened.ensures.within c.args.self.now.seeds.items c.requires.wide

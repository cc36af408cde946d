use Rattle.widening.specs.Widened.{expansions_of}
use Rattle.sessions.proofs.Widening.{widened_on, all_listed, turns_by}
use Rattle.sessions.proofs.widened.Widened.widen_by.Goals as goal

pub returns-in_err-expand-clause-widened : goal.returns-in_err-expand-clause-widened
returns-in_err-expand-clause-widened g c = widened_on c.args.f.now c.args.self.now c.requires.widened c.expand.new.wide c.expand.ensures.wide c.in_err-expand.ensures.unchanged

pub returns-clause-widened : goal.returns-clause-widened
returns-clause-widened g c = record {
  wide = c.expand.ensures.wide;
  order = c.requires.order;
  accesses = all_listed c.args.f.now c.args.self.now c.requires.widened c.args.more.now c.args.all.items c.requires.more (expansions_of c.expand.new.wide) c.in_ok-expand.ensures.expansions;
}

pub returns-clause-turns : goal.returns-clause-turns
returns-clause-turns g c = turns_by c.args.f.now c.args.self.now c.requires.widened c.args.more.now c.args.all.items c.requires.more c.args.steps.now c.expand.new.steps c.in_ok-expand.ensures.turns

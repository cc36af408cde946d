use Rattle.session_walk.proofs.Given.{seen_is}
use Rattle.session_walk.proofs.seen.PassViewSeenGraphs.seen.Goals as goal

pub returns : goal.returns
returns c = seen_is c.args.self.now.facts.now c.args.self.now.pass.now c.args.m c.seen.result c.requires.sound.inputs c.requires.inside c.seen.ensures

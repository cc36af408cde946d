use Rattle.std.proofs.lemmas.List.Elements.{Contains-get_or}
use Rattle.worklists.proofs.Growing.{Grows-more}
use Rattle.widening.specs.Marks.{PassesTo}
use Rattle.widening.proofs.passing.pass_each.Goals as goal

pub loop-argument-preserved : goal.loop-argument-preserved
loop-argument-preserved c = Grows-more (PassesTo c.args.f.now c.args.found.now.items c.args.number) c.args.arguments.now c.loop-argument.argument-index _ c.args.into.now.items c.loop-argument.into.items c.pass_one.new.into.items c.loop-argument-test.true c.loop-argument.invariant c.in_ok-pass_one.ensures

pub pass_one-requires-clause-argument : goal.pass_one-requires-clause-argument
pass_one-requires-clause-argument c = c.requires.arguments _ (Contains-get_or c.args.arguments.now c.loop-argument.argument-index _ c.loop-argument-test.true)

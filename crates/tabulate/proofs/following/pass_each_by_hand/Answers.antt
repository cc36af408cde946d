use Rattle.std.proofs.Common.{refl, ◌≤◌, length, ◌∙◌, arith}
use Rattle.std.proofs.lemmas.List.Elements.{Contains-get_or}
use Rattle.tabulate.specs.Rules.{PassesByHand}
use Rattle.tabulate.proofs.Going.{goes_start, goes_more, goes_whole}
use Rattle.tabulate.proofs.RulesGrow.{by_hand_grow}
use Rattle.tabulate.proofs.following.pass_each_by_hand.Goals as goal

pub loop-argument-init : goal.loop-argument-init
loop-argument-init g c = record {
  goes = goes_start (PassesByHand c.args.f.now c.args.bits.now c.args.call c.args.delta.now) c.args.arguments.now c.args.f.now c.args.found.now.items c.args.queue.now.items c.args.steps.now c.requires.found c.requires.queue;
  turns = refl;
}

pub loop-argument-preserved : goal.loop-argument-preserved
loop-argument-preserved g c =
    let p = c.args.f.now in record {
      goes = goes_more (PassesByHand c.args.f.now c.args.bits.now c.args.call c.args.delta.now) c.args.arguments.now c.loop-argument.argument-index _ p _ _ _ _ _ _ _ _ _ (by_hand_grow p c.args.bits.now c.args.call c.args.delta.now _) c.loop-argument-test.true c.loop-argument.invariant.goes c.in_ok-pass_one_by_hand.ensures.goes;
      turns = omega (arith, c.loop-argument.invariant.turns, c.pass_one_by_hand.ensures.turns);
    }

pub returns-clause-goes : goal.returns-clause-goes
returns-clause-goes g c =
    let le : length c.args.arguments.now ≤ c.loop-argument.argument-index = omega (arith, c.loop-argument-test.false) in
    goes_whole (PassesByHand c.args.f.now c.args.bits.now c.args.call c.args.delta.now) c.args.arguments.now c.loop-argument.argument-index c.args.f.now _ _ _ _ _ _ le c.loop-argument.invariant.goes

pub pass_one_by_hand-requires-clause-opened : goal.pass_one_by_hand-requires-clause-opened
pass_one_by_hand-requires-clause-opened g c = c.loop-argument.invariant.goes.lens c.args.method.now.id.0 ∙ c.requires.opened

pub pass_one_by_hand-requires-clause-argument : goal.pass_one_by_hand-requires-clause-argument
pass_one_by_hand-requires-clause-argument g c = (c.requires.arguments _ (Contains-get_or c.args.arguments.now c.loop-argument.argument-index _ c.loop-argument-test.true)).0

pub pass_one_by_hand-requires-clause-within : goal.pass_one_by_hand-requires-clause-within
pass_one_by_hand-requires-clause-within g c = (c.requires.arguments _ (Contains-get_or c.args.arguments.now c.loop-argument.argument-index _ c.loop-argument-test.true)).1

pub pass_one_by_hand-requires-clause-home : goal.pass_one_by_hand-requires-clause-home
pass_one_by_hand-requires-clause-home g c = (c.requires.arguments _ (Contains-get_or c.args.arguments.now c.loop-argument.argument-index _ c.loop-argument-test.true)).2

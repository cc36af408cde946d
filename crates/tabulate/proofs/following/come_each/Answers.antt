use Rattle.std.proofs.Common.{refl, ◌≤◌, length, ◌∙◌, arith}
use Rattle.std.proofs.lemmas.List.Elements.{Contains-get_or}
use Rattle.tabulate.specs.Rules.{Comes}
use Rattle.tabulate.proofs.Going.{goes_start, goes_more, goes_whole}
use Rattle.tabulate.proofs.RulesGrow.{comes_grow}
use Rattle.tabulate.proofs.following.come_each.Goals as goal

pub loop-back-init : goal.loop-back-init
loop-back-init g c = record {
  goes = goes_start (Comes c.args.f.now c.args.formal c.args.call c.args.delta.now c.args.from) c.args.backs.now c.args.f.now c.args.found.now.items c.args.queue.now.items c.args.steps.now c.requires.found c.requires.queue;
  turns = refl;
}

pub loop-back-preserved : goal.loop-back-preserved
loop-back-preserved g c =
    let p = c.args.f.now in record {
      goes = goes_more (Comes c.args.f.now c.args.formal c.args.call c.args.delta.now c.args.from) c.args.backs.now c.loop-back.back-index _ p _ _ _ _ _ _ _ _ _ (comes_grow p c.args.formal c.args.call c.args.delta.now c.args.from _) c.loop-back-test.true c.loop-back.invariant.goes c.in_ok-come_one.ensures.goes;
      turns = omega (arith, c.loop-back.invariant.turns, c.come_one.ensures.turns);
    }

pub returns-clause-goes : goal.returns-clause-goes
returns-clause-goes g c =
    let le : length c.args.backs.now ≤ c.loop-back.back-index = omega (arith, c.loop-back-test.false) in
    goes_whole (Comes c.args.f.now c.args.formal c.args.call c.args.delta.now c.args.from) c.args.backs.now c.loop-back.back-index c.args.f.now _ _ _ _ _ _ le c.loop-back.invariant.goes

pub come_one-requires-clause-opened : goal.come_one-requires-clause-opened
come_one-requires-clause-opened g c = c.loop-back.invariant.goes.lens c.args.method.now.id.0 ∙ c.requires.opened

pub come_one-requires-clause-to : goal.come_one-requires-clause-to
come_one-requires-clause-to g c = (c.requires.backs _ (Contains-get_or c.args.backs.now c.loop-back.back-index _ c.loop-back-test.true)).3

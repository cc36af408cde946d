use Rattle.dep_form.specs.declared.node.Edge.{Edge}
use Rattle.dep_form.specs.declared.node.Label.TheVariants.{Thin}
use Rattle.std.proofs.Common.{refl, get_or, ◌≤◌, length, ◌∙◌, arith}
use Rattle.std.proofs.lemmas.List.Elements.{Contains-get_or}
use Rattle.tabulate.specs.Rules.{Follows}
use Rattle.tabulate.proofs.Going.{goes_start, goes_more, goes_whole}
use Rattle.tabulate.proofs.RulesGrow.{follows_grow}
use Rattle.tabulate.proofs.following.follow.Goals as goal

pub loop-edge-init : goal.loop-edge-init
loop-edge-init g c = record {
  goes = goes_start (Follows c.args.f.now c.args.mode c.args.hands.now c.args.n c.args.delta.now) c.args.edges.now c.args.f.now c.args.found.now.items c.args.queue.now.items c.args.steps.now c.requires.found c.requires.queue;
  turns = refl;
}

pub loop-edge-preserved : goal.loop-edge-preserved
loop-edge-preserved g c =
    let p = c.args.f.now in
    let none : Edge = record { from = record { 0 = 0 }; to = record { 0 = 0 }; label = Thin } in
    record {
      goes = goes_more (Follows c.args.f.now c.args.mode c.args.hands.now c.args.n c.args.delta.now) c.args.edges.now c.loop-edge.edge-index none p _ _ _ _ _ _ _ _ _ (follows_grow p c.args.mode c.args.hands.now c.args.n c.args.delta.now (get_or c.args.edges.now c.loop-edge.edge-index none)) c.loop-edge-test.true c.loop-edge.invariant.goes c.in_ok-follow_one.ensures.goes;
      turns = omega (arith, c.loop-edge.invariant.turns, c.follow_one.ensures.turns);
    }

pub returns-clause-goes : goal.returns-clause-goes
returns-clause-goes g c =
    let le : length c.args.edges.now ≤ c.loop-edge.edge-index = omega (arith, c.loop-edge-test.false) in
    goes_whole (Follows c.args.f.now c.args.mode c.args.hands.now c.args.n c.args.delta.now) c.args.edges.now c.loop-edge.edge-index c.args.f.now _ _ _ _ _ _ le c.loop-edge.invariant.goes

pub follow_one-requires-clause-opened : goal.follow_one-requires-clause-opened
follow_one-requires-clause-opened g c = c.loop-edge.invariant.goes.lens c.args.method.now.id.0 ∙ c.requires.opened

pub follow_one-requires-clause-edge : goal.follow_one-requires-clause-edge
follow_one-requires-clause-edge g c = (c.requires.edges _ (Contains-get_or c.args.edges.now c.loop-edge.edge-index _ c.loop-edge-test.true)).0

pub follow_one-requires-clause-to : goal.follow_one-requires-clause-to
follow_one-requires-clause-to g c = (c.requires.edges _ (Contains-get_or c.args.edges.now c.loop-edge.edge-index _ c.loop-edge-test.true)).1

pub follow_one-requires-clause-callee : goal.follow_one-requires-clause-callee
follow_one-requires-clause-callee g c = (c.requires.edges _ (Contains-get_or c.args.edges.now c.loop-edge.edge-index _ c.loop-edge-test.true)).2

pub follow_one-requires-clause-met : goal.follow_one-requires-clause-met
follow_one-requires-clause-met g c = λ m lt. c.requires.met m (omega (arith, lt, c.loop-edge.invariant.goes.lens m))

use Rattle.std.proofs.Common.{◌∙◌}
use Rattle.std.proofs.lemmas.Result.{on_ok_weaker}
use Rattle.dep_form.specs.declared.node.Label.TheVariants.{Thin, Base, Call, Return}
use Rattle.tabulate.specs.Rules.{Whole, FollowsBy}
use Rattle.tabulate.proofs.Fitting.{labelled, thin_fits, base_fits}
use Rattle.tabulate.proofs.Going.{goes_same}
use Rattle.tabulate.proofs.following.follow_one.Goals as goal

pub give-requires-clause-node : goal.give-requires-clause-node
give-requires-clause-node g c =
    let h = thin_fits c.args.f.now c.args.edge.from c.args.n (labelled c.args.f.now c.args.edge Thin c.args.n c.in-Thin.is c.requires.to c.requires.edge) in
    (h.0, h.2 ∙ c.requires.node.1)

pub give-requires-in-Full-clause-node : goal.give-requires-in-Full-clause-node
give-requires-in-Full-clause-node g c =
    let h = base_fits c.args.f.now c.args.edge.from c.args.n (labelled c.args.f.now c.args.edge Base c.args.n c.in-Base.is c.requires.to c.requires.edge) in
    (h.0, h.2 ∙ c.requires.node.1)

pub leave-requires-clause-edge : goal.leave-requires-clause-edge
leave-requires-clause-edge g c = labelled c.args.f.now c.args.edge (Call c.in-Call.call) c.args.n c.in-Call.is c.requires.to c.requires.edge

pub enter-requires-clause-edge : goal.enter-requires-clause-edge
enter-requires-clause-edge g c = labelled c.args.f.now c.args.edge (Return c.in-Return.call) c.args.n c.in-Return.is c.requires.to c.requires.edge

pub enter-requires-clause-callee : goal.enter-requires-clause-callee
enter-requires-clause-callee g c = c.requires.callee c.in-Return.call c.in-Return.is

pub returns-in-Thin-clause-goes : goal.returns-in-Thin-clause-goes
returns-in-Thin-clause-goes g c = rw c.in-Thin.is c.give.ensures.goes

pub returns-in-Full-clause-goes : goal.returns-in-Full-clause-goes
returns-in-Full-clause-goes g c = rw c.in-Base.is (on_ok_weaker c.give-in-Full.result (goes_same c.args.f.now c.args.found.now.items c.give-in-Full.new.found.items c.args.queue.now.items c.give-in-Full.new.queue.items c.args.steps.now c.give-in-Full.new.steps
    (Whole c.args.edge.from.0 c.args.delta.now) (FollowsBy c.args.f.now c.args.mode c.args.hands.now c.args.n c.args.delta.now c.args.edge.from Base)
    (λ x r. r.1) (λ x w. (c.in-Full.is, w))) c.give-in-Full.ensures.goes)

pub returns-in-Call-clause-goes : goal.returns-in-Call-clause-goes
returns-in-Call-clause-goes g c = rw c.in-Call.is c.leave.ensures.goes

pub returns-in-Return-clause-goes : goal.returns-in-Return-clause-goes
returns-in-Return-clause-goes g c = rw c.in-Return.is c.enter.ensures.goes

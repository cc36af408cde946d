use Rattle.std.proofs.Common.{slice_get}
use Rattle.std.proofs.lemmas.Result.{on_ok_weaker}
use Rattle.std.proofs.lemmas.Bool.{iff_false}
use Rattle.dep_form.specs.Outside.{IsReceiver}
use Rattle.points_to.specs.Rules.{FlowsSome}
use Rattle.points_to.proofs.Moving.{Moves-where, Moves-not_where}
use Rattle.points_to.proofs.edges.bind_one.Goals as goal

pub returns-then-is_receiver-clause-moved : goal.returns-then-is_receiver-clause-moved
returns-then-is_receiver-clause-moved c = λ s. Moves-not_where s c.args.found.now (IsReceiver c.args.call.now.instance c.args.index → ⊥) (FlowsSome (slice_get c.args.call.now.arguments c.args.index) (slice_get c.args.method.now.formals c.args.index)) (λ n. n (c.is_receiver.ensures.0 c.if-is_receiver.true))

pub returns-else-is_receiver-clause-moved : goal.returns-else-is_receiver-clause-moved
returns-else-is_receiver-clause-moved c = on_ok_weaker c.pass_argument.result (λ m s. Moves-where s c.args.found.now c.pass_argument.new.found (IsReceiver c.args.call.now.instance c.args.index → ⊥) (FlowsSome (slice_get c.args.call.now.arguments c.args.index) (slice_get c.args.method.now.formals c.args.index)) (iff_false c.is_receiver.ensures c.if-is_receiver.false) (m s)) c.pass_argument.ensures.moved

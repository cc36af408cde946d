use Rattle.std.specs.List.Sorted.{IsNonDecreasingBy}
use Rattle.std.proofs.Common.{◌≡◌, ◌∙◌, List, Contains, Some, None, ap, sym, subst, arith}
use Rattle.std.specs.Prelude.{OnOk}
use Rattle.std.proofs.lemmas.Result.{on_ok_weaker}
use Rattle.bit_rows.specs.Adds.{Taken}
use Rattle.dep_form.specs.declared.node.Label.TheVariants.{Return}
use Rattle.tabulate.specs.declared.method.Argument.{Argument}
use Rattle.tabulate.specs.Frames.{first_exit}
use Rattle.tabulate.specs.Hands.{hand_of}
use Rattle.tabulate.specs.Found.{Got, Todo, Goes}
use Rattle.tabulate.specs.Rules.{FromOne, Passes, PassesByHand, FollowsBy, hand_at}
use Rattle.tabulate.proofs.Placing.{exit_place, behind_first, is_exit}
use Rattle.tabulate.proofs.Entering.{hand_to, hand_from, pass_to, pass_from, argument_home}
use Rattle.tabulate.proofs.HandRows.{formal_within}
use Rattle.tabulate.proofs.Going.{goes_same}
use Rattle.tabulate.proofs.following.pass_all.Goals as goal

pub pass_by_hand-requires-clause-arguments : goal.pass_by_hand-requires-clause-arguments
pass_by_hand-requires-clause-arguments g c = λ a h.
    let p = c.args.f.now in
    let i = c.requires.callee.arguments.each a (subst (λ (xs : List Argument). Contains xs a) c.as_slice-arguments.ensures.value h) in (
      i,
      formal_within p c.args.mode c.args.exit c.args.from c.in-Some.bits.now (c.requires.hands c.args.exit c.in-Some.bits.now c.in-Some.ensures) c.requires.exit c.requires.from.0 a.from a.formal a.call i.0 (i.1.1 ∙ sym c.requires.from.1),
      λ same. let o = argument_home p c.args.mode c.args.hands.now c.args.callee.now c.requires.callee c.args.n c.args.from c.args.call c.args.delta.now c.requires.from a i c.requires.edge same in (o.0, o.1 ∙ c.requires.node.1),
    )

pub pass_by_hand-requires-clause-order : goal.pass_by_hand-requires-clause-order
pass_by_hand-requires-clause-order g c = subst (λ (xs : List Argument). IsNonDecreasingBy (λ (x : Argument). x.call.0) xs) (sym c.as_slice-arguments.ensures.value) c.requires.callee.arguments.by_call

pub pass-requires-clause-order : goal.pass-requires-clause-order
pass-requires-clause-order g c = subst (λ (xs : List Argument). IsNonDecreasingBy (λ (x : Argument). x.call.0) xs) (sym c.as_slice-arguments.ensures.value) c.requires.callee.arguments.by_call

pub overflow_sub-exit : goal.overflow_sub-exit
overflow_sub-exit g c = omega (arith, behind_first c.args.f.now c.args.exit c.args.from c.requires.exit c.requires.from.0, c.requires.callee.exit_is, ap (first_exit c.args.f.now) c.requires.from.1)

pub pass-requires-clause-exit : goal.pass-requires-clause-exit
pass-requires-clause-exit g c = is_exit c.args.f.now c.args.exit c.args.from c.requires.exit c.requires.from.0

pub pass-requires-clause-number : goal.pass-requires-clause-number
pass-requires-clause-number g c = omega (arith, exit_place c.args.f.now c.args.exit c.args.from c.requires.exit, c.requires.callee.exit_is, ap (first_exit c.args.f.now) c.requires.from.1)

pub pass-requires-clause-arguments : goal.pass-requires-clause-arguments
pass-requires-clause-arguments g c = λ a h.
    let p = c.args.f.now in
    let i = c.requires.callee.arguments.each a (subst (λ (xs : List Argument). Contains xs a) c.as_slice-arguments.ensures.value h) in
    (i, λ same. let o = argument_home p c.args.mode c.args.hands.now c.args.callee.now c.requires.callee c.args.n c.args.from c.args.call c.args.delta.now c.requires.from a i c.requires.edge same in (o.0, o.1 ∙ c.requires.node.1))

pub returns-in-Some-clause-goes : goal.returns-in-Some-clause-goes
returns-in-Some-clause-goes g c =
    let p = c.args.f.now in
    let ts = c.args.found.now.items in
    let x = c.args.callee.now in
    let bits = c.in-Some.bits.now in
    let K = Taken (Got p ts) (Todo p ts) in
    let hand : hand_at p c.args.hands.now c.args.from ≡ Some bits = ap (hand_of c.args.hands.now) (exit_place p c.args.exit c.args.from c.requires.exit) ∙ c.in-Some.ensures in
    on_ok_weaker c.pass_by_hand.result (goes_same p ts c.pass_by_hand.new.found.items c.args.queue.now.items c.pass_by_hand.new.queue.items c.args.steps.now c.pass_by_hand.new.steps
    (FromOne (PassesByHand p bits c.args.call c.args.delta.now) x.arguments.items) (FollowsBy p c.args.mode c.args.hands.now c.args.n c.args.delta.now c.args.from (Return c.args.call))
    (hand_to p c.args.mode c.args.hands.now x c.requires.callee c.args.n c.args.from c.args.call c.args.delta.now c.requires.from bits hand K) (hand_from p c.args.mode c.args.hands.now x c.requires.callee c.args.n c.args.from c.args.call c.args.delta.now c.requires.from bits hand K))
    (subst (λ (xs : List Argument). OnOk c.pass_by_hand.result (Goes p ts c.pass_by_hand.new.found.items c.args.queue.now.items c.pass_by_hand.new.queue.items c.args.steps.now c.pass_by_hand.new.steps (FromOne (PassesByHand p bits c.args.call c.args.delta.now) xs))) c.as_slice-arguments.ensures.value c.pass_by_hand.ensures.goes)

pub returns-in-None-clause-goes : goal.returns-in-None-clause-goes
returns-in-None-clause-goes g c =
    let p = c.args.f.now in
    let ts = c.args.found.now.items in
    let x = c.args.callee.now in
    let K = Taken (Got p ts) (Todo p ts) in
    let hand : hand_at p c.args.hands.now c.args.from ≡ None = ap (hand_of c.args.hands.now) (exit_place p c.args.exit c.args.from c.requires.exit) ∙ c.in-None.ensures in
    on_ok_weaker c.pass.result (goes_same p ts c.pass.new.found.items c.args.queue.now.items c.pass.new.queue.items c.args.steps.now c.pass.new.steps
    (FromOne (Passes p c.args.from c.args.call c.args.delta.now) x.arguments.items) (FollowsBy p c.args.mode c.args.hands.now c.args.n c.args.delta.now c.args.from (Return c.args.call))
    (pass_to p c.args.mode c.args.hands.now x c.requires.callee c.args.n c.args.from c.args.call c.args.delta.now c.requires.from hand K) (pass_from p c.args.mode c.args.hands.now x c.requires.callee c.args.n c.args.from c.args.call c.args.delta.now c.requires.from hand K))
    (subst (λ (xs : List Argument). OnOk c.pass.result (Goes p ts c.pass.new.found.items c.args.queue.now.items c.pass.new.queue.items c.args.steps.now c.pass.new.steps (FromOne (Passes p c.args.from c.args.call c.args.delta.now) xs))) c.as_slice-arguments.ensures.value c.pass.ensures.goes)

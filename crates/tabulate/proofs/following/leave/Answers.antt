use Rattle.std.specs.List.Sorted.{IsNonDecreasingBy}
use Rattle.std.proofs.Common.{◌≡◌, ◌∙◌, List, Contains, inl, inr, sym, subst, arith, length}
use Rattle.std.proofs.lemmas.Bool.{cases_lt}
use Rattle.bit_rows.specs.Adds.{Taken}
use Rattle.dep_form.specs.declared.node.Label.TheVariants.{Call}
use Rattle.tabulate.specs.declared.method.Back.{Back}
use Rattle.tabulate.specs.Found.{Got, Todo, Goes, waits_of}
use Rattle.tabulate.specs.Rules.{FromOne, Comes, FollowsBy}
use Rattle.tabulate.proofs.Fitting.{call_starts, one_home}
use Rattle.tabulate.proofs.Entering.{comes_to, comes_from}
use Rattle.tabulate.proofs.Going.{goes_none, goes_same}
use Rattle.tabulate.proofs.Testing.{closed_none}
use Rattle.tabulate.proofs.following.leave.Goals as goal

pub owner-requires : goal.owner-requires
owner-requires g c = call_starts c.args.f.now c.args.from c.args.formal c.args.call c.requires.edge

pub returns-in_default-clause-goes : goal.returns-in_default-clause-goes
returns-in_default-clause-goes g c =
    let p = c.args.f.now in
    let ts = c.args.found.now.items in
    let closed : length (waits_of ts c.owner.result.0) ≡ 0 = elim (cases_lt 0 (length (waits_of ts c.owner.result.0))) [ inl lt ↦ absurd (c.in_default.ensures (c.requires.met c.owner.result.0 lt)) | inr ge ↦ omega (arith, ge) ] in
    goes_none p ts c.args.queue.now.items c.args.steps.now (FollowsBy p c.args.mode c.args.hands.now c.args.formal c.args.delta.now c.args.from (Call c.args.call)) c.requires.found c.requires.queue
    (λ x r. absurd (closed_none p ts c.requires.found r.1.0 c.owner.result.0 x.1 (sym (one_home p c.args.from c.args.formal r.0 r.1 c.args.call c.requires.edge r.2) ∙ sym c.owner.ensures.is) closed r.6.0))

pub is_open-requires-clause-method : goal.is_open-requires-clause-method
is_open-requires-clause-method g c = c.in-Some.ensures.1

pub returns-then-not-is_open-clause-goes : goal.returns-then-not-is_open-clause-goes
returns-then-not-is_open-clause-goes g c =
    let p = c.args.f.now in
    let ts = c.args.found.now.items in
    goes_none p ts c.args.queue.now.items c.args.steps.now (FollowsBy p c.args.mode c.args.hands.now c.args.formal c.args.delta.now c.args.from (Call c.args.call)) c.requires.found c.requires.queue
    (λ x r. absurd (closed_none p ts c.requires.found r.1.0 c.in-Some.method.now.id.0 x.1 (sym (one_home p c.args.from c.args.formal r.0 r.1 c.args.call c.requires.edge r.2) ∙ sym c.owner.ensures.is ∙ sym c.in-Some.ensures.2) (c.is_open.ensures.none c.if-not-is_open.true) r.6.0))

pub come-requires-clause-from : goal.come-requires-clause-from
come-requires-clause-from g c = (call_starts c.args.f.now c.args.from c.args.formal c.args.call c.requires.edge, sym c.owner.ensures.is ∙ sym c.in-Some.ensures.2)

pub come-requires-clause-backs : goal.come-requires-clause-backs
come-requires-clause-backs g c = λ b h. c.in-Some.ensures.1.backs.each b (subst (λ (xs : List Back). Contains xs b) c.as_slice-backs.ensures.value h)

pub come-requires-clause-order : goal.come-requires-clause-order
come-requires-clause-order g c = subst (λ (xs : List Back). IsNonDecreasingBy (λ (x : Back). x.call.0) xs) (sym c.as_slice-backs.ensures.value) c.in-Some.ensures.1.backs.by_call

pub come-requires-clause-method : goal.come-requires-clause-method
come-requires-clause-method g c = c.in-Some.ensures.1

pub returns-clause-goes : goal.returns-clause-goes
returns-clause-goes g c =
    let p = c.args.f.now in
    let x = c.in-Some.method.now in
    let home : _ ≡ x.id.0 = sym c.owner.ensures.is ∙ sym c.in-Some.ensures.2 in
    let K = Taken (Got p c.args.found.now.items) (Todo p c.args.found.now.items) in
    goes_same p c.args.found.now.items c.come.new.found.items c.args.queue.now.items c.come.new.queue.items c.args.steps.now c.come.new.steps
    (FromOne (Comes p c.args.formal c.args.call c.args.delta.now c.args.from) x.returns.items) (FollowsBy p c.args.mode c.args.hands.now c.args.formal c.args.delta.now c.args.from (Call c.args.call))
    (comes_to p c.args.mode c.args.hands.now x c.in-Some.ensures.1 c.args.formal c.args.from c.requires.formal.0 c.args.call c.args.delta.now c.requires.edge home K)
    (comes_from p c.args.mode c.args.hands.now x c.in-Some.ensures.1 c.args.formal c.args.from c.requires.formal.0 c.args.call c.args.delta.now c.requires.edge home K)
    (subst (λ (xs : List Back). Goes p c.args.found.now.items c.come.new.found.items c.args.queue.now.items c.come.new.queue.items c.args.steps.now c.come.new.steps (FromOne (Comes p c.args.formal c.args.call c.args.delta.now c.args.from) xs)) c.as_slice-backs.ensures.value c.in_ok-come.ensures.goes)

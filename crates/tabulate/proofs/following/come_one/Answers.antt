use Rattle.std.proofs.Common.{◌≡◌, ℕ, ◌+◌, ◌*◌, arith, ap, ◌∙◌, List, sym, subst}
use Rattle.std.specs.Prelude.{◌↔◌}
use Rattle.bit_rows.specs.Adds.{Taken}
use Rattle.bit_rows.specs.Words.{IsIn}
use Rattle.tabulate.specs.Frames.{first_exit, exit_count}
use Rattle.tabulate.specs.Found.{Got, Todo}
use Rattle.tabulate.specs.Rules.{Whole, Comes}
use Rattle.std.proofs.lemmas.Bool.{false≢true}
use Rattle.tabulate.proofs.Fitting.{one_call}
use Rattle.tabulate.proofs.Going.{goes_same, goes_none}
use Rattle.tabulate.proofs.following.come_one.Goals as goal

pub returns-in_default-clause-goes : goal.returns-in_default-clause-goes
returns-in_default-clause-goes g c =
    let p = c.args.f.now in
    goes_none p c.args.found.now.items c.args.queue.now.items c.args.steps.now (Comes p c.args.formal c.args.call c.args.delta.now c.args.from c.args.back) c.requires.found c.requires.queue
    (λ x r. absurd (c.in_default.ensures r.1.0 (r.1.1 ∙ ap (λ m. first_exit p m + r.1.0) c.requires.formal.1) (omega (arith, r.1.2, ap (exit_count p) c.requires.formal.1))))

pub returns-then-not-has-clause-goes : goal.returns-then-not-has-clause-goes
returns-then-not-has-clause-goes g c =
    let p = c.args.f.now in
    goes_none p c.args.found.now.items c.args.queue.now.items c.args.steps.now (Comes p c.args.formal c.args.call c.args.delta.now c.args.from c.args.back) c.requires.found c.requires.queue
    (λ x r.
    let same : r.1.0 ≡ 64 * 0 + c.in-Some.number = omega (arith, r.1.1, c.in-Some.ensures.0, ap (first_exit p) c.requires.formal.1) in
    absurd (false≢true (sym c.if-not-has.true ∙ c.has.ensures.1 (subst (λ (k : ℕ). IsIn c.args.delta.now k) same r.1.3))))

pub returns-clause-goes : goal.returns-clause-goes
returns-clause-goes g c =
    let p = c.args.f.now in
    let b = c.args.back in
    let number : 64 * 0 + c.in-Some.number ≡ c.in-Some.number = omega arith in
    let new : IsIn c.args.delta.now c.in-Some.number = subst (λ (k : ℕ). IsIn c.args.delta.now k) number (c.has.ensures.0 c.if-not-has.false) in
    let bits : (x : ℕ) → IsIn c.deref.result.now x ↔ Taken (Got p c.args.found.now.items) (Todo p c.args.found.now.items) (b.to.0, x) = λ x. subst (λ (xs : List ℕ). IsIn xs x ↔ Taken (Got p c.args.found.now.items) (Todo p c.args.found.now.items) (b.to.0, x)) (sym c.deref.ensures.value) (c.in_ok-copy.ensures.bits x) in
    goes_same p c.args.found.now.items c.give.new.found.items c.args.queue.now.items c.give.new.queue.items c.args.steps.now c.give.new.steps (Whole c.args.from.0 c.deref.result.now) (Comes p c.args.formal c.args.call c.args.delta.now c.args.from b)
    (λ x r. (r.2, (bits x.1).1 r.3)) (λ x w. (one_call b.call c.args.call c.if-ne.ensures, (c.in-Some.number, c.in-Some.ensures.0 ∙ ap (λ m. first_exit p m + c.in-Some.number) (sym c.requires.formal.1), omega (arith, c.in-Some.ensures.1, ap (exit_count p) c.requires.formal.1), new), w.0, (bits x.1).0 w.1)) c.in_ok-give.ensures.goes

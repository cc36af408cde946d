use Rattle.std.proofs.Common.{◌<◌, length, inl, inr, refl, sym, ap, ◌∙◌, arith}
use Rattle.reaching_defs.specs.Frames.{Steps}
use Rattle.worklists.proofs.ClosingOne.{begins, goes_on}
use Rattle.reaching_defs.proofs.Spreading.{Good, by_one, begun_good, all_found}
use Rattle.worklists.proofs.Growing.{Grows-kept}
use Rattle.reaching_defs.proofs.spread.spread.Goals as goal

pub loop-next-init : goal.loop-next-init
loop-next-init c = record {
  size = refl;
  set = c.in_ok-begin.ensures.set;
  begun = c.in_ok-begin.ensures.grown.all;
  closing = begins (Good c.args.frame.now c.args.slot c.args.def) (Steps c.args.frame.now) c.begin.new.found.items.items (λ n h. elim (c.in_ok-begin.ensures.grown.only n h) [
    | inl o ↦ absurd (omega (arith, o.1, ap length c.requires.none))
    | inr b ↦ begun_good c.args.frame.now c.args.slot c.args.def n b
  ]);
}

pub step-requires-clause-number : goal.step-requires-clause-number
step-requires-clause-number c = (c.loop-next.invariant.closing.each c.index-number.result.now (c.loop-next.next, omega (arith, c.loop-next-test.true, c.len.ensures), sym c.index-number.ensures)).0

pub loop-next-preserved : goal.loop-next-preserved
loop-next-preserved c =
    let f = c.args.frame.now in
    let old = c.loop-next.found.items.items in
    let new = c.step.new.found.items.items in
    let x = c.index-number.result.now in
    let lt : c.loop-next.next < length old = omega (arith, c.loop-next-test.true, c.len.ensures) in
    record {
      size = c.step.ensures.size ∙ c.loop-next.invariant.size;
      set = c.in_ok-step.ensures.set;
      begun = λ n b. Grows-kept old new (Steps f x) c.in_ok-step.ensures.grown n (c.loop-next.invariant.begun n b);
      closing = goes_on (Good f c.args.slot c.args.def) (Steps f) (by_one f c.args.slot c.args.def) c.loop-next.next x old new lt c.index-number.ensures c.in_ok-step.ensures.grown c.loop-next.invariant.closing;
    }

pub returns-clause-whole : goal.returns-clause-whole
returns-clause-whole c = λ b h. all_found c.args.frame.now c.requires.frame c.args.slot c.args.def c.requires.slot c.loop-next.next c.loop-next.found.items.items (omega (arith, c.loop-next-test.false, c.len.ensures)) c.loop-next.invariant.closing c.loop-next.invariant.begun b h

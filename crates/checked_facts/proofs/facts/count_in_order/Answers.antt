use Rattle.std.proofs.Common.{length, refl}
use Rattle.std.proofs.lemmas.Option.{slice_get_read}
use Rattle.checked_facts.proofs.Inputs.{follow_more, next_count, follow_all, count_all}
use Rattle.checked_facts.proofs.facts.count_in_order.Goals as goal

pub loop-m-preserved : goal.loop-m-preserved
loop-m-preserved c =
    let inputs = c.args.inputs.now in
    let m = c.loop-m.m in
    let o = c.index-inputs-m.result in
    let p = c.index-inputs-m-in-loop-m.result in
    let first = slice_get_read inputs (length inputs) m o refl c.loop-m-test.true c.index-inputs-m.is in
    let second = slice_get_read inputs (length inputs) m p refl c.loop-m-test.true c.index-inputs-m-in-loop-m.is in
    record {
      next = next_count inputs p m second c.loop-m.next c.in_ok-next.next c.in_ok-next.ensures c.loop-m.invariant.next;
      follow = follow_more inputs o m first c.loop-m.next (c.is_at_place.ensures c.if-not-is_at_place.false) c.loop-m.invariant.next c.loop-m.invariant.follow;
    }

pub returns : goal.returns
returns c = (count_all c.args.inputs.now c.loop-m.m c.loop-m-test.false c.loop-m.next c.loop-m.invariant.next, follow_all c.args.inputs.now c.loop-m.m c.loop-m-test.false c.loop-m.invariant.follow)

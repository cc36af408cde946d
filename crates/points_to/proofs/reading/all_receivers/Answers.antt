use Rattle.std.proofs.Common.{length, subst, sym, ap, arith}
use Rattle.points_to.specs.Solved.{IsTableOf, AreReceiversOf}
use Rattle.points_to.proofs.Listed.{no_rows, one_row}
use Rattle.points_to.proofs.reading.all_receivers.Goals as goal

pub loop-c-init : goal.loop-c-init
loop-c-init c = record { len = ap (λ xs. length xs) c.new-all.ensures.items; each = no_rows (AreReceiversOf c.args.found.now) c.new-all.result.items c.new-all.ensures.items }

pub loop-c-preserved : goal.loop-c-preserved
loop-c-preserved c = record {
  len = omega (arith, c.loop-c.invariant.len, c.in_ok-push.ensures.len);
  each = subst (λ xs. IsTableOf (AreReceiversOf c.args.found.now) xs) (sym c.in_ok-push.ensures.items) (one_row (AreReceiversOf c.args.found.now) c.loop-c.all.items c.in_ok-receivers.receivers c.loop-c.c c.loop-c.invariant.len c.loop-c.invariant.each c.in_ok-receivers.ensures);
}

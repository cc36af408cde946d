use Rattle.std.proofs.Common.{length, subst, sym, ap, arith}
use Rattle.points_to.specs.Solved.{IsTableOf, IsReachedAt}
use Rattle.points_to.proofs.Listed.{no_rows, one_row}
use Rattle.points_to.proofs.reading.all_reached.Goals as goal

pub loop-m-init : goal.loop-m-init
loop-m-init c = record { len = ap (λ xs. length xs) c.new-all.ensures.items; each = no_rows (IsReachedAt c.args.found.now) c.new-all.result.items c.new-all.ensures.items }

pub loop-m-preserved : goal.loop-m-preserved
loop-m-preserved c = record {
  len = omega (arith, c.loop-m.invariant.len, c.in_ok-push.ensures.len);
  each = subst (λ xs. IsTableOf (IsReachedAt c.args.found.now) xs) (sym c.in_ok-push.ensures.items) (one_row (IsReachedAt c.args.found.now) c.loop-m.all.items c.knows-reached.result c.loop-m.m c.loop-m.invariant.len c.loop-m.invariant.each (c.knows-reached.ensures.0, c.knows-reached.ensures.1));
}

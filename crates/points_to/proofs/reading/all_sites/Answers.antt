use Rattle.std.proofs.Common.{length, subst, sym, ap, arith}
use Rattle.points_to.specs.Solved.{IsTableOf, AreSitesOf}
use Rattle.points_to.proofs.Listed.{no_rows, one_row}
use Rattle.points_to.proofs.reading.all_sites.Goals as goal

pub loop-v-init : goal.loop-v-init
loop-v-init c = record { len = ap (λ xs. length xs) c.new-all.ensures.items; each = no_rows (AreSitesOf c.args.found.now) c.new-all.result.items c.new-all.ensures.items }

pub loop-v-preserved : goal.loop-v-preserved
loop-v-preserved c = record {
  len = omega (arith, c.loop-v.invariant.len, c.in_ok-push.ensures.len);
  each = subst (λ xs. IsTableOf (AreSitesOf c.args.found.now) xs) (sym c.in_ok-push.ensures.items) (one_row (AreSitesOf c.args.found.now) c.loop-v.all.items c.in_ok-sites.sites c.loop-v.v c.loop-v.invariant.len c.loop-v.invariant.each c.in_ok-sites.ensures);
}

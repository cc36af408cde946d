use Rattle.std.proofs.Common.{length, ap, arith}
use Rattle.points_to.proofs.Filtering.{no_site, all_sites}
use Rattle.points_to.proofs.filters.mask_of.Goals as goal

pub loop-number-init : goal.loop-number-init
loop-number-init c = no_site c.args.system.now c.args.keep c.new-row.result.items c.new-row.ensures.items

pub loop-number-preserved : goal.loop-number-preserved
loop-number-preserved c = c.in_ok-add_site.ensures

pub returns : goal.returns
returns c = all_sites c.args.system.now c.args.keep c.loop-number.number c.loop-number.row.items (let q = ap (λ xs. length xs) c.items-count.ensures in omega (arith, c.loop-number.auto.number-end, c.loop-number-test.false, q)) c.loop-number.invariant

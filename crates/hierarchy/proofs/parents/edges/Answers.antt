use Rattle.std.proofs.Common.{length, refl, arith}
use Rattle.std.proofs.lemmas.Option.{slice_get_read}
use Rattle.hierarchy.proofs.Rows.{no_edges, edges_more, all_edges}
use Rattle.hierarchy.proofs.parents.edges.Goals as goal

pub loop-class-init : goal.loop-class-init
loop-class-init c = no_edges c.args.above c.args.classes.now c.new-rows.result.items c.new-rows.ensures.items

pub loop-class-preserved : goal.loop-class-preserved
loop-class-preserved c =
    edges_more c.args.above c.args.classes.now c.loop-class.rows.items _ c.loop-class.class-index c.class-item.result c.in_ok-row.row c.loop-class.invariant
    (slice_get_read c.args.classes.now (length c.args.classes.now) c.loop-class.class-index c.class-item.result refl c.loop-class-test.true c.class-item.is)
    c.in_ok-row.ensures c.in_ok-push_row.ensures

pub returns : goal.returns
returns c = all_edges c.args.above c.args.classes.now c.loop-class.rows.items c.loop-class.class-index (omega arith) c.loop-class.invariant

use Rattle.points_to.proofs.Filtering.{row_added}
use Rattle.points_to.proofs.filters.add_below.Goals as goal

pub returns : goal.returns
returns c = row_added c.args.rows.now.items c.widen.new.rows.items c.put_rows.new.rows.items c.args.above.0 c.args.below.0 _ c.in_ok-widen.ensures.same c.in_ok-put_rows.ensures

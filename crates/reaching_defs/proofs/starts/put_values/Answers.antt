use Rattle.worklists.proofs.Growing.{Grows-each}
use Rattle.reaching_defs.specs.Starts.{IsValueStart}
use Rattle.reaching_defs.proofs.starts.put_values.Goals as goal

pub loop-point-preserved : goal.loop-point-preserved
loop-point-preserved c = Grows-each IsValueStart c.args.points.now c.loop-point.point-index c.point-item.result c.args.starts.now.items c.loop-point.starts.items c.put_made.new.starts.items c.loop-point-test.true c.point-item.is c.loop-point.invariant c.in_ok-put_made.ensures

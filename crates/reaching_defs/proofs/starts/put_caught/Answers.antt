use Rattle.worklists.proofs.Growing.{Grows-more}
use Rattle.reaching_defs.specs.Starts.{IsCaughtStart}
use Rattle.reaching_defs.proofs.starts.put_caught.Goals as goal

pub loop-handler-preserved : goal.loop-handler-preserved
loop-handler-preserved c = Grows-more (IsCaughtStart c.args.locals) c.args.handlers.now c.loop-handler.handler-index 0 c.args.starts.now.items c.loop-handler.starts.items c.put.new.starts.items c.loop-handler-test.true c.loop-handler.invariant c.in_ok-put.ensures

use Rattle.std.proofs.Common.{take}
use Rattle.worklists.specs.Growth.{Grows, FromOne}
use Rattle.reaching_defs.specs.Starts.{IsCaughtStart}
use Rattle.reaching_defs.proofs.starts.put_caught.Given as goal

abbrev pub invariant-loop-handler : goal.invariant-loop-handler
invariant-loop-handler l = Grows l.initial.starts.items l.starts.items (FromOne (IsCaughtStart l.locals) (take l.handler-index l.handlers))

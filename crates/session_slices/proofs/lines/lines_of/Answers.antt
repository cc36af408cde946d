use Rattle.std.proofs.Common.{Contains}
use Rattle.session_slices.specs.SliceLines.{IsLineOfSome}
use Rattle.session_slices.proofs.LineGrowth.{lines_listed}
use Rattle.session_slices.proofs.lines.lines_of.Goals as goal

pub returns : goal.returns
returns c = lines_listed (IsLineOfSome c.args.f.now (Contains c.args.statements.now)) c.collect.new.lines.items c.in_order.result.items c.collect.ensures c.in_order.ensures.order c.in_order.ensures.members

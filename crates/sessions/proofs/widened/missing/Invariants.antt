use Rattle.std.proofs.Common.{take}
use Rattle.sessions.proofs.Listing.{IsFilled}
use Rattle.sessions.proofs.widened.missing.Given as goal

abbrev pub invariant-loop-s : goal.invariant-loop-s
invariant-loop-s l = IsFilled l.had l.more.items (take l.s-index l.all)

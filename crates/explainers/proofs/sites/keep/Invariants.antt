use Rattle.std.proofs.Common.{[], take}
use Rattle.worklists.specs.Growth.{Grows, FromOne}
use Rattle.explainers.specs.Bringing.{IsOneIn}
use Rattle.explainers.proofs.sites.keep.Given as goal

abbrev pub invariant-loop-site : goal.invariant-loop-site
invariant-loop-site l = Grows [] l.kept.items (FromOne (IsOneIn l.others) (take l.site-index l.sites))

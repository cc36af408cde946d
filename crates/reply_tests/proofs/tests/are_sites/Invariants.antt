use Rattle.std.proofs.Common.{◌<◌, ℕ, get_or, length}
use Rattle.slicer_ids.specs.declared.ids.SiteId.{SiteId}
use Rattle.reply_tests.proofs.tests.are_sites.Given as goal

-- the ones so far are
abbrev pub invariant-loop-s : goal.invariant-loop-s
invariant-loop-s l = (k : ℕ) (d : SiteId) → k < l.s-index → (get_or l.sites k d).0 < length l.f.sites

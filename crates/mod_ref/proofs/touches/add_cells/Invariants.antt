use Rattle.std.proofs.Common.{take, ◌≡◌}
use Rattle.worklists.specs.Growth.{FromOne}
use Rattle.mod_ref.specs.Gains.{Gains}
use Rattle.mod_ref.specs.Direct.{cell}
use Rattle.mod_ref.proofs.touches.add_cells.Given as goal

abbrev pub invariant-loop-site : goal.invariant-loop-site
invariant-loop-site l = Gains l.initial.effects.items.items l.effects.items.items (FromOne (λ h x. x ≡ cell h l.field l.method) (take l.site-index l.sites))

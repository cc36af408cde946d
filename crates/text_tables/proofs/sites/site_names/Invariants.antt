use Rattle.std.proofs.Common.{take}
use Rattle.fact_form.proofs.ItemLists.{IsMadeFrom}
use Rattle.text_tables.specs.SiteNames.{IsNameOf}
use Rattle.text_tables.proofs.sites.site_names.Given as goal

abbrev pub invariant-loop-info : goal.invariant-loop-info
invariant-loop-info l = IsMadeFrom (IsNameOf l.h l.bodies) (take l.info-index l.info-items) l.names.items

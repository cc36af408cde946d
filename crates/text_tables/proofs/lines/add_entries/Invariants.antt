use Rattle.std.proofs.Common.{take}
use Rattle.worklists.specs.Growth.{FromOne}
use Rattle.mod_ref.specs.Gains.{Gains}
use Rattle.text_tables.specs.LineGroups.{IsPlaceOf}
use Rattle.text_tables.proofs.lines.add_entries.Given as goal

abbrev pub invariant-loop-entry : goal.invariant-loop-entry
invariant-loop-entry l = Gains l.initial.places.items l.places.items (FromOne (IsPlaceOf l.class l.m) (take l.entry-index l.entries))

use Rattle.std.proofs.Common.{[]}
use Rattle.worklists.proofs.Growing.{FromBelow}
use Rattle.mod_ref.specs.Gains.{Gains}
use Rattle.text_tables.specs.LineGroups.{IsPlaceAt}
use Rattle.text_tables.proofs.lines.all_places.Given as goal

abbrev pub invariant-loop-m : goal.invariant-loop-m
invariant-loop-m l = Gains [] l.places.items (FromBelow (IsPlaceAt l.texts) l.m)

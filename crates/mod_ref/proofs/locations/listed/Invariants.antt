use Rattle.std.proofs.Common.{◌≡◌, map, take}
use Rattle.mod_ref.specs.Locations.{location_of}
use Rattle.mod_ref.proofs.locations.listed.Given as goal

abbrev pub invariant-loop-effect : goal.invariant-loop-effect
invariant-loop-effect l = l.all.items ≡ map location_of (take l.effect-index l.effects)

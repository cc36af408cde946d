-- Which edges a mode follows within a method.
use Rattle.std.specs.Prelude.{◌≡◌}
use Rattle.slicer_ids.specs.declared.ids.Mode.{Mode}
use Rattle.slicer_ids.specs.declared.ids.Mode.TheVariants.{Full}
use Rattle.dep_form.specs.declared.node.Label.{Label}
use Rattle.dep_form.specs.declared.node.Label.TheVariants.{Thin, Base, Call, Return}

abbrev pub IsFlow : Mode → Label → Type 0
IsFlow mode Thin = Unit {0}
IsFlow mode Base = mode ≡ Full
IsFlow mode (Call k) = ⊥
IsFlow mode (Return k) = ⊥

use Rattle.std.proofs.Common.{◌≡◌, map, take}
use Rattle.hierarchy.specs.Names.{name_bytes}
use Rattle.text_tables.proofs.classes.class_names.Given as goal

abbrev pub invariant-loop-class : goal.invariant-loop-class
invariant-loop-class l = l.names.items ≡ map name_bytes (take l.class-index l.class-items)

-- Touches of statements that name what the parts of a system have.
use Rattle.std.specs.Prelude.{◌<◌, length}
use Rattle.dep_form.specs.declared.rules.Touch.{Touch}
use Rattle.dep_form.specs.Within.{Counts, IsWithinSpot}
use Rattle.points_to.specs.declared.checked.Parts.{Parts}

-- how many of each thing the parts have
abbrev pub counts_in : Parts → Counts
counts_in p = record { calls = length p.calls; methods = length p.methods; sites = length p.sites; fields = p.fields; vars = p.vars }

abbrev pub IsTouchIn : Parts → Touch → Type 0
IsTouchIn p t = (t.place.method.0 < length p.methods) × IsWithinSpot (counts_in p) t.spot

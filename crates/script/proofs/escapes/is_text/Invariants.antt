use Rattle.std.proofs.Common.{◌↔◌, drop}
use Rattle.slicer_ids.specs.Escapes.{StandsFor}
use Rattle.script.proofs.escapes.is_text.Given as goal

abbrev pub invariant-loop-b : goal.invariant-loop-b
invariant-loop-b l = StandsFor l.rest (drop l.b-index l.text) ↔ StandsFor l.word l.text

use Rattle.std.proofs.Common.{◌<◌, length, Contains}
use Rattle.slicer_ids.specs.declared.ids.ExitId.{ExitId}
use Rattle.thin_slice.proofs.walk.Walk.ahead.Given as goal

abbrev pub invariant-loop-place : goal.invariant-loop-place
invariant-loop-place g l = record {
  rows : g.R.KnownRows.sound l.rows;
  later : g.R.KnownRows.later l.initial.rows l.rows;
  exits : (d : ExitId) → Contains l.into.items d → d.0 < length l.f.exits;
}

use Rattle.std.proofs.Common.{◌<◌, length, Contains}
use Rattle.slicer_ids.specs.declared.ids.ExitId.{ExitId}
use Rattle.thin_slice.proofs.ahead.add_exits.Given as goal

abbrev pub invariant-loop-edge : goal.invariant-loop-edge
invariant-loop-edge g l = record {
  rows : g.R.KnownRows.sound l.rows;
  later : g.R.KnownRows.later l.initial.rows l.rows;
  exits : (d : ExitId) → Contains l.into.items d → d.0 < length l.f.exits;
}

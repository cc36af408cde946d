use Rattle.std.proofs.Common.{◌≤◌, ◌↔◌, Contains, take, length}
use Rattle.std.specs.Prelude.{vec_len, vec_capacity}
use Rattle.report.specs.declared.reply.LinePlace.{LinePlace}
use Rattle.session_slices.specs.SliceLines.{IsLineOfSome}
use Rattle.session_slices.proofs.lines.collect.Given as goal

abbrev pub invariant-loop-s : goal.invariant-loop-s
invariant-loop-s l = record {
  members : (x : LinePlace) → Contains l.lines.items x ↔ IsLineOfSome l.f (Contains (take l.s-index l.statements)) x;
  len : vec_len l.lines ≤ l.s-index;
  room : length l.statements ≤ vec_capacity l.lines;
}

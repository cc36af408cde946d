use Rattle.std.proofs.Common.{◌<◌, ◌≤◌, take, All}
use Rattle.reaching_defs.proofs.points.end_of.Given as goal

abbrev pub invariant-loop-point : goal.invariant-loop-point
invariant-loop-point l = record {
  within : All (λ p. p.pc < l.end) (take l.point-index l.points);
  small : l.end ≤ 65536;
}

use Rattle.std.proofs.Common.{◌<◌, ◌≤◌, take, All}
use Rattle.reaching_defs.proofs.points.deepest.Given as goal

abbrev pub invariant-loop-point : goal.invariant-loop-point
invariant-loop-point l = record {
  within : All (λ p. p.depth ≤ l.depth) (take l.point-index l.points);
  some : 0 < l.depth;
  small : l.depth ≤ 65535;
}

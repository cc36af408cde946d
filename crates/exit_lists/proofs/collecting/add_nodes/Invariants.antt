use Rattle.std.proofs.Common.{◌+◌}
use Rattle.worklists.specs.Growth.{Grows}
use Rattle.worklists.proofs.Growing.{FromBelow}
use Rattle.exit_lists.specs.Exits.{IsExitPlace, IsRising}
use Rattle.exit_lists.proofs.collecting.add_nodes.Given as goal

abbrev pub invariant-loop-k : goal.invariant-loop-k
invariant-loop-k l = record {
  rising : IsRising (l.first + l.k) l.exits.items;
  members : Grows l.initial.exits.items l.exits.items (FromBelow (IsExitPlace l.first l.nodes) l.k);
}

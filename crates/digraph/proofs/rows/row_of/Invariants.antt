use Rattle.std.proofs.Common.{◌≡◌, vec_len}
use Rattle.digraph.proofs.Closing.{IsPartRow}
use Rattle.digraph.proofs.rows.row_of.Given as goal

abbrev pub invariant-loop-target : goal.invariant-loop-target
invariant-loop-target l = record {
  len : vec_len l.row ≡ l.words;
  part : IsPartRow l.graph l.row.items l.node l.target-index;
}

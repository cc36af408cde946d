use Rattle.std.proofs.Common.{◌≡◌, ◌+◌, ◌<◌, ◌≤◌}
use Rattle.bit_rows.specs.Words.{IsIn, AreWords, ones_of}
use Rattle.bit_rows.specs.Adds.{Adds}
use Rattle.bit_rows.proofs.Bits.{MovedBelow}
use Rattle.bit_rows.proofs.rows.give_row.Given as goal

abbrev pub invariant-loop-k : goal.invariant-loop-k
invariant-loop-k g l = record {
  adds : Adds (IsIn l.initial.got) (IsIn l.initial.todo) (IsIn l.got) (IsIn l.todo) (MovedBelow l.at l.delta l.k);
  turns : l.steps + ones_of l.initial.got ≡ l.initial.steps + ones_of l.got;
  words : AreWords l.initial.got → AreWords l.got;
  on : l.initial.steps ≤ l.steps;
  moved : 0 < l.any → l.initial.steps < l.steps;
  quiet : l.any ≡ 0 → l.todo ≡ l.initial.todo;
}

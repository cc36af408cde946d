use Rattle.std.proofs.Common.{◌≡◌, true, take, All}
use Rattle.text_tables.specs.LineGroups.{is_at}
use Rattle.text_tables.proofs.lines.run_len.Given as goal

abbrev pub invariant-loop-k : goal.invariant-loop-k
invariant-loop-k l = All (λ x. is_at l.class l.line x ≡ true) (take l.k l.places)

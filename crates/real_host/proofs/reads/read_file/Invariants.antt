use Rattle.std.proofs.Common.{◌≤◌, vec_len}
use Rattle.real_host.proofs.reads.read_file.Given as goal

abbrev pub invariant-loop : goal.invariant-loop
invariant-loop g l = vec_len l.bytes ≤ l.limit

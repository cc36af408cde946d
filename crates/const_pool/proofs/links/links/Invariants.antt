use Rattle.std.proofs.Common.{◌≡◌, ◌+◌, ◌<◌, ◌^◌, length, drop}
use Rattle.std.specs.List.{flat_map}
use Rattle.byte_form.specs.Places.{State}
use Rattle.class_form.specs.Spelling.{spell_constant}
use Rattle.class_form.specs.PoolReading.{read_links}
use Rattle.const_pool.proofs.links.links.Given as goal

abbrev pub invariant-loop-constant : goal.invariant-loop-constant
invariant-loop-constant l = record {
  same : (s : State) → read_links l.pool l.at (drop l.constant-index l.pool.constants) s ≡ read_links l.pool l.first l.pool.constants s;
  within : l.at + length (flat_map spell_constant (drop l.constant-index l.pool.constants)) < 2 ^ 32;
}

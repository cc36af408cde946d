use Rattle.std.proofs.Common.{◌≡◌, drop, false}
use Rattle.class_writer.specs.Tests.{are_indices}
use Rattle.class_writer.proofs.check_pool.are_indices.Given as goal

abbrev pub invariant-loop-constant : goal.invariant-loop-constant
invariant-loop-constant l = are_indices l.wide (drop l.constant-index l.constants) ≡ are_indices false l.constants

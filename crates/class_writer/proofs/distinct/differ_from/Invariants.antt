use Rattle.std.proofs.Common.{◌≡◌, drop}
use Rattle.class_writer.specs.Names.{differ_from}
use Rattle.class_writer.proofs.distinct.differ_from.Given as goal

abbrev pub invariant-loop-name : goal.invariant-loop-name
invariant-loop-name l = differ_from l.pool l.last (drop l.name-index l.names) ≡ differ_from l.pool l.fn.first l.names

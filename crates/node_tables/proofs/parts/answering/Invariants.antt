use Rattle.std.proofs.Common.{◌≡◌}
use Rattle.node_tables.specs.Parts.{AreAnswers}
use Rattle.node_tables.proofs.parts.answering.Given as goal

abbrev pub invariant-loop-m : goal.invariant-loop-m
invariant-loop-m l = AreAnswers l.h l.flags.items l.m

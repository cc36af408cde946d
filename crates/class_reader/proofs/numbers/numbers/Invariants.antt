use Rattle.class_reader.specs.Numbers.{IsNumbering, first_in}
use Rattle.class_reader.proofs.numbers.numbers.Given as goal

abbrev pub invariant-loop-constant : goal.invariant-loop-constant
invariant-loop-constant l = IsNumbering l.pool.constants l.constant-index l.numbers.items (first_in l.firsts)

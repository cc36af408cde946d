use Rattle.std.proofs.Common.{◌≡◌, length}
use Rattle.std.specs.Prelude.{All}
use Rattle.hierarchy_tests.specs.TestClasses.{IsTestClass}
use Rattle.hierarchy_tests.proofs.look_up_tests.chain.Given as goal

abbrev pub invariant-loop-n : goal.invariant-loop-n
invariant-loop-n l = record {
  classes : All IsTestClass l.files.items;
  count : length l.files.items ≡ l.n;
}

use Rattle.std.proofs.Common.{◌≡◌, length}
use Rattle.std.specs.Prelude.{All}
use Rattle.hierarchy_tests.specs.TestClasses.{IsTestClass}
use Rattle.large_folders.proofs.folders.interfaces.Given as goal

abbrev pub invariant-loop-number : goal.invariant-loop-number
invariant-loop-number l = record {
  classes : All IsTestClass l.files.items;
  count : length l.files.items ≡ l.number;
}

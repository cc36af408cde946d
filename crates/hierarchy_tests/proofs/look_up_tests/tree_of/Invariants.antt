use Rattle.std.proofs.Common.{◌≡◌, length}
use Rattle.std.specs.Prelude.{All}
use Rattle.hierarchy_tests.specs.TestClasses.{IsTestClass}
use Rattle.hierarchy_tests.proofs.look_up_tests.tree_of.Given as goal

abbrev pub invariant-loop-shape : goal.invariant-loop-shape
invariant-loop-shape l = record {
  classes : All IsTestClass l.files.items;
  count : length l.files.items ≡ l.shape-index;
}

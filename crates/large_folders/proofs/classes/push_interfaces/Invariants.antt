use Rattle.hierarchy_tests.specs.TestClasses.{HasTestTexts}
use Rattle.large_folders.specs.Pools.{pool_of}
use Rattle.large_folders.proofs.classes.push_interfaces.Given as goal

abbrev pub invariant-loop-number : goal.invariant-loop-number
invariant-loop-number l = HasTestTexts (pool_of l.constants.items)

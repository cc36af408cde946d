use Rattle.graph_store.specs.Store.{IsPassOf, HasInputsOf}
use Rattle.widening_tests.proofs.needed.shared.Given as goal

abbrev pub invariant-loop-m : goal.invariant-loop-m
invariant-loop-m l = record {
  pass : IsPassOf l.store.cells.items l.pass;
  inputs : HasInputsOf l.f l.pass;
}

use Rattle.std.proofs.Common.{take}
use Rattle.dep_form.specs.Firsts.{node_count}
use Rattle.worklists.specs.Growth.{Grows}
use Rattle.worklists.proofs.Growing.{FromBelow}
use Rattle.exit_lists.specs.Exits.{IsExitOf, IsRising}
use Rattle.exit_lists.proofs.collecting.exits_below.Given as goal

abbrev pub invariant-loop-m : goal.invariant-loop-m
invariant-loop-m l = record {
  rising : IsRising (node_count (take l.m l.inputs)) l.exits.items;
  members : Grows l.initial.exits.items l.exits.items (FromBelow (IsExitOf l.inputs) l.m);
}

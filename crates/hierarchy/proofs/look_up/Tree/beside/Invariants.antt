use Rattle.std.proofs.Common.{ℕ, ◌+◌, ◌≤◌, ◌<◌, length, Option}
use Rattle.hierarchy.specs.Finds.{BesideUpwards}
use Rattle.hierarchy.proofs.Descents.{place_in}
use Rattle.hierarchy.proofs.look_up.Tree.beside.Given as goal

abbrev pub invariant-loop : goal.invariant-loop
invariant-loop l = record {
  within : l.at < length l.self.classes.items;
  places : place_in l.at l.self.order.items + l.index ≤ place_in l.class l.self.order.items;
  back : (found : Option ℕ) → BesideUpwards l.self.classes.items l.places l.at found → BesideUpwards l.self.classes.items l.places l.class found;
}

use Rattle.std.proofs.Common.{◌+◌, ◌≤◌, ◌<◌, length, Option}
use Rattle.class_form.specs.Classes.{Declared}
use Rattle.hierarchy.specs.Finds.{Upwards}
use Rattle.hierarchy.proofs.Descents.{place_in}
use Rattle.hierarchy.proofs.look_up.Tree.upwards.Given as goal

abbrev pub invariant-loop : goal.invariant-loop
invariant-loop l = record {
  within : l.at < length l.self.classes.items;
  places : place_in l.at l.self.order.items + l.index ≤ place_in l.class l.self.order.items;
  back : (found : Option Declared) → Upwards l.fn.wanted l.self.classes.items l.name l.descriptor l.at found → Upwards l.fn.wanted l.self.classes.items l.name l.descriptor l.class found;
}

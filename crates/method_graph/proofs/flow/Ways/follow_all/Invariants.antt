use Rattle.std.proofs.Common.{◌≡◌, ℕ, ◌-◌, ◌<◌, ◌≤◌, false, length, get_or}
use Rattle.method_graph.specs.Flows.{Adds, AreWays, Follows}
use Rattle.method_graph.proofs.flow.Ways.follow_all.Given as goal

abbrev pub invariant-loop-done : goal.invariant-loop-done
invariant-loop-done l = record {
  points : l.self.points ≡ l.initial.self.points;
  width : l.self.width ≡ l.initial.self.width;
  adds : Adds l.initial.self.words.items l.self.words.items l.changed;
  sound : AreWays l.flow l.initial.self.width l.initial.self.words.items → AreWays l.flow l.initial.self.width l.self.words.items;
  follows : l.changed ≡ false → (j : ℕ) (d : ℕ × ℕ) → length l.flow - l.done ≤ j → j < length l.flow → Follows l.initial.self.width l.self.words.items (get_or l.flow j d).0 (get_or l.flow j d).1;
}

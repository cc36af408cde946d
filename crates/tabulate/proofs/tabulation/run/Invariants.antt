use Rattle.std.proofs.Common.{◌≡◌, ◌+◌, ◌-◌, length, Contains}
use Rattle.slicer_ids.specs.declared.ids.ExitId.{ExitId}
use Rattle.tabulate.specs.Found.{Got, Todo, total}
use Rattle.tabulate.specs.States.{Holds, IsDone, AreWanting}
use Rattle.tabulate.proofs.Bounds.{cap}
use Rattle.tabulate.specs.Tables.{IsFirst}
use Rattle.tabulate.proofs.tabulation.run.Given as goal

abbrev pub invariant-loop-buffers : goal.invariant-loop-buffers
invariant-loop-buffers g l = record {
  graphs : g.G.Graphs.sound l.graphs × g.G.Graphs.later l.initial.graphs l.graphs;
  rows : g.R.Rows.sound l.rows × g.R.Rows.later l.initial.rows l.rows;
  holds : Holds l.f l.mode (IsFirst l.e l.more) (λ d. g.R.Rows.surely l.rows d l.mode) l.methods.items l.hands l.asked.items l.found.items l.queue.items;
  done : IsDone l.f l.mode l.hands (Got l.f l.found.items) (Todo l.f l.found.items);
  more : (d : ExitId) → Contains l.initial.asked.items d → Contains l.asked.items d;
  wanting : AreWanting (λ d. g.R.Rows.surely l.initial.rows d l.mode) l.initial.asked.items l.asked.items;
  turns : l.steps + total l.initial.found.items ≡ l.initial.steps + total l.found.items;
}

abbrev pub decreases-loop-buffers : goal.decreases-loop-buffers
decreases-loop-buffers g l = (cap l.f - total l.found.items) + length l.queue.items

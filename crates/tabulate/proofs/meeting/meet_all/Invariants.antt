use Rattle.std.proofs.Common.{◌≡◌, ◌+◌, take, Contains}
use Rattle.tabulate.specs.Found.{total}
use Rattle.tabulate.specs.States.{MeetStep}
use Rattle.tabulate.specs.Tables.{IsFirst}
use Rattle.tabulate.proofs.meeting.meet_all.Given as goal

abbrev pub invariant-loop-exit : goal.invariant-loop-exit
invariant-loop-exit g l = record {
  graphs : g.G.Graphs.sound l.graphs × g.G.Graphs.later l.initial.graphs l.graphs;
  rows : g.R.Rows.sound l.rows × g.R.Rows.later l.initial.rows l.rows;
  step : MeetStep l.f l.mode (IsFirst l.e l.more) (λ d. g.R.Rows.surely l.initial.rows d l.mode) (λ d. g.R.Rows.surely l.rows d l.mode) (Contains (take l.exit-index l.exits)) l.methods.items l.initial.hands l.hands l.initial.asked.items l.asked.items l.initial.found.items l.found.items l.initial.queue.items l.queue.items l.initial.steps l.steps;
  turns : l.steps + total l.initial.found.items ≡ l.initial.steps + total l.found.items;
}

use Rattle.std.proofs.Common.{◌≡◌, ◌+◌, take}
use Rattle.tabulate.specs.Found.{Goes, total}
use Rattle.tabulate.specs.Rules.{FromOne, Follows}
use Rattle.tabulate.proofs.following.follow.Given as goal

abbrev pub invariant-loop-edge : goal.invariant-loop-edge
invariant-loop-edge g l = record {
  goes : Goes l.f l.initial.found.items l.found.items l.initial.queue.items l.queue.items l.initial.steps l.steps (FromOne (Follows l.f l.mode l.hands l.n l.delta) (take l.edge-index l.edges));
  turns : l.steps + total l.initial.found.items ≡ l.initial.steps + total l.found.items;
}

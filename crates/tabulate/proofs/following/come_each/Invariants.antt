use Rattle.std.proofs.Common.{◌≡◌, ◌+◌, take}
use Rattle.tabulate.specs.Found.{Goes, total}
use Rattle.tabulate.specs.Rules.{FromOne, Comes}
use Rattle.tabulate.proofs.following.come_each.Given as goal

abbrev pub invariant-loop-back : goal.invariant-loop-back
invariant-loop-back g l = record {
  goes : Goes l.f l.initial.found.items l.found.items l.initial.queue.items l.queue.items l.initial.steps l.steps (FromOne (Comes l.f l.formal l.call l.delta l.from) (take l.back-index l.backs));
  turns : l.steps + total l.initial.found.items ≡ l.initial.steps + total l.found.items;
}

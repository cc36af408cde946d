use Rattle.std.proofs.Common.{◌≡◌, ◌+◌, take}
use Rattle.tabulate.specs.Found.{Goes, total}
use Rattle.tabulate.specs.Rules.{FromOne, Passes}
use Rattle.tabulate.proofs.following.pass_each.Given as goal

abbrev pub invariant-loop-argument : goal.invariant-loop-argument
invariant-loop-argument g l = record {
  goes : Goes l.f l.initial.found.items l.found.items l.initial.queue.items l.queue.items l.initial.steps l.steps (FromOne (Passes l.f l.exit l.call l.delta) (take l.argument-index l.arguments));
  turns : l.steps + total l.initial.found.items ≡ l.initial.steps + total l.found.items;
}

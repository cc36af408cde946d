use Rattle.std.proofs.Common.{take, ◌≡◌, []}
use Rattle.worklists.specs.Growth.{FromOne}
use Rattle.mod_ref.specs.Gains.{Gains}
use Rattle.method_facts.specs.Numbers.{HasNumber}
use Rattle.method_facts.proofs.locations.gather.Given as goal

abbrev pub invariant-loop-m : goal.invariant-loop-m
invariant-loop-m l = Gains l.initial.all.items l.all.items (FromOne (HasNumber l.lists) (take l.m-index l.methods))

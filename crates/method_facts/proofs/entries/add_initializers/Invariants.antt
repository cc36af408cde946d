use Rattle.std.proofs.Common.{◌≡◌}
use Rattle.worklists.proofs.Growing.{FromBelow}
use Rattle.mod_ref.specs.Gains.{Gains}
use Rattle.method_facts.specs.Entering.{AtNumber}
use Rattle.method_facts.proofs.entries.add_initializers.Given as goal

abbrev pub invariant-loop-m : goal.invariant-loop-m
invariant-loop-m l = Gains l.initial.methods.items l.methods.items (FromBelow (AtNumber l.system l.h) l.m)

use Rattle.std.proofs.Common.{take}
use Rattle.constraints.specs.Calls.{AreRulesOf}
use Rattle.constraints.proofs.call_sites.outside_rules.Given as goal

abbrev pub invariant-loop-call : goal.invariant-loop-call
invariant-loop-call l = AreRulesOf (take l.call-index l.calls) l.rules.items

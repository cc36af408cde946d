use Rattle.std.proofs.Common.{◌≡◌, ◌+◌}
use Rattle.worklists.specs.Growth.{Grows}
use Rattle.worklists.proofs.Growing.{FromBelow}
use Rattle.reaching_defs.specs.Starts.{start}
use Rattle.reaching_defs.proofs.starts.put_slots.Given as goal

abbrev pub invariant-loop-i : goal.invariant-loop-i
invariant-loop-i l = Grows l.initial.starts.items l.starts.items (FromBelow (λ i x. x ≡ start (l.first + i) l.def) l.i)

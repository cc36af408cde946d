use Rattle.std.specs.Prelude.{◌≡◌, ◌+◌, ◌-◌, ◌≤◌, length}
use Rattle.program_form.specs.Programs.{Program}
use Rattle.signature_tables.specs.Programs.{IsOfClasses}
use Rattle.constraint_rules.specs.Supers.{IsClimbed}
use Rattle.constraint_rules.proofs.supers.upwards.Given as goal

abbrev pub invariant-loop-next : goal.invariant-loop-next
invariant-loop-next l = (p : Program) → IsOfClasses l.h p → IsClimbed p.classes l.fn.first l.classes.items l.next

abbrev pub decreases-loop-next : goal.decreases-loop-next
decreases-loop-next l = length l.h + 2 - length l.classes.items

use Rattle.std.specs.Prelude.{List, take}
use Rattle.worklists.specs.Growth.{Grows, FromOne}
use Rattle.dep_form.specs.declared.system.System.{System}
use Rattle.program_form.specs.Programs.{Program}
use Rattle.constraint_form.specs.Variables.{Meaning}
use Rattle.constraint_rules.specs.Settings.{IsSetting, place_of}
use Rattle.constraint_rules.specs.Slots.{IsJoinedBy}
use Rattle.constraint_rules.proofs.values.push_joining.Given as goal

abbrev pub invariant-loop-slot_use : goal.invariant-loop-slot_use
invariant-loop-slot_use l = (p : Program) (s : System) (names : List Meaning) → IsSetting l.t p s names →
    Grows l.initial.rules.items l.rules.items (FromOne (IsJoinedBy p s names (place_of l.x) l.x.body.now) (take l.slot_use-index l.slot_use-items))

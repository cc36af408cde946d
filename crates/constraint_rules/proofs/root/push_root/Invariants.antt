use Rattle.std.specs.Prelude.{◌≡◌, List, take}
use Rattle.worklists.specs.Growth.{Grows, FromOne}
use Rattle.dep_form.specs.declared.system.System.{System}
use Rattle.program_form.specs.Programs.{Program}
use Rattle.constraint_form.specs.Variables.{Meaning}
use Rattle.constraint_rules.specs.Entries.{IsEntryRule}
use Rattle.constraint_rules.specs.Settings.{IsSetting}
use Rattle.constraint_rules.proofs.root.push_root.Given as goal

abbrev pub invariant-loop-entry : goal.invariant-loop-entry
invariant-loop-entry l = (p : Program) (s : System) (names : List Meaning) → IsSetting l.t p s names →
    Grows l.initial.rules.items l.rules.items (FromOne (IsEntryRule p s) (take l.entry-index l.entries))

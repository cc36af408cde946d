use Rattle.std.specs.Prelude.{List, take}
use Rattle.worklists.specs.Growth.{Grows, FromOne}
use Rattle.dep_form.specs.declared.system.System.{System}
use Rattle.program_form.specs.Programs.{Program}
use Rattle.constraint_form.specs.Variables.{Meaning}
use Rattle.constraint_rules.specs.Handlers.{IsCaughtIn}
use Rattle.constraint_rules.specs.Settings.{IsSetting, IsPlaced, place_of}
use Rattle.constraint_rules.proofs.handlers.push_catching.Given as goal

abbrev pub invariant-loop-attribute : goal.invariant-loop-attribute
invariant-loop-attribute l = (p : Program) (s : System) (names : List Meaning) → IsSetting l.t p s names → IsPlaced p l.x →
    Grows l.initial.rules.items l.rules.items (FromOne (IsCaughtIn p s names (place_of l.x)) (take l.attribute-index l.attribute-items))

use Rattle.std.specs.Prelude.{List, take}
use Rattle.worklists.specs.Growth.{Grows, FromOne}
use Rattle.class_form.specs.declared.class_file.Handler.{Handler}
use Rattle.dep_form.specs.declared.rules.Rule.{Rule}
use Rattle.dep_form.specs.declared.system.System.{System}
use Rattle.program_form.specs.Programs.{Program}
use Rattle.constraint_form.specs.Variables.{Meaning}
use Rattle.constraint_rules.specs.Handlers.{Covers, IsCaughtBy}
use Rattle.constraint_rules.specs.Settings.{IsSetting, IsPlaced, place_of}
use Rattle.constraint_rules.proofs.handlers.push_handlers.Given as goal

abbrev pub invariant-loop-handler : goal.invariant-loop-handler
invariant-loop-handler l = (p : Program) (s : System) (names : List Meaning) → IsSetting l.t p s names → IsPlaced p l.x →
    Grows l.initial.rules.items l.rules.items (FromOne (λ (h : Handler) (r : Rule). Covers l.x.point.now.pc h × IsCaughtBy p s names (place_of l.x) h r) (take l.handler-index l.handlers))

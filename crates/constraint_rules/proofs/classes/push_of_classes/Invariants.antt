use Rattle.std.specs.Prelude.{take}
use Rattle.worklists.specs.Growth.{Grows, FromOne}
use Rattle.slicer_ids.specs.declared.ids.ClassId.{ClassId}
use Rattle.constraint_rules.specs.Forms.{EnterOf}
use Rattle.constraint_rules.specs.Needs.{IsListedOf}
use Rattle.constraint_rules.proofs.classes.push_of_classes.Given as goal

abbrev pub invariant-loop-class : goal.invariant-loop-class
invariant-loop-class l = Grows l.initial.rules.items l.rules.items (FromOne (λ (k : ClassId). EnterOf (IsListedOf l.initializers k)) (take l.class-index l.classes))

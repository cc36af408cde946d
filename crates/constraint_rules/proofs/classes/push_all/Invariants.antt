use Rattle.std.specs.Prelude.{◌≡◌, take}
use Rattle.worklists.specs.Growth.{Grows, FromOne}
use Rattle.slicer_ids.specs.declared.ids.ClassId.{ClassId}
use Rattle.slicer_ids.specs.declared.ids.MethodId.{MethodId}
use Rattle.constraint_rules.specs.Forms.{EnterOf}
use Rattle.constraint_rules.proofs.classes.push_all.Given as goal

abbrev pub invariant-loop-entry : goal.invariant-loop-entry
invariant-loop-entry l = Grows l.initial.rules.items l.rules.items (FromOne (λ (x : ClassId × MethodId). EnterOf (λ m. m ≡ x.1)) (take l.entry-index l.initializers))

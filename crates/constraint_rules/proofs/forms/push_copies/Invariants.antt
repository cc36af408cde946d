use Rattle.std.specs.Prelude.{◌≡◌, take}
use Rattle.worklists.specs.Growth.{Grows, FromOne}
use Rattle.dep_form.specs.declared.rules.Var.{Var}
use Rattle.constraint_rules.specs.One.{IsFound}
use Rattle.constraint_rules.specs.Forms.{CopyOf}
use Rattle.constraint_rules.proofs.forms.push_copies.Given as goal

abbrev pub invariant-loop-from : goal.invariant-loop-from
invariant-loop-from l = Grows l.initial.rules.items l.rules.items (FromOne (λ (v : Var). CopyOf (λ x. x ≡ v) (IsFound l.to) l.keep) (take l.from-index l.froms))

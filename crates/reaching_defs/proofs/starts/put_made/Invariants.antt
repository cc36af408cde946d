use Rattle.std.proofs.Common.{◌≡◌, take}
use Rattle.worklists.specs.Growth.{Grows, FromOne}
use Rattle.class_form.specs.declared.body.Def.TheVariants.{Value}
use Rattle.reaching_defs.specs.Starts.{start}
use Rattle.reaching_defs.proofs.starts.put_made.Given as goal

abbrev pub invariant-loop-slot : goal.invariant-loop-slot
invariant-loop-slot l = Grows l.initial.starts.items l.starts.items (FromOne (λ slot x. x ≡ start slot (Value l.point.pc)) (take l.slot-index l.makes))

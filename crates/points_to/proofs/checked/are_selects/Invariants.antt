use Rattle.std.proofs.Common.{◌<◌, ℕ, Option}
use Rattle.slicer_ids.specs.declared.ids.MethodId.{MethodId}
use Rattle.points_to.specs.Sizes.{counts}
use Rattle.dep_form.specs.Within.{IfMethod}
use Rattle.slicer_ids.specs.declared.ids.ClassId.{ClassId}
use Rattle.std.proofs.Common.{get_or}
use Rattle.points_to.proofs.checked.are_selects.Given as goal

abbrev pub invariant-loop-select : goal.invariant-loop-select
invariant-loop-select l = (k : ℕ) (d : (ℕ × ClassId × Option MethodId)) → k < l.select-index → (λ (s : ℕ × ClassId × Option MethodId). IfMethod (counts l.n) s.2) (get_or l.selects k d)

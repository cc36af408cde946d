use Rattle.std.proofs.Common.{◌≡◌, ◌<◌, ℕ, Some, length, get_or}
use Rattle.std.specs.Prelude.{slice_get}
use Rattle.class_form.specs.declared.body.Point.{Point}
use Rattle.reaching_defs.proofs.points.index_of.Given as goal

abbrev pub invariant-loop-k : goal.invariant-loop-k
invariant-loop-k l = record {
  size : length l.index.items ≡ length l.initial.index.items;
  found : (j : ℕ) (p : Point) → j < l.k → slice_get l.points j ≡ Some p → (p.pc < length l.index.items) × (get_or l.index.items p.pc 0 ≡ j);
}

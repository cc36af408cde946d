-- The points of the first instructions.
use Rattle.std.specs.Prelude.{◌≡◌, ◌<◌, ℕ, List, AllPairs, Contains, slice_index}
use Rattle.class_form.specs.declared.body.Instr.{Instr}
use Rattle.class_form.specs.declared.body.Point.{Point}
use Rattle.class_form.specs.Shapes.{IsReachable, IsPointOf}
use Rattle.code_shape.specs.declared.search.Code.{Code}
use Rattle.code_shape.specs.declared.search.Search.{Search}
use Rattle.code_shape.specs.Codes.{IsAt}

-- the points of the first instructions
pub record ArePointsTo (c : Code) (s : Search) (n : ℕ) (points : List Point) : Type 0 where
  pub each : (p : Point) → Contains points p → (k : ℕ) × (i : Instr) × (k < n) × IsAt c.instrs.now k i × IsReachable c.body.now c.instrs.now i.pc × IsPointOf c.body.now i p × (p.depth ≡ slice_index s.depths.items k)
  pub order : AllPairs (λ (a b : Point). a.pc < b.pc) points
  pub whole : (k : ℕ) (i : Instr) → k < n → IsAt c.instrs.now k i → IsReachable c.body.now c.instrs.now i.pc → (p : Point) × Contains points p × (p.pc ≡ i.pc)

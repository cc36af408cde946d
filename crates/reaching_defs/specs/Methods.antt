-- What is the same for all definitions of a method.
use Rattle.std.specs.Prelude.{◌<◌, ◌≤◌, All}
use Rattle.class_form.specs.Reaching.{IsFlow}
use Rattle.reaching_defs.specs.declared.spread.Method.{Method}
use Rattle.reaching_defs.specs.Points.{IsIndex}

pub record IsMethod (m : Method) : Type 0 where
  pub flow : IsFlow m.shape.now
  pub index : IsIndex m.shape.now.points m.index.now
  pub depth : All (λ p. p.depth ≤ m.depth) m.shape.now.points
  pub some : 0 < m.depth
  pub small : m.depth ≤ 65535

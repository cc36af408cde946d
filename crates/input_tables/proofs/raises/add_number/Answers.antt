use Rattle.std.proofs.Common.{ℕ, List, subst}
use Rattle.std.specs.Prelude.{OnOk}
use Rattle.mod_ref.specs.Gains.{Gains}
use Rattle.mod_ref.proofs.Touched.{told}
use Rattle.worklists.specs.Growth.{FromOne}
use Rattle.input_tables.specs.Edges.{IsRaise, IsRaiseAt}
use Rattle.input_tables.proofs.RowEdges.{raise_at}
use Rattle.input_tables.proofs.raises.add_number.Goals as goal

pub returns : goal.returns
returns c =
    let t = c.point_at-point.result.now in
    let old = c.args.steps.now.items in
    let new = c.add_handlers.new.steps.items in
    told c.add_handlers.result old new (FromOne (IsRaise c.args.q) t.handlers) (IsRaiseAt c.args.points.now c.args.q) (raise_at c.args.points.now c.args.q t c.point_at-point.ensures)
    (subst (λ (hs : List ℕ). OnOk c.add_handlers.result (Gains old new (FromOne (IsRaise c.args.q) hs))) c.items.ensures c.add_handlers.ensures)

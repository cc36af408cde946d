use Rattle.std.proofs.Common.{◌≡◌, sym, ◌∙◌}
use Rattle.mod_ref.proofs.Gaining.{gains_none}
use Rattle.mod_ref.proofs.Touched.{told}
use Rattle.input_tables.specs.Uses.{IsCalleeUse, IsUseAt}
use Rattle.input_tables.proofs.MethodUses.{callee_is}
use Rattle.input_tables.proofs.heap.add_callee.Goals as goal

pub returns-in-None : goal.returns-in-None
returns-in-None c = gains_none c.args.uses.now.items (IsCalleeUse c.args.points.now c.args.first c.args.row.now c.args.write c.args.node) (λ x (pc, n, e, a). cc (sym c.in-None.is ∙ (c.callee_at.ensures pc n).1 e))

pub returns-in-Some : goal.returns-in-Some
returns-in-Some c = told c.add_use.result c.args.uses.now.items c.add_use.new.uses.items (IsUseAt c.args.points.now c.args.first c.args.row.now c.in-Some.pc c.args.node c.in-Some.n) (IsCalleeUse c.args.points.now c.args.first c.args.row.now c.args.write c.args.node)
    (callee_is c.args.points.now c.args.first c.args.row.now c.args.write c.args.node c.in-Some.pc c.in-Some.n c.callee_at.result c.callee_at.ensures c.in-Some.is) c.add_use.ensures

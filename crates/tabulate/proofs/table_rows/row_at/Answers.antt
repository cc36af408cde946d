use Rattle.std.proofs.Common.{ℕ, sym, subst, ap, ◌∙◌}
use Rattle.tabulate.specs.Frames.{method_of}
use Rattle.tabulate.specs.Methods.{IsMet}
use Rattle.tabulate.proofs.Placing.{same_exit_node}
use Rattle.tabulate.proofs.ModeEdges.{exit_low}
use Rattle.tabulate.proofs.table_rows.row_at.Goals as goal

pub owner-requires : goal.owner-requires
owner-requires c = exit_low c.args.f.now c.args.exit c.exit_node.result c.exit_node.ensures

pub met_method-method-requires-clause-met : goal.met_method-method-requires-clause-met
met_method-method-requires-clause-met c =
    let x = c.requires.exit in
    let p = c.args.f.now in
    subst (λ (k : ℕ). IsMet c.args.methods.now.items k) (ap (method_of p) (same_exit_node p c.args.exit x.0 c.exit_node.result x.1 c.exit_node.ensures) ∙ sym c.owner.ensures.is) x.2

pub row_of-requires-clause-exit : goal.row_of-requires-clause-exit
row_of-requires-clause-exit c = (c.exit_node.result, c.exit_node.ensures, (exit_low c.args.f.now c.args.exit c.exit_node.result c.exit_node.ensures, sym c.owner.ensures.is ∙ sym c.met_method-method.ensures.id))

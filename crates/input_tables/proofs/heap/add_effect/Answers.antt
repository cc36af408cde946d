use Rattle.std.proofs.Common.{subst}
use Rattle.std.specs.Prelude.{OnOk}
use Rattle.dep_form.specs.declared.node.Node.{Node}
use Rattle.mod_ref.specs.Gains.{Gains}
use Rattle.input_tables.specs.Uses.{IsUseAt}
use Rattle.input_tables.proofs.heap.add_effect.Goals as goal

pub returns : goal.returns
returns c = subst (λ (k : Node). OnOk c.add_use.result (Gains c.args.uses.now.items c.add_use.new.uses.items (IsUseAt c.args.points.now c.args.first c.args.row.now c.args.effect.at.pc k c.args.effect.location))) c.node_at-node.ensures c.add_use.ensures

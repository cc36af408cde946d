use Rattle.std.proofs.Common.{◌≡◌, List, length, ap, arith, subst}
use Rattle.dep_form.specs.declared.rules.MethodVars.{MethodVars}
use Rattle.node_tables.specs.Rows.{AreTotals}
use Rattle.node_tables.proofs.NodeCounts.{no_totals}
use Rattle.node_tables.proofs.counts.count_methods.Goals as goal

pub loop-m-init : goal.loop-m-init
loop-m-init c = no_totals c.args.scene.now

pub returns : goal.returns
returns c =
    let x = c.args.scene.now in
    let end : c.loop-m.m ≡ length x.system.now.methods = omega (arith, c.loop-m-test.false, c.loop-m.auto.m-end, ap (λ (ks : List MethodVars). length ks) c.items-m-end.ensures) in
    subst (λ k. AreTotals x k c.loop-m.totals.nodes c.loop-m.totals.words) end c.loop-m.invariant

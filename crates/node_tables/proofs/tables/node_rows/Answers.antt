use Rattle.std.proofs.Common.{◌≡◌, List, length, ap, arith, sym, ◌∙◌, subst, ◌++◌, ◌∷◌, []}
use Rattle.dep_form.specs.declared.rules.MethodVars.{MethodVars}
use Rattle.node_tables.proofs.RowTables.{no_rows, rows_more, rows_all}
use Rattle.node_tables.proofs.tables.node_rows.Goals as goal

pub loop-m-init : goal.loop-m-init
loop-m-init c = no_rows c.args.scene.now c.new-rows.result.items c.new-rows.ensures.items

pub loop-m-preserved : goal.loop-m-preserved
loop-m-preserved c = rows_more c.args.scene.now c.loop-m.m c.loop-m.rows.items c.push_row.new.rows.items c.in_ok-row.row c.in_ok-push_row.ensures c.loop-m.invariant c.in_ok-row.ensures

pub returns : goal.returns
returns c =
    let s = c.args.scene.now.system.now in
    let end : c.loop-m.m ≡ length s.methods = omega (arith, c.loop-m-test.false, c.loop-m.auto.m-end, ap (λ (ks : List MethodVars). length ks) c.items-m-end.ensures) in
    rows_all c.args.scene.now c.loop-m.m c.loop-m.rows.items c.push_row-2.new.rows.items c.in_ok-last.last end c.in_ok-push_row-2.ensures c.loop-m.invariant c.in_ok-last.ensures

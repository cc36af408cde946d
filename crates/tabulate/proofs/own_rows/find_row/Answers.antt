use Rattle.std.proofs.Common.{ℕ, List, length, get_or, sym, subst, ap, ◌∙◌, arith}
use Rattle.std.proofs.lemmas.List.{take_all}
use Rattle.tabulate.specs.declared.table.Table.{Table}
use Rattle.tabulate.specs.OwnRows.{HasRow}
use Rattle.tabulate.proofs.OwnRowLaws.{none_more}
use Rattle.tabulate.proofs.own_rows.find_row.Goals as goal

pub loop-table-preserved : goal.loop-table-preserved
loop-table-preserved c =
    let all = c.deref-table-items.ensures.value in
    none_more c.args.e c.args.mode c.args.tables.now.items c.loop-table.table-index c.table-item.result (omega (arith, c.loop-table-test.true, ap length all)) (c.table-item.is ∙ ap (λ ys. get_or ys c.loop-table.table-index c.table-item.result) all) c.loop-table.invariant c.in_default.ensures

pub returns : goal.returns
returns c = λ row k. c.loop-table.invariant row (subst (λ (ys : List Table). HasRow ys c.args.e c.args.mode row) (sym (take_all c.loop-table.table-index c.args.tables.now.items (omega (arith, c.loop-table-test.false, ap length c.deref-table-items.ensures.value)))) k)

use Rattle.std.proofs.Common.{List, subst}
use Rattle.text_tables.specs.LineGroups.{AreRuns}
use Rattle.text_tables.specs.declared.lines.LinePlace.{LinePlace}
use Rattle.text_tables.proofs.LineTables.{table_described}
use Rattle.text_tables.proofs.lines.line_table.Goals as goal

pub returns : goal.returns
returns c = λ p s asked coded are.
    let runs = subst (λ (xs : List LinePlace). AreRuns xs c.in_ok-groups.groups.items) c.as_slice.ensures.value c.in_ok-groups.ensures in
    table_described c.args.texts.now c.in_ok-all.all.items c.in_order-places.result.items c.in_ok-groups.groups.items c.from_vec.result c.in_ok-all.ensures c.in_order-places.ensures.order c.in_order-places.ensures.members runs c.from_vec.ensures p s asked coded are

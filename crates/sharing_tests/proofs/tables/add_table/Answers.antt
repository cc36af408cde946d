use Rattle.std.proofs.Common.{◌∙◌, sym, subst}
use Rattle.slicer_ids.specs.declared.ids.Mode.{Mode}
use Rattle.dep_form.specs.declared.facts.Facts.{Facts}
use Rattle.dep_form.specs.Summaries.{IsRow}
use Rattle.sharing_tests.proofs.tables.add_table.Goals as goal

pub add-requires-clause-rows : goal.add-requires-clause-rows
add-requires-clause-rows g c = λ d row k.
    let t = c.in_ok-table.ensures.table in
    subst (λ (f : Facts). IsRow f c.in_ok-table.table.mode d row) (sym (c.tabulate.ensures.rows.1.0 ∙ c.requires.rows.1)) (subst (λ (m : Mode). IsRow c.args.f.now m d row) (sym t.mode_is) (t.rows d row k))

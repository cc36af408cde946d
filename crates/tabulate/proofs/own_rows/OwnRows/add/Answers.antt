use Rattle.std.proofs.Common.{List, sym, subst}
use Rattle.dep_form.specs.Summaries.{IsRow}
use Rattle.tabulate.specs.declared.table.Table.{Table}
use Rattle.tabulate.specs.OwnRows.{HasRow, facts_of_rows}
use Rattle.tabulate.proofs.OwnRowLaws.{row_added}
use Rattle.tabulate.proofs.own_rows.OwnRows.add.Goals as goal

pub returns-in_err-push-clause-sound : goal.returns-in_err-push-clause-sound
returns-in_err-push-clause-sound c = λ e mode row h. c.requires.sound e mode row (subst (λ (ys : List Table). HasRow ys e mode row) c.in_err-push.ensures.items h)

pub returns-clause-sound : goal.returns-clause-sound
returns-clause-sound c = row_added (λ e mode row. IsRow (facts_of_rows c.args.self.now) mode e row) c.args.self.now.tables.items c.push.new.self.items c.args.table c.in_ok-push.ensures.items c.requires.sound c.requires.rows

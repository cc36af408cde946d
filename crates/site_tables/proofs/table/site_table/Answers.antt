use Rattle.site_tables.proofs.WholeTable.{if_ok, if_err, table_listed, table_refused}
use Rattle.site_tables.proofs.table.site_table.Goals as goal

pub returns-in-Ok-clause-listed : goal.returns-in-Ok-clause-listed
returns-in-Ok-clause-listed c =
    if_ok c.limited.result (λ sites h. table_listed c.args.h.now c.args.bodies.now c.requires.bodies c.in-Ok.table c.in-Ok.ensures sites h.0 h.1) c.limited.ensures.listed

pub returns-in-Ok-clause-limit : goal.returns-in-Ok-clause-limit
returns-in-Ok-clause-limit c = if_err c.limited.result (λ e h. table_refused c.args.h.now c.args.bodies.now c.in-Ok.table c.in-Ok.ensures e h.0 h.1) c.limited.ensures.limit

use Rattle.tabulate.proofs.RowLaws.{set_bit}
use Rattle.tabulate.proofs.table_rows.with_bit.Goals as goal

pub returns-then-set : goal.returns-then-set
returns-then-set c = set_bit c.args.bits c.args.bit c.args.set c.requires c.if-set.true

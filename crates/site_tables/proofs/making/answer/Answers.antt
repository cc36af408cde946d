use Rattle.std.proofs.Common.{sym}
use Rattle.site_tables.proofs.Outcomes.{result_in}
use Rattle.site_tables.proofs.making.answer.Goals as goal

pub returns-in-Some : goal.returns-in-Some
returns-in-Some c = result_in c.args.pool.now c.args.index c.in-Some.descriptor.now c.of_result.result (sym c.in-Some.ensures) c.of_result.ensures

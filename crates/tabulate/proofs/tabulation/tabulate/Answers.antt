use Rattle.std.proofs.lemmas.Result.{IfOk-weaker}
use Rattle.tabulate.proofs.TableLaws.{table_alone}
use Rattle.tabulate.proofs.tabulation.tabulate.Goals as goal

pub returns-clause-table : goal.returns-clause-table
returns-clause-table g c = IfOk-weaker c.tabulate_with.result _ _ (λ t is. table_alone c.args.f.now c.args.mode c.args.e t _ _ is) c.tabulate_with.ensures.table

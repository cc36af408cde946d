use Rattle.mod_ref.proofs.TableRows.{row_pushed}
use Rattle.mod_ref.proofs.rows.push_to.Goals as goal

pub returns-clause-gain : goal.returns-clause-gain
returns-clause-gain c = row_pushed c.args.rows.now.items c.args.row c.index_mut.result.now c.push.new.self c.args.method c.requires c.index_mut.ensures.value c.in_ok-push.ensures.items

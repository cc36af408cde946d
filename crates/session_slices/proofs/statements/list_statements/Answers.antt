use Rattle.session_slices.proofs.Listing.{listed}
use Rattle.session_slices.proofs.statements.list_statements.Goals as goal

pub returns-clause-statements : goal.returns-clause-statements
returns-clause-statements c = listed c.args.f.now c.args.walk.now c.collect.new.found.items c.put_in_order.new.found.items c.collect.ensures.members c.put_in_order.ensures.order c.put_in_order.ensures.members

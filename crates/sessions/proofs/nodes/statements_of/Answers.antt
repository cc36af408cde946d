use Rattle.std.proofs.Common.{Contains}
use Rattle.dep_form.specs.Slices.{Slice}
use Rattle.widening.specs.Widened.{seeds_of, expansions_of}
use Rattle.sessions.proofs.Listing.{listed}
use Rattle.sessions.proofs.nodes.statements_of.Goals as goal

pub returns : goal.returns
returns c = listed c.args.f.now (Slice c.args.f.now.inputs (Contains (expansions_of c.args.wide.now)) (Contains (seeds_of c.args.wide.now))) c.in_ok-found.found.items c.put_in_order.new.found.items c.in_ok-found.ensures c.put_in_order.ensures.order c.put_in_order.ensures.members

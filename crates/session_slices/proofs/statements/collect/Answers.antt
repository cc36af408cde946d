use Rattle.std.proofs.Common.{Contains, arith}
use Rattle.dep_form.specs.Inputs.{BelongsTo}
use Rattle.thin_slice.specs.Walks.{nodes_of}
use Rattle.session_slices.proofs.Listing.{no_statements_yet, statements_more, all_statements}
use Rattle.session_slices.proofs.statements.collect.Goals as goal

pub loop-n-init : goal.loop-n-init
loop-n-init c = record {
  members = no_statements_yet (λ n s. Contains (nodes_of c.args.walk.now) n × BelongsTo c.args.f.now.inputs n s) c.clear.new.self.items c.clear.ensures.items;
  len = omega (arith, c.clear.ensures.len);
  room = omega (arith, c.clear.ensures.capacity, c.requires.room);
}

pub loop-n-preserved : goal.loop-n-preserved
loop-n-preserved c = record {
  members = statements_more (λ n s. Contains (nodes_of c.args.walk.now) n × BelongsTo c.args.f.now.inputs n s) c.loop-n.found.items c.add_found.new.found.items c.loop-n.n c.loop-n.invariant.members c.add_found.ensures.members;
  len = omega (arith, c.loop-n.invariant.len, c.add_found.ensures.len);
  room = omega (arith, c.loop-n.invariant.room, c.add_found.ensures.capacity);
}

pub add_found-requires-clause-room : goal.add_found-requires-clause-room
add_found-requires-clause-room c = omega (arith, c.loop-n.invariant.len, c.loop-n.invariant.room, c.loop-n-test.true)

pub returns-clause-members : goal.returns-clause-members
returns-clause-members c = all_statements c.args.f.now c.args.walk.now c.loop-n.found.items c.loop-n.n c.args.size c.requires.walk c.loop-n.invariant.members c.loop-n-test.false c.requires.size

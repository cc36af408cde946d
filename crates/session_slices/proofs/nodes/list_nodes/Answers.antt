use Rattle.std.proofs.Common.{Contains, arith}
use Rattle.dep_form.specs.Slices.{NodesOf}
use Rattle.session_slices.proofs.Listing.{no_nodes_yet, nodes_more, all_nodes}
use Rattle.session_slices.proofs.nodes.list_nodes.Goals as goal

pub loop-n-init : goal.loop-n-init
loop-n-init c = record {
  members = no_nodes_yet (NodesOf c.args.f.now.inputs (Contains c.args.seeds.now)) c.clear.new.self.items c.clear.ensures.items;
  len = omega (arith, c.clear.ensures.len);
  room = omega (arith, c.clear.ensures.capacity, c.requires.room);
}

pub loop-n-preserved : goal.loop-n-preserved
loop-n-preserved c = record {
  members = nodes_more (NodesOf c.args.f.now.inputs (Contains c.args.seeds.now)) c.loop-n.nodes.items c.add_node.new.nodes.items c.loop-n.n c.loop-n.invariant.members c.add_node.ensures.members;
  len = omega (arith, c.loop-n.invariant.len, c.add_node.ensures.len);
  room = omega (arith, c.loop-n.invariant.room, c.add_node.ensures.capacity);
}

pub add_node-requires-clause-room : goal.add_node-requires-clause-room
add_node-requires-clause-room c = omega (arith, c.loop-n.invariant.len, c.loop-n.invariant.room, c.loop-n-test.true)

pub returns-clause-members : goal.returns-clause-members
returns-clause-members c = all_nodes c.args.f.now c.args.seeds.now c.loop-n.nodes.items c.loop-n.n c.args.size c.loop-n.invariant.members c.loop-n-test.false c.requires.size

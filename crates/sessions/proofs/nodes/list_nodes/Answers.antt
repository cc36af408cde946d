use Rattle.std.proofs.Common.{Contains, arith}
use Rattle.dep_form.specs.Slices.{NodesOf}
use Rattle.sessions.proofs.Listing.{no_nodes_yet, nodes_more, all_nodes}
use Rattle.sessions.proofs.nodes.list_nodes.Goals as goal

pub loop-n-init : goal.loop-n-init
loop-n-init c = no_nodes_yet (NodesOf c.args.f.now.inputs (Contains c.args.seeds.now)) c.new-nodes.result.items c.new-nodes.ensures.items

pub loop-n-preserved : goal.loop-n-preserved
loop-n-preserved c = nodes_more (NodesOf c.args.f.now.inputs (Contains c.args.seeds.now)) c.loop-n.nodes.items c.add_node.new.nodes.items c.loop-n.n c.loop-n.invariant c.in_ok-add_node.ensures

pub returns : goal.returns
returns c = all_nodes c.args.f.now c.args.seeds.now c.loop-n.nodes.items c.loop-n.n c.count_nodes-size.result c.loop-n.invariant c.loop-n-test.false c.count_nodes-size.ensures

use Rattle.std.proofs.Common.{[]}
use Rattle.dep_form.specs.declared.node.Node.TheVariants.{HeapOut}
use Rattle.method_graph.proofs.Standing.{heads_more, heads_are, out_one}
use Rattle.method_graph.proofs.heads.list_exits.Goals as goal

pub loop-k-preserved : goal.loop-k-preserved
loop-k-preserved c = heads_more (λ x. HeapOut x) out_one c.args.first c.args.nodes.now c.loop-k.k _ [] c.loop-k.exits.items c.add_exit.new.exits.items c.loop-k-test.true c.loop-k.invariant c.in_ok-add_exit.ensures

pub returns : goal.returns
returns c = heads_are (λ x. HeapOut x) out_one c.args.first c.args.nodes.now c.loop-k.k c.loop-k.exits.items c.loop-k-test.false c.loop-k.invariant

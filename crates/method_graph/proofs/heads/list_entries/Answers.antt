use Rattle.std.proofs.Common.{[]}
use Rattle.dep_form.specs.declared.node.Node.TheVariants.{HeapIn}
use Rattle.method_graph.proofs.Standing.{heads_more, heads_are, in_one}
use Rattle.method_graph.proofs.heads.list_entries.Goals as goal

pub loop-k-preserved : goal.loop-k-preserved
loop-k-preserved c = heads_more (λ x. HeapIn x) in_one c.args.first c.args.nodes.now c.loop-k.k _ [] c.loop-k.entries.items c.add_entry.new.entries.items c.loop-k-test.true c.loop-k.invariant c.in_ok-add_entry.ensures

pub returns : goal.returns
returns c = heads_are (λ x. HeapIn x) in_one c.args.first c.args.nodes.now c.loop-k.k c.loop-k.entries.items c.loop-k-test.false c.loop-k.invariant

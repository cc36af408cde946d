use Rattle.edge_tables.proofs.LinkLists.{links_are}
use Rattle.edge_tables.proofs.links.sorted_links.Goals as goal

pub returns : goal.returns
returns c = links_are c.args.by_target c.args.scene.now.system.now c.args.scene.now.entries.now c.new-links.result.items c.add_calls.new.links.items c.add_entries.new.links.items c.in_order.result.items c.new-links.ensures.items
    c.in_ok-add_calls.ensures c.in_ok-add_entries.ensures c.in_order.ensures.order c.in_order.ensures.members

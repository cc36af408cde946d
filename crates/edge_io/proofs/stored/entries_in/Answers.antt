use Rattle.edge_io.proofs.Entries.{added}
use Rattle.edge_io.proofs.stored.entries_in.Goals as goal

pub loop-stored-preserved : goal.loop-stored-preserved
loop-stored-preserved c =
    added c.args.files.now c.args.folder.now c.loop-stored.stored-index c.stored-item.result c.loop-stored.items.items c.add_entry.new.items.items c.requires c.loop-stored-test.true c.stored-item.is c.loop-stored.invariant c.in_ok-add_entry.ensures

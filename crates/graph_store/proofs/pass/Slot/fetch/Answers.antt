use Rattle.graph_store.proofs.Slots.{has_graph}
use Rattle.graph_store.proofs.pass.Slot.fetch.Goals as goal

pub returns-in_default : goal.returns-in_default
returns-in_default c = record {
  cell = c.requires.cell;
  fits = c.requires.fits;
  keeps = record { known = λ x h. h; given = λ g h. h };
  seen = has_graph c.args.self.now.seen c.in_default.not-No;
  memory = tt;
}

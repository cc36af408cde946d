use Rattle.std.proofs.Common.{◌∙◌}
use Rattle.thin_slice.proofs.ahead.add_exits.Goals as goal

pub loop-edge-preserved : goal.loop-edge-preserved
loop-edge-preserved g c = record {
  rows = c.add_exit.ensures.sound;
  later = g.met.R.KnownRows.later_trans _ _ _ c.loop-edge.invariant.later c.add_exit.ensures.later;
  exits = c.in_ok-add_exit.ensures.exits;
}

pub add_exit-requires-clause-facts : goal.add_exit-requires-clause-facts
add_exit-requires-clause-facts g c = g.met.R.KnownRows.later_facts _ _ c.loop-edge.invariant.later ∙ c.requires.facts

use Rattle.std.proofs.Common.{◌∙◌}
use Rattle.thin_slice.proofs.walk.Walk.ahead.Goals as goal

pub loop-place-preserved : goal.loop-place-preserved
loop-place-preserved g c = record {
  rows = c.add_exits_at.ensures.sound;
  later = g.met.R.KnownRows.later_trans _ _ _ c.loop-place.invariant.later c.add_exits_at.ensures.later;
  exits = c.in_ok-add_exits_at.ensures.exits;
}

pub add_exits_at-requires-clause-facts : goal.add_exits_at-requires-clause-facts
add_exits_at-requires-clause-facts g c = g.met.R.KnownRows.later_facts _ _ c.loop-place.invariant.later ∙ c.requires.facts

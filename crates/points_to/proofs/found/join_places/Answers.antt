use Rattle.std.proofs.Common.{◌<◌, subst, sym}
use Rattle.points_to.specs.Bits.{IsMember, row_of}
use Rattle.points_to.proofs.Moving.{Pours-none, Pours-more}
use Rattle.points_to.proofs.found.join_places.Goals as goal

pub loop-number-init : goal.loop-number-init
loop-number-init c = record {
  pours = Pours-none c.args.found.now c.args.to (IsMember (row_of c.args.found.now.rows.items c.args.from)) c.requires.partly;
  partly = c.requires.partly;
}

pub join_place-requires-clause-from : goal.join_place-requires-clause-from
join_place-requires-clause-from c = subst (λ n. c.args.from < n) (sym c.loop-number.invariant.pours.len) c.requires.from

pub join_place-requires-clause-to : goal.join_place-requires-clause-to
join_place-requires-clause-to c = subst (λ n. c.args.to < n) (sym c.loop-number.invariant.pours.len) c.requires.to

pub loop-number-preserved : goal.loop-number-preserved
loop-number-preserved c = record {
  pours = Pours-more c.args.found.now c.loop-number.found c.join_place.new.found c.args.from c.args.to c.requires.other c.in_ok-join_place.ensures.partly c.loop-number.invariant.pours c.in_ok-join_place.ensures.pours;
  partly = c.in_ok-join_place.ensures.partly;
}

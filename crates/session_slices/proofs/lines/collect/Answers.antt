use Rattle.std.proofs.Common.{◌↔◌, List, Contains, subst, arith}
use Rattle.std.proofs.lemmas.List.{nil_from_length, take_all}
use Rattle.slicer_ids.specs.declared.ids.Statement.{Statement}
use Rattle.report.specs.declared.reply.LinePlace.{LinePlace}
use Rattle.session_slices.specs.SliceLines.{IsLineOfSome}
use Rattle.session_slices.proofs.LineGrowth.{no_lines_yet, line_next}
use Rattle.session_slices.proofs.lines.collect.Goals as goal

pub loop-s-init : goal.loop-s-init
loop-s-init c = record {
  members = no_lines_yet c.args.f.now c.args.statements.now c.args.lines.now.items (nil_from_length _ (omega (arith, c.requires.none, c.args.lines.now.ok.0)));
  len = omega (arith, c.requires.none);
  room = c.requires.room;
}

pub loop-s-preserved : goal.loop-s-preserved
loop-s-preserved c = record {
  members = line_next c.args.f.now c.args.statements.now c.loop-s.s-index _ c.loop-s.lines.items c.put.new.list.items c.line_of-line.result c.loop-s-test.true c.put.ensures.items c.line_of-line.ensures c.loop-s.invariant.members;
  len = omega (arith, c.loop-s.invariant.len, c.put.ensures.len);
  room = omega (arith, c.loop-s.invariant.room, c.put.ensures.capacity);
}

pub put-requires : goal.put-requires
put-requires c = omega (arith, c.loop-s.invariant.len, c.loop-s.invariant.room, c.loop-s-test.true)

pub returns : goal.returns
returns c = subst (λ (ss : List Statement). (l : LinePlace) → Contains c.loop-s.lines.items l ↔ IsLineOfSome c.args.f.now (Contains ss) l) (take_all _ _ c.loop-s-test.false) c.loop-s.invariant.members

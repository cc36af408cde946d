use Rattle.std.proofs.lemmas.List.Elements.{Contains-get_or}
use Rattle.worklists.proofs.Growing.{Grows-more}
use Rattle.widening.specs.Marks.{OverBack}
use Rattle.thin_slice.specs.Marks.{found}
use Rattle.widening.proofs.passing.pass_backs.Goals as goal

pub loop-back-preserved : goal.loop-back-preserved
loop-back-preserved c = Grows-more (OverBack c.args.f.now c.args.found.now.items (found c.args.marks.now)) c.args.backs.now c.loop-back.back-index _ c.args.into.now.items c.loop-back.into.items c.pass_back.new.into.items c.loop-back-test.true c.loop-back.invariant c.in_ok-pass_back.ensures

pub pass_back-requires-clause-back : goal.pass_back-requires-clause-back
pass_back-requires-clause-back c = c.requires.backs _ (Contains-get_or c.args.backs.now c.loop-back.back-index _ c.loop-back-test.true)

use Rattle.std.proofs.Common.{get_or, sym, ◌∙◌}
use Rattle.std.proofs.lemmas.Grind.{get_or_default_zero}
use Rattle.bytecode.specs.Starts.{IsMarked}
use Rattle.bytecode.proofs.Marks.{all_more, all_at_end}
use Rattle.bytecode.proofs.starts.are_marked.Goals as goal

pub returns : goal.returns
returns c = all_at_end (IsMarked c.args.marks.now) c.args.places.now c.loop-place.place-index c.loop-place-test.false c.loop-place.invariant

pub loop-place-preserved : goal.loop-place-preserved
loop-place-preserved c =
    all_more (IsMarked c.args.marks.now) c.args.places.now c.loop-place.place-index (get_or c.args.places.now c.loop-place.place-index 0) c.loop-place-test.true
    (sym (get_or_default_zero c.args.places.now c.loop-place.place-index _ c.loop-place-test.true)) c.loop-place.invariant
    (sym c.is_marked.ensures ∙ c.if-not-is_marked.false)

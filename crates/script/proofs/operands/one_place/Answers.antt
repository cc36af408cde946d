use Rattle.std.proofs.Common.{refl, [], ◌∷◌}
use Rattle.script.proofs.Counting.{goes_on}
use Rattle.script.proofs.Naming.{refuted}
use Rattle.script.proofs.operands.one_place.Goals as goal

pub returns-then-is_end : goal.returns-then-is_end
returns-then-is_end c = (c.in-Some.rest.now, c.in-Some.ensures, c.is_end.ensures.0 c.if-is_end.true)

pub returns-else-is_end : goal.returns-else-is_end
returns-else-is_end c =
    let w = c.in-Some.words in
    goes_on c.args.line.now _ (w.class.now ∷ w.name.now ∷ w.descriptor.now ∷ w.pc.now ∷ []) 4 refl c.in-Some.ensures (refuted _ c.if-is_end.false c.is_end.ensures)

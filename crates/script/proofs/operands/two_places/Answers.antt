use Rattle.std.proofs.Common.{[], ◌∷◌}
use Rattle.script.proofs.Counting.{other_count}
use Rattle.script.proofs.operands.two_places.Goals as goal

pub returns-in-None : goal.returns-in-None
returns-in-None c =
    let w = c.in-Some.first in
    other_count c.args.line.now _ (w.class.now ∷ w.name.now ∷ w.descriptor.now ∷ w.pc.now ∷ []) 4 c.in-Some.ensures c.in-None.ensures

use Rattle.std.proofs.Common.{arith, rules}
use Rattle.std.proofs.lemmas.Bool.{false≢true}
use Rattle.script.proofs.Standing.{text_forward, text_back, text_stops}
use Rattle.script.proofs.escapes.is_text.Goals as goal

pub returns-in-None : goal.returns-in-None
returns-in-None c = (λ e. absurd (false≢true e), λ s. absurd (text_stops _ c.args.text.now c.loop-b.b-index _ (omega arith) (search rules) c.in-None.ensures (c.loop-b.invariant.1 s)))

pub loop-b-preserved : goal.loop-b-preserved
loop-b-preserved c = (
  λ s. c.loop-b.invariant.0 (text_back _ c.args.text.now _ c.loop-b.b-index _ (omega arith) (search rules) c.in-Some.ensures s),
  λ s. text_forward _ c.args.text.now _ c.loop-b.b-index _ (omega arith) (search rules) c.in-Some.ensures (c.loop-b.invariant.1 s),
)

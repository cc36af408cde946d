use Rattle.std.proofs.Common.{ℕ, ◌<◌, List, get_or}
use Rattle.words.specs.Scripts.{IsApart}
use Rattle.words.proofs.scripts.is_apart_from.Given as goal

abbrev pub invariant-loop-other : goal.invariant-loop-other
invariant-loop-other l = (k : ℕ) (d : List ℕ) → k < l.other-index → IsApart (get_or l.scripts k d) l.script

use Rattle.worklists.proofs.Growing.{FromBelow}
use Rattle.std.proofs.Common.{[]}
use Rattle.mod_ref.specs.Gains.{Gains}
use Rattle.input_tables.specs.Edges.{IsRaiseAt}
use Rattle.input_tables.proofs.raises.raises_in.Given as goal

abbrev pub invariant-loop-q : goal.invariant-loop-q
invariant-loop-q l = Gains [] l.steps.items (FromBelow (IsRaiseAt l.points) l.q)

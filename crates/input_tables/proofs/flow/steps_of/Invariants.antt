use Rattle.worklists.proofs.Growing.{FromBelow}
use Rattle.std.proofs.Common.{[]}
use Rattle.mod_ref.specs.Gains.{Gains}
use Rattle.input_tables.specs.Control.{IsStepAt}
use Rattle.input_tables.proofs.flow.steps_of.Given as goal

abbrev pub invariant-loop-q : goal.invariant-loop-q
invariant-loop-q l = Gains [] l.steps.items (FromBelow (IsStepAt l.points) l.q)

use Rattle.std.proofs.Common.{take, Contains}
use Rattle.dep_form.specs.Slices.{NodesOf}
use Rattle.widening.specs.Edges.{Opens}
use Rattle.widening.proofs.expansions.add_statements.Given as goal

abbrev pub invariant-loop-statement : goal.invariant-loop-statement
invariant-loop-statement l = Opens (NodesOf l.f.inputs (Contains (take l.statement-index l.statements))) l.initial.marks.items l.marks.items l.initial.into.items l.into.items

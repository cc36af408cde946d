use Rattle.std.proofs.Common.{All, take}
use Rattle.dep_form.specs.LookUps.{IsStatement}
use Rattle.session_tests.proofs.slices.are_statements.Given as goal

abbrev pub invariant-loop-s : goal.invariant-loop-s
invariant-loop-s l = All (IsStatement l.f) (take l.s-index l.statements)

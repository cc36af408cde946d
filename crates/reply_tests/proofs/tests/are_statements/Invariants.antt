use Rattle.std.specs.Prelude.{All, take}
use Rattle.dep_form.specs.LookUps.{IsStatement}
use Rattle.reply_tests.proofs.tests.are_statements.Given as goal

-- the ones so far are
abbrev pub invariant-loop-s : goal.invariant-loop-s
invariant-loop-s l = All (IsStatement l.f) (take l.s-index l.statements)

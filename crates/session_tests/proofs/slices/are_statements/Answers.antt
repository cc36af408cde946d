use Rattle.std.proofs.Common.{subst, arith}
use Rattle.std.specs.Prelude.{All}
use Rattle.std.proofs.lemmas.List.{take_all}
use Rattle.std.proofs.lemmas.List.Elements.{All-more}
use Rattle.dep_form.specs.LookUps.{IsStatement}
use Rattle.session_tests.proofs.slices.are_statements.Goals as goal

pub loop-s-preserved : goal.loop-s-preserved
loop-s-preserved c =
    All-more (IsStatement c.args.f.now) c.args.statements.now c.loop-s.s-index _ c.loop-s-test.true c.loop-s.invariant (c.is_statement.ensures.0 c.if-not-is_statement.false)

pub returns : goal.returns
returns c = λ _. subst (All (IsStatement c.args.f.now)) (take_all c.loop-s.s-index c.args.statements.now (omega (arith, c.loop-s-test.false))) c.loop-s.invariant

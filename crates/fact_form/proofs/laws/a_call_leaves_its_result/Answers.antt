use Rattle.fact_form.proofs.CallResults.{leaves_result, result_leaves}
use Rattle.fact_form.proofs.laws.a_call_leaves_its_result.Goals as goal

pub returns-clause-left : goal.returns-clause-left
returns-clause-left c = λ p t b i asked coded at call lt. leaves_result p asked coded t b i at call lt

pub returns-clause-answered : goal.returns-clause-answered
returns-clause-answered c = λ p t b i asked coded at call h. result_leaves p asked coded t b i at call h

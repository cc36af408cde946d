use Rattle.run_laws.proofs.EndedRuns.{one_output}
use Rattle.run_laws.proofs.laws.runs_are_independent.Goals as goal

pub returns : goal.returns
returns c = λ m n files_after files_left r q script alike same folder main first second.
    one_output c.scripts_are_independent.ensures m n files_after files_left r q script alike same folder main first second

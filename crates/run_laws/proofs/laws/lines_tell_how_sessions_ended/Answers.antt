use Rattle.run_laws.proofs.EndedRuns.{done_after, no_fault_said}
use Rattle.run_laws.proofs.laws.lines_tell_how_sessions_ended.Goals as goal

pub returns-clause-done : goal.returns-clause-done
returns-clause-done c = λ m files_after r script h. done_after m files_after r script h

pub returns-clause-steady : goal.returns-clause-steady
returns-clause-steady c = λ m files_after sources sinks r script e h source sink. no_fault_said m files_after sources sinks r script e h source sink

-- What a command does that tells a session something.
use Rattle.std.specs.Prelude.{◌≡◌, ◌≢◌}
use Rattle.slicer_ids.specs.declared.ids.Statement.{Statement}
use Rattle.session_form.specs.States.{State}
use Rattle.report.specs.Replies.{Answer, Done, Error}
use Rattle.session_state.specs.declared.told.Told.{Told}
use Rattle.session_state.specs.declared.told.Told.TheVariants.{Same, Other, Refused}

-- the reply
abbrev pub answer_of : Told → Answer
answer_of Same = Done
answer_of Other = Done
answer_of (Refused e) = Error e

-- whether the seeds are still the same ones
abbrev pub TellsSeeds : Told → State → State → Type 0
TellsSeeds Same old new = new.seeds ≡ old.seeds
TellsSeeds Other old new = new.seeds ≢ old.seeds
TellsSeeds (Refused e) old new = new.seeds ≡ old.seeds

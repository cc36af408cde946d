pub mod Attending
pub mod SaidLines
mod SessionLines
pub mod Places
pub mod OpenedScripts
pub mod MadeOutputs
pub mod ClosedSinks
pub mod SeatedDesks
pub mod ClosedSoFar
pub mod EmptyOutputs
pub mod EndedSessions
pub mod FinishedRun
pub mod ServedScripts
pub mod TakenDesks

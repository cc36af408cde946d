use Rattle.read_programs.proofs.Named.{named}
use Rattle.read_programs.proofs.laws.class_files_are_named.Goals as goal

pub returns : goal.returns
returns c = λ k keeps. named k keeps

use Rattle.folder_reader.proofs.Found.{found_files}
use Rattle.folder_reader.proofs.laws.found_are_files.Goals as goal

pub returns : goal.returns
returns c = λ m folder paths w. found_files m folder paths w.1

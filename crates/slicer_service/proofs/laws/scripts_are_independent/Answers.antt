use Rattle.slicer_service.proofs.Independent.{independent}
use Rattle.slicer_service.proofs.laws.scripts_are_independent.Goals as goal

pub returns : goal.returns
returns c = λ m n after left r q script alike same_script same_folder same_main first second.
    independent c.a_folder_gives_one_text.ensures m n after left r q script alike same_script same_folder same_main first second

use Rattle.text_laws.proofs.AcceptedPrograms.{one_text_of_folder, is_read, keeps_rules}
use Rattle.text_laws.proofs.laws.a_folder_gives_one_text.Goals as goal

pub returns : goal.returns
returns c = λ m folder main p q ns ms f g script a b h k.
    one_text_of_folder c.mains_have_an_argument.ensures c.programs_of_code_are_read.ensures.read m folder main p q ns ms f g script a b (c.one_end.ensures.program m folder main p q h k) h

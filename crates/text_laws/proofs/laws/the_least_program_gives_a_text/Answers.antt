use Rattle.program_form.specs.Tiny.{tiny_program}
use Rattle.text_laws.proofs.LeastText.{empty_text}
use Rattle.text_laws.proofs.laws.the_least_program_gives_a_text.Goals as goal

pub returns : goal.returns
returns c =
    let (s, mr, f, asked, coded, system, effects, facts, few) = c.the_least_program_has_tables.ensures.tables in
    let (ns, tie) = c.tables_are_the_facts.ensures tiny_program s mr f asked coded system effects facts in
    (ns, f, asked, coded, c.the_least_program_can_be_read.ensures.files, tie, empty_text f)

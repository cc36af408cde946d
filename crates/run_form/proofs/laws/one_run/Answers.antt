use Rattle.run_form.proofs.OneRun.{one_run}
use Rattle.run_form.proofs.laws.one_run.Goals as goal

pub returns : goal.returns
returns c = λ m asked s t said told a b p q. one_run c.one_end.ensures.line c.one_end.ensures.not_both c.a_folder_gives_one_text.ensures m asked s t said told a b p q

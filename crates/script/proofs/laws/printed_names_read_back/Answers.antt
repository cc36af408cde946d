use Rattle.script.proofs.Printing.{is_word_printed, stands_printed, class_printed}
use Rattle.script.proofs.laws.printed_names_read_back.Goals as goal

pub returns-clause-word : goal.returns-clause-word
returns-clause-word c = is_word_printed

pub returns-clause-name : goal.returns-clause-name
returns-clause-name c = stands_printed

pub returns-clause-class : goal.returns-clause-class
returns-clause-class c = class_printed

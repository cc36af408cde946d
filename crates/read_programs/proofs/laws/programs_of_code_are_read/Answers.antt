use Rattle.read_programs.proofs.Named.{all_named}
use Rattle.read_programs.proofs.Asking.{has_what_is_asked}
use Rattle.read_programs.proofs.laws.programs_of_code_are_read.Goals as goal

pub returns-clause-read : goal.returns-clause-read
returns-clause-read c = λ p coded sound entries. has_what_is_asked p coded sound entries c.named_classes_declare_once.ensures.selections

pub returns-clause-fields : goal.returns-clause-fields
returns-clause-fields c = λ p key sound. c.named_classes_declare_once.ensures.fields p.classes key (all_named p.classes sound)

pub returns-clause-methods : goal.returns-clause-methods
returns-clause-methods c = λ p key sound. c.named_classes_declare_once.ensures.methods p.classes key (all_named p.classes sound)

use Rattle.program_form.proofs.QuietFacts.{quiet_facts}
use Rattle.program_form.proofs.QuietTie.{numbering, quiet_tie}
use Rattle.program_form.proofs.laws.the_least_program_has_facts.Goals as goal

pub returns : goal.returns
returns c = (numbering, quiet_facts, quiet_tie)

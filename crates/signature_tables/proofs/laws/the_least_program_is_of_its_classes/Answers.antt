use Rattle.signature_tables.proofs.LeastClasses.{least_classes}
use Rattle.signature_tables.proofs.laws.the_least_program_is_of_its_classes.Goals as goal

pub returns : goal.returns
returns c = least_classes

use Rattle.program_code.proofs.Counterparts.{traced_number, traced_named, static_named}
use Rattle.program_code.proofs.laws.locations_have_counterparts.Goals as goal

pub returns-clause-numbers : goal.returns-clause-numbers
returns-clause-numbers c = λ p s l coded tie traced. traced_number p s coded tie l traced

pub returns-clause-cells : goal.returns-clause-cells
returns-clause-cells c = λ p s n g coded tie traced. traced_named p s coded tie n g traced

pub returns-clause-statics : goal.returns-clause-statics
returns-clause-statics c = λ p s x named traced. static_named p s named x traced

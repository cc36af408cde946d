use Rattle.std.proofs.Common.{rules}
use Rattle.analysis.proofs.Given.{is_read}
use Rattle.analysis.proofs.Counting.{locations_few, locations_many}
use Rattle.analysis.proofs.Trying.{effects_refused}
use Rattle.analysis.proofs.effects.effects_of.Goals as goal

pub returns-in-Ok-clause-described : goal.returns-in-Ok-clause-described
returns-in-Ok-clause-described c = c.in-Ok.ensures.described.0

pub returns-in-Ok-clause-few : goal.returns-in-Ok-clause-few
returns-in-Ok-clause-few c = λ p is made.
    let read = is_read c.an_entry_takes_its_argument.ensures c.programs_of_code_are_read.ensures.read c.args.l.now p is in
    let tie = c.constraints_give_the_facts.ensures p c.args.s.now read made in
    locations_few c.static_spots_are_of_static_variables.ensures p c.args.s.now is.loaded.code tie made c.in-Ok.effects c.in-Ok.ensures.described.0 c.in-Ok.ensures.described.1

pub returns-in-Err-clause-refused : goal.returns-in-Err-clause-refused
returns-in-Err-clause-refused c = λ line e p is made.
    let read = is_read c.an_entry_takes_its_argument.ensures c.programs_of_code_are_read.ensures.read c.args.l.now p is in
    let tie = c.constraints_give_the_facts.ensures p c.args.s.now read made in
    effects_refused p c.args.s.now c.in-Err.error line (locations_many c.static_spots_are_of_static_variables.ensures p c.args.s.now is.loaded.code tie made) c.in-Err.ensures.limit
    (c.too_many.ensures.line line (search rules))

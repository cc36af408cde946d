use Rattle.std.proofs.Common.{rules, ◌≡◌, sym}
use Rattle.analysis.proofs.Given.{is_read}
use Rattle.analysis.proofs.statements.try_statements.Goals as goal

pub returns-in-None-clause-allowed : goal.returns-in-None-clause-allowed
returns-in-None-clause-allowed c = λ p is made.
    let read = is_read c.an_entry_takes_its_argument.ensures c.programs_of_code_are_read.ensures.read c.args.l.now p is in
    c.in-None.ensures p is.parts.classes_are is.loaded.files is.loaded.code (c.constraints_give_the_facts.ensures p c.args.s.now read made)

pub returns-in-Some-clause-refused : goal.returns-in-Some-clause-refused
returns-in-Some-clause-refused c = λ line e p is made.
    let read = is_read c.an_entry_takes_its_argument.ensures c.programs_of_code_are_read.ensures.read c.args.l.now p is in
    let first = c.in-Some.ensures p is.parts.classes_are is.loaded.files is.loaded.code (c.constraints_give_the_facts.ensures p c.args.s.now read made) in
    let told = c.refused.ensures.line line (search rules) p is made first.0 in
    (c.in-Some.r, told.0, first, told.1, told.2)

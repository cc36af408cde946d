use Rattle.std.proofs.Common.{rules, List, sym, subst}
use Rattle.class_form.specs.declared.body.Body.{Body}
use Rattle.dep_form.specs.declared.rules.Entry.{Entry}
use Rattle.variable_tables.specs.Statements.{AreFollowed}
use Rattle.constraints.specs.Programs.{IsGiven, IsTooMany}
use Rattle.analysis.proofs.Given.{is_given, followed_of}
use Rattle.analysis.proofs.Counting.{sites_few}
use Rattle.analysis.proofs.Trying.{system_refused}
use Rattle.analysis.proofs.system.system_of.Goals as goal

pub constraints-requires-clause-program : goal.constraints-requires-clause-program
constraints-requires-clause-program c =
    let l = c.args.l.now in
    let p = c.requires.0 in
    let given = is_given (c.an_entry_takes_its_argument.ensures) (c.programs_of_code_are_read.ensures.read) l p c.requires.1 c.programs_of_code_are_read.ensures.fields c.programs_of_code_are_read.ensures.methods in (
      p,
      subst (λ (bs : List Body). IsGiven l.hierarchy bs c.items-entries.result.now p) (sym c.as_slice-bodies.ensures.value)
          (subst (λ (es : List Entry). IsGiven l.hierarchy l.bodies.items es p) (sym c.items-entries.ensures) given),
    )

pub constraints-requires-clause-followed : goal.constraints-requires-clause-followed
constraints-requires-clause-followed c =
    subst AreFollowed (sym c.as_slice-bodies.ensures.value) (followed_of (c.an_entry_takes_its_argument.ensures) (c.programs_of_code_are_read.ensures.read) c.args.l.now c.requires.0 c.requires.1)

pub returns-in-Ok-clause-made : goal.returns-in-Ok-clause-made
returns-in-Ok-clause-made c = λ p is.
    let l = c.args.l.now in
    let given = is_given (c.an_entry_takes_its_argument.ensures) (c.programs_of_code_are_read.ensures.read) l p is c.programs_of_code_are_read.ensures.fields c.programs_of_code_are_read.ensures.methods in
    let made = c.in-Ok.ensures.made p (subst (λ (bs : List Body). IsGiven l.hierarchy bs c.items-entries.result.now p) (sym c.as_slice-bodies.ensures.value)
    (subst (λ (es : List Entry). IsGiven l.hierarchy l.bodies.items es p) (sym c.items-entries.ensures) given)) in
    (made, sites_few p c.in-Ok.system made c.in-Ok.ensures.few.0 c.in-Ok.ensures.few.1)

pub returns-in-Err-clause-refused : goal.returns-in-Err-clause-refused
returns-in-Err-clause-refused c = λ line e p is.
    let l = c.args.l.now in
    let given = is_given (c.an_entry_takes_its_argument.ensures) (c.programs_of_code_are_read.ensures.read) l p is c.programs_of_code_are_read.ensures.fields c.programs_of_code_are_read.ensures.methods in
    system_refused l.hierarchy l.bodies.items p c.in-Err.error line given.of given.bodies_are
    (subst (λ (bs : List Body). IsTooMany l.hierarchy bs c.in-Err.error) c.as_slice-bodies.ensures.value c.in-Err.ensures.limit) (c.too_many.ensures.line line (search rules))

use Rattle.std.proofs.Common.{rules, List, sym, subst}
use Rattle.class_form.specs.declared.body.Body.{Body}
use Rattle.fact_form.specs.Handed.{IsProgramWith}
use Rattle.analysis.proofs.Given.{is_with, files_of}
use Rattle.analysis.proofs.statements.refused.Goals as goal

pub statement_refusal-requires-clause-program : goal.statement_refusal-requires-clause-program
statement_refusal-requires-clause-program c =
    let l = c.args.l.now in
    let p = c.requires.program.0 in (
      p,
      subst (λ (bs : List Body). IsProgramWith l.hierarchy bs c.args.s.now p) (sym c.as_slice.ensures.value)
          (is_with c.an_entry_takes_its_argument.ensures c.programs_of_code_are_read.ensures.read l p c.requires.program.1 c.args.s.now c.requires.program.2),
    )

pub statement_refusal-requires-clause-files : goal.statement_refusal-requires-clause-files
statement_refusal-requires-clause-files c =
    files_of c.an_entry_takes_its_argument.ensures c.programs_of_code_are_read.ensures.read c.args.l.now c.requires.program.0 c.requires.program.1

pub returns-in-Ok-clause-line : goal.returns-in-Ok-clause-line
returns-in-Ok-clause-line c = λ line e p is made refused.
    let l = c.args.l.now in
    let told = c.in-Ok.ensures p (subst (λ (bs : List Body). IsProgramWith l.hierarchy bs c.args.s.now p) (sym c.as_slice.ensures.value)
    (is_with c.an_entry_takes_its_argument.ensures c.programs_of_code_are_read.ensures.read l p is c.args.s.now made)) refused in
    (told.0, told.1, search rules)

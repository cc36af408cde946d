use Rattle.std.proofs.Common.{rules, List, get_or, sym, subst}
use Rattle.class_form.specs.declared.body.Body.{Body}
use Rattle.fact_form.specs.Handed.{IsProgramWith}
use Rattle.analysis.proofs.Given.{is_with, files_of}
use Rattle.analysis.proofs.Accepting.{facts_accept}
use Rattle.program_loader.proofs.Completed.{facts_refused}
use Rattle.program_loader.proofs.completing.facts_of.Goals as goal

pub facts-requires-clause-program : goal.facts-requires-clause-program
facts-requires-clause-program c =
    let l = c.args.l.now in
    let (p, is, known) = c.requires in (
      p,
      subst (λ (bs : List Body). IsProgramWith l.hierarchy bs c.args.a.now.system p) (sym c.as_slice-bodies.ensures.value)
          (is_with c.an_entry_takes_its_argument.ensures c.programs_of_code_are_read.ensures.read l p is c.args.a.now.system known.constraints),
    )

pub facts-requires-clause-named : goal.facts-requires-clause-named
facts-requires-clause-named c =
    let (p, is, known) = c.requires in
    let files = files_of c.an_entry_takes_its_argument.ensures c.programs_of_code_are_read.ensures.read c.args.l.now p is in
    λ k d lt. c.class_files_are_named.ensures (get_or c.args.l.now.hierarchy k d) (files k d lt)

pub facts-requires-clause-files : goal.facts-requires-clause-files
facts-requires-clause-files c =
    let (p, is, known) = c.requires in
    files_of c.an_entry_takes_its_argument.ensures c.programs_of_code_are_read.ensures.read c.args.l.now p is

pub facts-requires-clause-solved : goal.facts-requires-clause-solved
facts-requires-clause-solved c = let (p, is, known) = c.requires in known.solved

pub facts-requires-clause-effects : goal.facts-requires-clause-effects
facts-requires-clause-effects c = let (p, is, known) = c.requires in known.effects

pub returns-in-Ok-clause-accepted : goal.returns-in-Ok-clause-accepted
returns-in-Ok-clause-accepted c = λ p is known.
    let l = c.args.l.now in
    let with' = subst (λ (bs : List Body). IsProgramWith l.hierarchy bs c.args.a.now.system p) (sym c.as_slice-bodies.ensures.value)
    (is_with c.an_entry_takes_its_argument.ensures c.programs_of_code_are_read.ensures.read l p is c.args.a.now.system known.constraints) in
    (facts_accept p c.args.a.now.system c.args.a.now.solution c.args.a.now.effects known (c.in-Ok.ensures.within p with'), c.in-Ok.ensures.facts p with')

pub returns-in-Err-clause-refused : goal.returns-in-Err-clause-refused
returns-in-Err-clause-refused c = λ line e p is known.
    let l = c.args.l.now in
    let with' = subst (λ (bs : List Body). IsProgramWith l.hierarchy bs c.args.a.now.system p) (sym c.as_slice-bodies.ensures.value)
    (is_with c.an_entry_takes_its_argument.ensures c.programs_of_code_are_read.ensures.read l p is c.args.a.now.system known.constraints) in
    facts_refused p c.args.a.now.system c.args.a.now.solution c.args.a.now.effects c.in-Err.error line known (c.in-Err.ensures.limit p with') (c.too_many.ensures.line line (search rules))

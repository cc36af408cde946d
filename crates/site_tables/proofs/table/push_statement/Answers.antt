use Rattle.std.proofs.Common.{◌≡◌, List, Contains, refl, sym, subst}
use Rattle.class_form.specs.declared.body.Instr.{Instr}
use Rattle.program_form.specs.Statements.{IsAt}
use Rattle.signature_tables.specs.Statements.{IsInstrPc, statement}
use Rattle.site_tables.proofs.WholeTable.{body_method, nothing_there}
use Rattle.site_tables.proofs.table.push_statement.Goals as goal

pub file_of-file-requires : goal.file_of-file-requires
file_of-file-requires c = body_method c.args.h.now c.args.body.now c.requires.body

pub returns-in-Some : goal.returns-in-Some
returns-in-Some c = λ p q of has point.
    let t = statement c.args.body.now c.args.pc in
    let found = c.in-Some.ensures.found in
    let (k, file) = c.file_of-file.ensures p of in
    let at : IsAt p t c.args.body.now c.in-Some.instr.now = (has, refl, subst (λ (is : List Instr). Contains is c.in-Some.instr.now) c.items.ensures found.0, found.1, (q, point)) in
    c.push_made.ensures p of (c.fresh.ensures p t c.args.body.now k c.file_of-file.result.now of.read at file refl)

pub returns-in-None : goal.returns-in-None
returns-in-None c = λ p q of has point.
    nothing_there c.args.h.now p c.args.body.now c.args.pc c.args.table.now of has
    (λ here. c.in-None.ensures.missed (subst (λ (is : List Instr). IsInstrPc is c.args.pc) (sym c.items.ensures) here))

use Rattle.std.proofs.Common.{List, refl, sym, subst}
use Rattle.std.specs.Prelude.{Contains}
use Rattle.std.proofs.lemmas.Result.{on_ok_weaker}
use Rattle.class_form.specs.declared.body.Instr.{Instr}
use Rattle.program_form.specs.Statements.{IsAt}
use Rattle.signature_tables.specs.Statements.{IsInstrPc, statement}
use Rattle.variable_tables.proofs.MethodPlaces.{body_method}
use Rattle.variable_tables.specs.Operands.{OperandBefore, IsDefined, HasDefinition, IsReadBy, IsReadThere}
use Rattle.variable_tables.proofs.InOrder.{grows_none, grows_same}
use Rattle.variable_tables.proofs.OperandFacts.{none_read, there_from, by_from, definition_to, definition_from}
use Rattle.variable_tables.proofs.operands.push_statement.Goals as goal

pub file_of-requires : goal.file_of-requires
file_of-requires c = body_method c.args.h.now c.args.body.now c.requires.has

pub returns-in_ok-count-in-Some : goal.returns-in_ok-count-in-Some
returns-in_ok-count-in-Some c = λ p of has.
    let b = c.args.body.now in
    let q = c.args.point.now in
    let vs = c.args.methods.now in
    let t = statement b q.pc in
    let instr = c.in-Some.instr.now in
    let found = c.in-Some.ensures.found in
    let (k, file) = c.file_of.ensures p of in
    let at : IsAt p t b instr = (has, refl, subst (λ (is : List Instr). Contains is instr) c.items.ensures found.0, found.1, (q, (c.requires.point, refl))) in
    let arguments = c.in_ok-count-in-Some.ensures p t b k of.read at file in
    let n = c.in_ok-count-in-Some.count in
    on_ok_weaker c.push_operands.result
    (grows_same OperandBefore (IsDefined vs b) c.args.operands.now.items c.push_operands.new.operands.items (IsReadBy b q.pc instr.op n) (IsReadThere p b q) (HasDefinition p vs)
    (there_from p of.read b q instr at n arguments) (by_from p of.read b q instr at n arguments)
    (λ k r d. definition_to p of.read b q instr at vs k (there_from p of.read b q instr at n arguments k r).0 d)
    (λ k r d. definition_from p of.read b q instr at vs k (there_from p of.read b q instr at n arguments k r).0 d))
    c.push_operands.ensures

pub returns-in-None : goal.returns-in-None
returns-in-None c = λ p of has.
    let b = c.args.body.now in
    let q = c.args.point.now in
    grows_none OperandBefore (HasDefinition p c.args.methods.now) c.args.operands.now.items (IsReadThere p b q)
    (λ k r. absurd (none_read p of.read b q has (λ here. c.in-None.ensures.missed (subst (λ (is : List Instr). IsInstrPc is q.pc) (sym c.items.ensures) here)) k r))

use Rattle.std.proofs.Common.{refl, sym, ◌∙◌}
use Rattle.std.proofs.lemmas.Bool.{false≢true}
use Rattle.std.proofs.lemmas.Result.{on_ok_weaker}
use Rattle.variable_tables.specs.Operands.{OperandBefore, IsDefined, IsReadAt}
use Rattle.variable_tables.proofs.InOrder.{grows_none, grows_one}
use Rattle.variable_tables.proofs.Reading.{defined_here, not_defined}
use Rattle.variable_tables.proofs.operands.push_operand.Goals as goal

pub returns-then-not-reads : goal.returns-then-not-reads
returns-then-not-reads c =
    let b = c.args.body.now in
    let pc = c.args.point.now.pc in
    grows_none OperandBefore (IsDefined c.args.methods.now b) c.args.operands.now.items (IsReadAt b pc c.args.op c.args.arguments c.args.operand)
    (λ k r. absurd (false≢true (sym c.if-not-reads.true ∙ c.reads.ensures.1 r.1)))

pub returns-in-Some : goal.returns-in-Some
returns-in-Some c =
    let b = c.args.body.now in
    let pc = c.args.point.now.pc in
    grows_none OperandBefore (IsDefined c.args.methods.now b) c.args.operands.now.items (IsReadAt b pc c.args.op c.args.arguments c.args.operand)
    (defined_here c.args.methods.now b pc c.args.op c.args.arguments c.args.operand _ c.in-Some.ensures)

pub returns-in-None : goal.returns-in-None
returns-in-None c =
    let b = c.args.body.now in
    let pc = c.args.point.now.pc in
    on_ok_weaker c.push_place.result
    (λ e. grows_one OperandBefore (IsDefined c.args.methods.now b) c.args.operands.now.items c.push_place.new.operands.items _ (IsReadAt b pc c.args.op c.args.arguments c.args.operand) e
    (refl, c.reads.ensures.0 c.if-not-reads.false) (not_defined c.args.methods.now b pc c.args.op c.args.arguments c.args.operand c.in-None.ensures) (λ k r. sym r.0))
    c.push_place.ensures

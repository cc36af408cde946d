use Rattle.std.proofs.Common.{◌∙◌, List, refl, sym, subst}
use Rattle.std.specs.Prelude.{All}
use Rattle.slicer_ids.specs.Sets.{IsOrderedListOf}
use Rattle.slicer_ids.specs.Order.{StatementBefore}
use Rattle.class_form.specs.Opcodes.{IsCall}
use Rattle.dep_form.specs.declared.rules.MethodVars.{MethodVars}
use Rattle.program_form.specs.Statements.{HasOpcode}
use Rattle.variable_tables.specs.Growth.{IsChosen}
use Rattle.variable_tables.specs.Operands.{AreInOrder, OperandBefore, IsRead, HasDefinition}
use Rattle.variable_tables.proofs.Behind.{methods_in_order, calls_are, behind_of}
use Rattle.variable_tables.proofs.tables.with_methods.Goals as goal

pub own_operands-requires-clause-order : goal.own_operands-requires-clause-order
own_operands-requires-clause-order c =
    let (p, of, e) = c.requires.program in
    subst (λ (vs : List MethodVars). All AreInOrder vs) (sym c.as_slice-2.ensures.value) (methods_in_order p c.args.methods.items (c.requires.methods p of e))

pub returns-clause-tables : goal.returns-clause-tables
returns-clause-tables c = λ p of e.
    let calls = c.in_ok-calls.calls.items in
    let places = c.in_ok-places.places.items in
    let exceptions = c.in_ok-exceptions.exceptions.items in
    let operands = c.in_ok-operands.operands.items in
    behind_of p c.args.fresh.next c.numbered.new.fresh.next c.numbered-2.new.fresh.next _ c.args.methods.items exceptions operands c.from_vec.ensures c.from_vec-2.ensures c.from_vec-3.ensures refl
    (subst (λ ts. IsOrderedListOf StatementBefore ts (λ s. HasOpcode p s IsCall)) (sym (c.in_ok-exceptions.ensures.keys ∙ c.as_slice.ensures.value))
    (calls_are p c.args.bodies.now e calls c.in_ok-calls.ensures))
    (subst (λ ks. IsChosen OperandBefore ks (IsRead p) (HasDefinition p c.args.methods.items)) (sym (c.in_ok-operands.ensures.keys ∙ c.as_slice-3.ensures.value))
    (subst (λ (vs : List MethodVars). IsChosen OperandBefore places (IsRead p) (HasDefinition p vs)) c.as_slice-2.ensures.value (c.in_ok-places.ensures p of e)))
    c.in_ok-exceptions.ensures.numbers c.in_ok-operands.ensures.numbers

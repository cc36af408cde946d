use Rattle.std.proofs.Common.{◌≡◌, List, All, Some, None, sym, subst}
use Rattle.std.specs.Prelude.{◌↔◌}
use Rattle.dep_form.specs.declared.rules.Var.{Var}
use Rattle.dep_form.specs.declared.rules.MethodVars.{MethodVars}
use Rattle.variable_tables.specs.Operands.{AreInOrder, IsDefinedAs}
use Rattle.variable_tables.proofs.LookingUp.{defined_exact, own_exact}
use Rattle.variable_tables.proofs.tables.VariableTables.operand_number.Goals as goal

pub defined_as-requires : goal.defined_as-requires
defined_as-requires c = record { order = subst (λ (vs : List MethodVars). All AreInOrder vs) (sym c.items.ensures) c.requires.order.methods; body = c.requires.body; point = c.requires.point }

pub returns-in-Some : goal.returns-in-Some
returns-in-Some c = λ p s names foreign i asked there tables named has.
    let t = c.args.self.now in
    let b = c.args.body.now in
    let q = c.args.point.now in
    let exact = subst (λ (vs : List MethodVars). (x : Var) → IsDefinedAs vs b q.pc c.args.operand x ↔ (Some c.in-Some.var ≡ Some x)) c.items.ensures c.in-Some.ensures in
    defined_exact p s names t foreign b q i c.args.operand asked there tables named has c.in-Some.var exact

pub returns-in-None : goal.returns-in-None
returns-in-None c = λ p s names foreign i asked there tables named has.
    let t = c.args.self.now in
    let b = c.args.body.now in
    let q = c.args.point.now in
    let never = subst (λ (vs : List MethodVars). (x : Var) → IsDefinedAs vs b q.pc c.args.operand x ↔ (None ≡ Some x)) c.items.ensures c.in-None.ensures in
    own_exact p s names t foreign b q i c.args.operand asked there tables named has c.own_operand.result never c.own_operand.ensures

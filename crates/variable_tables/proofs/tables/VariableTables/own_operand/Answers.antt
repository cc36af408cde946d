use Rattle.std.proofs.Common.{rules, ◌≡◌, Some, Contains, sym, subst}
use Rattle.std.specs.Prelude.{◌↔◌}
use Rattle.dep_form.specs.declared.rules.Var.{Var}
use Rattle.dep_form.proofs.Searching.{found_by, missed_by, read_at}
use Rattle.variable_tables.specs.LookUps.{place_cmp}
use Rattle.variable_tables.specs.Operands.{OperandBefore}
use Rattle.variable_tables.specs.declared.tables.OperandPlace.{OperandPlace}
use Rattle.variable_tables.proofs.Searches.{rises, found, missed, place_total, one_place, place_less}
use Rattle.variable_tables.proofs.tables.VariableTables.own_operand.Goals as goal

pub returns-in-Ok : goal.returns-in-Ok
returns-in-Ok c =
    let table = c.args.self.now.operands in
    let h = found_by place_cmp place_total (λ (e : OperandPlace × Var). e.0) _ table c.args.place c.in-Ok.k c.items-operands.ensures (λ a r f' k. search rules) c.in-Ok.ensures.bound c.in-Ok.ensures.position in
    let exact = found place_cmp place_total one_place OperandBefore place_less table c.requires.operands c.args.place c.in-Ok.k h.0 h.1 h.2 in
    (subst (λ (z : OperandPlace × Var). (x : Var) → Contains table (c.args.place, x) ↔ (Some z.1 ≡ Some x)) (sym (read_at _ table c.in-Ok.k h.0 _ c.items-operands.ensures h.1)) exact)

pub returns-in-Err : goal.returns-in-Err
returns-in-Err c =
    let table = c.args.self.now.operands in
    let nowhere = missed_by place_cmp place_total (λ (e : OperandPlace × Var). e.0) _ table c.args.place _ c.items-operands.ensures (λ a r f' h. search rules)
    (rises place_cmp place_total one_place OperandBefore place_less table c.requires.operands) c.in-Err.ensures.position in
    (missed place_cmp place_total one_place OperandBefore place_less table c.args.place nowhere)

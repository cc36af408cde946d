use Rattle.std.proofs.Common.{rules, ◌≡◌, Some, Contains, sym, subst}
use Rattle.std.specs.Prelude.{◌↔◌}
use Rattle.dep_form.specs.declared.rules.Var.{Var}
use Rattle.dep_form.specs.Orders.{statement_cmp}
use Rattle.dep_form.proofs.Searching.{found_by, missed_by, read_at, one_statement, statement_total}
use Rattle.variable_tables.proofs.Searches.{rises, found, missed, statement_less}
use Rattle.slicer_ids.specs.Order.{StatementBefore}
use Rattle.slicer_ids.specs.declared.ids.Statement.{Statement}
use Rattle.variable_tables.proofs.LookingUp.{exception_exact}
use Rattle.variable_tables.proofs.tables.VariableTables.exception_of.Goals as goal

pub returns-in-Ok : goal.returns-in-Ok
returns-in-Ok c =
    let table = c.args.self.now.exceptions in
    let h = found_by statement_cmp statement_total (λ (e : Statement × Var). e.0) _ table c.args.t c.in-Ok.k c.items-exceptions.ensures (λ a r f' k. search rules) c.in-Ok.ensures.bound c.in-Ok.ensures.position in
    let exact = found statement_cmp statement_total one_statement StatementBefore statement_less table c.requires.exceptions c.args.t c.in-Ok.k h.0 h.1 h.2 in
    λ p s has. exception_exact p s c.args.self.now has c.args.t _ (subst (λ (z : Statement × Var). (x : Var) → Contains table (c.args.t, x) ↔ (Some z.1 ≡ Some x)) (sym (read_at _ table c.in-Ok.k h.0 _ c.items-exceptions.ensures h.1)) exact)

pub returns-in-Err : goal.returns-in-Err
returns-in-Err c =
    let table = c.args.self.now.exceptions in
    let nowhere = missed_by statement_cmp statement_total (λ (e : Statement × Var). e.0) _ table c.args.t _ c.items-exceptions.ensures (λ a r f' h. search rules)
    (rises statement_cmp statement_total one_statement StatementBefore statement_less table c.requires.exceptions) c.in-Err.ensures.position in
    λ p s has. exception_exact p s c.args.self.now has c.args.t _ (missed statement_cmp statement_total one_statement StatementBefore statement_less table c.args.t nowhere)

use Rattle.std.proofs.Common.{rules, Some, None, subst}
use Rattle.dep_form.specs.declared.rules.Var.{Var}
use Rattle.dep_form.specs.Orders.{statement_cmp}
use Rattle.dep_form.proofs.Searching.{found_by, missed_by, one_statement, statement_total}
use Rattle.slicer_ids.specs.declared.ids.Statement.{Statement}
use Rattle.program_form.specs.Systems.{CallNumber}
use Rattle.constraint_rules.specs.One.{IsOne}
use Rattle.constraint_rules.proofs.OfCalls.{call_at, call_missed, exceptions_rise, no_entry}
use Rattle.constraint_rules.proofs.calls.call_number.Goals as goal

pub returns-in-Ok : goal.returns-in-Ok
returns-in-Ok c = λ p s names set.
    let table = c.args.t.now.variables.now.exceptions in
    let place = c.statement_of-place.result in
    let h = found_by statement_cmp statement_total (λ (e : Statement × Var). e.0) _ table place c.in-Ok.k c.items-exceptions.ensures (λ a r f' k. search rules) c.in-Ok.ensures.bound c.in-Ok.ensures.position in
    subst (λ (z : Statement). IsOne (CallNumber s z) (Some (record { 0 = c.in-Ok.k }))) c.statement_of-place.ensures
    (call_at s c.args.t.now.variables.now set.has c.requires.variables.exceptions place c.in-Ok.k h.0 h.1 (one_statement h.0.0 place h.2))

pub returns-in-Err : goal.returns-in-Err
returns-in-Err c = λ p s names set.
    let table = c.args.t.now.variables.now.exceptions in
    let place = c.statement_of-place.result in
    let nowhere = missed_by statement_cmp statement_total (λ (e : Statement × Var). e.0) _ table place _ c.items-exceptions.ensures (λ a r f' h. search rules)
    (exceptions_rise table c.requires.variables.exceptions) c.in-Err.ensures.position in
    subst (λ (z : Statement). IsOne (CallNumber s z) None) c.statement_of-place.ensures
    (call_missed s c.args.t.now.variables.now set.has c.requires.variables.exceptions place (no_entry table place nowhere))

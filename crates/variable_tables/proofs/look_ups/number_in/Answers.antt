use Rattle.std.proofs.Common.{◌≡◌, ℕ, List, Some, Contains, sym, subst}
use Rattle.std.specs.Prelude.{◌↔◌}
use Rattle.class_form.specs.declared.body.Def.{Def}
use Rattle.dep_form.specs.declared.rules.Var.{Var}
use Rattle.variable_tables.specs.Operands.{NumberIn}
use Rattle.variable_tables.proofs.look_ups.number_in.Goals as goal

pub returns-in-Value : goal.returns-in-Value
returns-in-Value c =
    let o = c.number_at.result in
    subst (λ (d : Def). (x : Var) → NumberIn c.args.vars.now d x ↔ (o ≡ Some x)) (sym c.in-Value.is)
    (subst (λ (table : List (ℕ × Var)). (x : Var) → Contains table (c.in-Value.pc, x) ↔ (o ≡ Some x)) c.items-in-Value.ensures c.number_at.ensures)

pub returns-in-Caught : goal.returns-in-Caught
returns-in-Caught c =
    let o = c.number_at-in-Caught.result in
    subst (λ (d : Def). (x : Var) → NumberIn c.args.vars.now d x ↔ (o ≡ Some x)) (sym c.in-Caught.is)
    (subst (λ (table : List (ℕ × Var)). (x : Var) → Contains table (c.in-Caught.pc, x) ↔ (o ≡ Some x)) c.items-in-Caught.ensures c.number_at-in-Caught.ensures)

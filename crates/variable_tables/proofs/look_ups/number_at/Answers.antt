use Rattle.std.proofs.Common.{rules, ◌≡◌, ℕ, Some, Contains, refl, sym, subst}
use Rattle.std.specs.Prelude.{◌↔◌}
use Rattle.std.specs.Ordering.{nat_cmp}
use Rattle.std.proofs.lemmas.Cmp.{nat_cmp_total}
use Rattle.dep_form.specs.declared.rules.Var.{Var}
use Rattle.dep_form.proofs.Searching.{found_by, missed_by, one_number, read_at}
use Rattle.variable_tables.specs.Statements.{Rises}
use Rattle.variable_tables.proofs.Searches.{rises, found, missed, number_less}
use Rattle.variable_tables.proofs.look_ups.number_at.Goals as goal

pub returns-in-Ok : goal.returns-in-Ok
returns-in-Ok c =
    let table = c.args.table.now in
    let h = found_by nat_cmp nat_cmp_total (λ (e : ℕ × Var). e.0) table table c.args.pc c.in-Ok.k refl (λ a r f' k. search rules) c.in-Ok.ensures.bound c.in-Ok.ensures.position in
    let exact = found nat_cmp nat_cmp_total one_number Rises number_less table c.requires c.args.pc c.in-Ok.k h.0 h.1 h.2 in
    subst (λ (z : ℕ × Var). (x : Var) → Contains table (c.args.pc, x) ↔ (Some z.1 ≡ Some x)) (sym (read_at table table c.in-Ok.k h.0 _ refl h.1)) exact

pub returns-in-Err : goal.returns-in-Err
returns-in-Err c =
    let table = c.args.table.now in
    let nowhere = missed_by nat_cmp nat_cmp_total (λ (e : ℕ × Var). e.0) table table c.args.pc _ refl (λ a r f' h. search rules)
    (rises nat_cmp nat_cmp_total one_number Rises number_less table c.requires) c.in-Err.ensures.position in
    missed nat_cmp nat_cmp_total one_number Rises number_less table c.args.pc nowhere

use Rattle.std.proofs.Common.{◌-◌, ℕ, ◌+◌, ◌*◌, List, length, subst, sym, ap, arith}
use Rattle.std.specs.Prelude.{◌↔◌}
use Rattle.bit_rows.specs.Words.{IsIn}
use Rattle.tabulate.proofs.Placing.{row_is, starts_below, fits_got, fits_todo}
use Rattle.tabulate.proofs.Taking.{row_taken}
use Rattle.tabulate.proofs.found.copy.Goals as goal

pub overflow_sub-at : goal.overflow_sub-at
overflow_sub-at c = starts_below _ _ c.requires.method _ c.requires.node

pub copy_taken-requires-clause-got : goal.copy_taken-requires-clause-got
copy_taken-requires-clause-got c = omega (arith, fits_got c.args.f.now c.args.found.now.items c.args.method.now c.args.n.0 c.requires.method c.requires.node c.requires.found c.requires.opened c.index-table.result.now c.index-table.ensures, ap length c.deref.ensures.value)

pub copy_taken-requires-clause-todo : goal.copy_taken-requires-clause-todo
copy_taken-requires-clause-todo c = omega (arith, fits_todo c.args.f.now c.args.found.now.items c.args.method.now c.args.n.0 c.requires.method c.requires.node c.requires.found c.requires.opened c.index-table.result.now c.index-table.ensures, ap length c.deref-2.ensures.value)

pub returns-clause-bits : goal.returns-clause-bits
returns-clause-bits c =
    let x = c.requires.method in
    let o = c.requires.node in
    let t = c.index-table.result.now in
    let into = c.copy_taken.new.into.items in
    let at = (c.args.n.0 - c.args.method.now.first.0) * c.args.method.now.width in
    row_taken c.args.f.now c.args.found.now.items c.args.n.0 o.0 t c.requires.found c.args.method.now.id.0 _ _ (sym o.1) (row_is _ _ x _ o) x.width_is c.index-table.ensures into c.in_ok-copy_taken.ensures.len
    (λ x l. subst (λ (xs : List ℕ). IsIn into x ↔ IsIn xs (64 * at + x) × (IsIn t.todo.items (64 * at + x) → ⊥)) c.deref.ensures.value
    (subst (λ (xs : List ℕ). IsIn into x ↔ IsIn c.deref.result.now (64 * at + x) × (IsIn xs (64 * at + x) → ⊥)) c.deref-2.ensures.value (c.in_ok-copy_taken.ensures.bits x l)))

use Rattle.std.proofs.Common.{ℕ, arith, ap, subst, length, List, ◌+◌, ◌*◌, ◌-◌}
use Rattle.std.specs.Prelude.{◌↔◌, IsTrue}
use Rattle.bit_rows.specs.Words.{IsIn}
use Rattle.tabulate.proofs.Placing.{starts_below, fits_todo}
use Rattle.tabulate.proofs.Testing.{bit_is}
use Rattle.tabulate.proofs.found.is_todo.Goals as goal

pub overflow_sub-at : goal.overflow_sub-at
overflow_sub-at c = starts_below _ _ c.requires.method _ c.requires.node

pub has-requires : goal.has-requires
has-requires c = omega (arith, c.requires.number, c.requires.method.width_is, fits_todo c.args.f.now c.args.found.now.items c.args.method.now c.args.n.0 c.requires.method c.requires.node c.requires.found c.requires.opened c.index.result.now c.index.ensures, ap length c.deref.ensures.value)

pub returns : goal.returns
returns c =
    let at = (c.args.n.0 - c.args.method.now.first.0) * c.args.method.now.width in
    let b = bit_is c.args.f.now c.args.found.now.items c.args.method.now c.args.n.0 c.requires.method c.requires.node c.requires.found c.index.result.now c.index.ensures c.args.number c.requires.number (λ t. t.todo.items) in
    let h = subst (λ (xs : List ℕ). IsTrue c.has.result ↔ IsIn xs (64 * at + c.args.number)) c.deref.ensures.value c.has.ensures in
    (λ t. b.0 (h.0 t), λ g. h.1 (b.1 g))

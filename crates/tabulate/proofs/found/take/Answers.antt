use Rattle.std.proofs.Common.{ℕ, sym, subst}
use Rattle.tabulate.specs.Found.{IsOpen}
use Rattle.tabulate.proofs.Placing.{row_is, starts_below, fits_waits, fits_todo}
use Rattle.tabulate.proofs.Taking.{takes_there, are_there}
use Rattle.tabulate.proofs.found.take.Goals as goal

pub overflow_sub-row : goal.overflow_sub-row
overflow_sub-row c = starts_below _ _ c.requires.method _ c.requires.node

pub take_in-requires-clause-row : goal.take_in-requires-clause-row
take_in-requires-clause-row c = fits_waits c.args.f.now c.args.found.now.items c.args.method.now c.args.n.0 c.requires.method c.requires.node c.requires.found c.requires.opened c.index_mut.result.now c.index_mut.ensures.value

pub take_in-requires-clause-todo : goal.take_in-requires-clause-todo
take_in-requires-clause-todo c = fits_todo c.args.f.now c.args.found.now.items c.args.method.now c.args.n.0 c.requires.method c.requires.node c.requires.found c.requires.opened c.index_mut.result.now c.index_mut.ensures.value

pub returns-clause-found : goal.returns-clause-found
returns-clause-found c =
    let e = c.in_ok-take_in.ensures in
    let x = c.requires.method in
    let o = c.requires.node in
    are_there c.args.f.now c.args.found.now.items c.args.n.0 o.0 c.index_mut.result.now c.take_in.new.table c.requires.found (subst (λ (m : ℕ). IsOpen c.args.f.now c.args.found.now.items m) (sym o.1) c.requires.opened) c.take_in.new.into.items
    c.args.method.now.id.0 _ _ (sym o.1) (row_is _ _ x _ o) x.width_is c.index_mut.ensures.value e.got e.todo e.left e.waits e.len e.bits

pub returns-clause-takes : goal.returns-clause-takes
returns-clause-takes c =
    let e = c.in_ok-take_in.ensures in
    let x = c.requires.method in
    let o = c.requires.node in
    takes_there c.args.f.now c.args.found.now.items c.args.n.0 o.0 c.index_mut.result.now c.take_in.new.table c.requires.found (subst (λ (m : ℕ). IsOpen c.args.f.now c.args.found.now.items m) (sym o.1) c.requires.opened) c.take_in.new.into.items
    c.args.method.now.id.0 _ _ (sym o.1) (row_is _ _ x _ o) x.width_is c.index_mut.ensures.value e.got e.todo e.left e.waits e.len e.bits

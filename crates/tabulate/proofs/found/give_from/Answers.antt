use Rattle.std.proofs.Common.{◌+◌, ◌≤◌, ℕ, length, inl, inr, refl, sym, subst, arith}
use Rattle.tabulate.specs.Frames.{width}
use Rattle.tabulate.specs.Found.{IsOpen}
use Rattle.tabulate.proofs.Placing.{row_is, starts_below, fits_waits, fits_got, fits_todo}
use Rattle.tabulate.proofs.Giving.{given}
use Rattle.tabulate.proofs.found.give_from.Goals as goal

pub overflow_sub-row : goal.overflow_sub-row
overflow_sub-row g c = starts_below _ _ c.requires.method _ c.requires.node

pub give_in-requires-clause-row : goal.give_in-requires-clause-row
give_in-requires-clause-row g c = fits_waits c.args.f.now c.args.found.now.items c.args.method.now c.args.n.0 c.requires.method c.requires.node c.requires.found c.requires.opened c.index_mut.result.now c.index_mut.ensures.value

pub give_in-requires-clause-got : goal.give_in-requires-clause-got
give_in-requires-clause-got g c = omega (arith, c.requires.delta, c.requires.method.width_is, fits_got c.args.f.now c.args.found.now.items c.args.method.now c.args.n.0 c.requires.method c.requires.node c.requires.found c.requires.opened c.index_mut.result.now c.index_mut.ensures.value)

pub give_in-requires-clause-todo : goal.give_in-requires-clause-todo
give_in-requires-clause-todo g c = omega (arith, c.requires.delta, c.requires.method.width_is, fits_todo c.args.f.now c.args.found.now.items c.args.method.now c.args.n.0 c.requires.method c.requires.node c.requires.found c.requires.opened c.index_mut.result.now c.index_mut.ensures.value)

pub returns-then-not-give_in-clause-goes : goal.returns-then-not-give_in-clause-goes
returns-then-not-give_in-clause-goes g c =
    let p = c.args.f.now in
    let e = c.give_in.ensures in
    let x = c.requires.method in
    let o = c.requires.node in
    given p c.args.found.now.items c.args.n.0 o.0 c.index_mut.result.now c.give_in.new.table c.requires.found
    c.args.method.now.id.0 _ _ (sym o.1) (row_is _ _ x _ o) x.width_is c.index_mut.ensures.value c.args.skip c.args.delta.now
    (subst (λ (m : ℕ). c.args.skip + length c.args.delta.now ≤ width p m) (sym o.1) c.requires.delta) (subst (λ (m : ℕ). IsOpen p c.args.found.now.items m) (sym o.1) c.requires.opened)
    e.adds e.words e.got e.todo e.marked c.args.queue.now.items c.args.queue.now.items c.requires.queue c.args.steps.now c.give_in.new.steps e.on (inl (e.stays c.if-not-give_in.true, refl))

pub returns-clause-goes : goal.returns-clause-goes
returns-clause-goes g c =
    let p = c.args.f.now in
    let e = c.give_in.ensures in
    let x = c.requires.method in
    let o = c.requires.node in
    given p c.args.found.now.items c.args.n.0 o.0 c.index_mut.result.now c.give_in.new.table c.requires.found
    c.args.method.now.id.0 _ _ (sym o.1) (row_is _ _ x _ o) x.width_is c.index_mut.ensures.value c.args.skip c.args.delta.now
    (subst (λ (m : ℕ). c.args.skip + length c.args.delta.now ≤ width p m) (sym o.1) c.requires.delta) (subst (λ (m : ℕ). IsOpen p c.args.found.now.items m) (sym o.1) c.requires.opened)
    e.adds e.words e.got e.todo e.marked c.args.queue.now.items c.push_back.new.self.items c.requires.queue c.args.steps.now c.give_in.new.steps e.on (inr (e.waits c.if-not-give_in.false, c.in_ok-push_back.ensures.items, e.moved c.if-not-give_in.false))

use Rattle.variable_tables.proofs.Behind.{bodies_known, tables_ordered, tables_of}
use Rattle.variable_tables.proofs.tables.variable_tables.Goals as goal

pub all_methods-requires-clause-bodies : goal.all_methods-requires-clause-bodies
all_methods-requires-clause-bodies c = bodies_known c.args.h.now c.args.bodies.now c.requires.program c.requires.followed

pub with_methods-requires-clause-bodies : goal.with_methods-requires-clause-bodies
with_methods-requires-clause-bodies c = bodies_known c.args.h.now c.args.bodies.now c.requires.program c.requires.followed

pub with_methods-requires-clause-methods : goal.with_methods-requires-clause-methods
with_methods-requires-clause-methods c = c.in_ok-methods.ensures.vars

pub returns-clause-tables : goal.returns-clause-tables
returns-clause-tables c = λ p of e.
    tables_of p c.args.foreign c.in_ok-tables.tables c.in_ok-methods.methods.items c.in_ok-fresh.fresh.next _ (c.in_ok-fresh.ensures p of) c.in_ok-tables.ensures.methods
    (c.in_ok-methods.ensures.vars p of e) c.in_ok-methods.ensures.numbers (c.in_ok-tables.ensures.tables p of e)

pub returns-clause-order : goal.returns-clause-order
returns-clause-order c =
    let (p, of, e) = c.requires.program in
    tables_ordered p c.args.foreign c.in_ok-tables.tables
    (tables_of p c.args.foreign c.in_ok-tables.tables c.in_ok-methods.methods.items c.in_ok-fresh.fresh.next _ (c.in_ok-fresh.ensures p of) c.in_ok-tables.ensures.methods
    (c.in_ok-methods.ensures.vars p of e) c.in_ok-methods.ensures.numbers (c.in_ok-tables.ensures.tables p of e))

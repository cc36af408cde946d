use Rattle.std.proofs.Common.{◌∙◌, sym}
use Rattle.tabulate.proofs.Fitting.{return_starts, return_exit}
use Rattle.tabulate.proofs.following.enter.Goals as goal

pub returns-in_default-clause-goes : goal.returns-in_default-clause-goes
returns-in_default-clause-goes g c = let x = return_exit c.args.f.now c.args.from c.args.n c.args.call c.requires.edge in absurd (c.in_default.ensures x.0 x.1)

pub owner-requires : goal.owner-requires
owner-requires g c = return_starts c.args.f.now c.args.from c.args.n c.args.call c.requires.edge

pub returns-in_default-find_method-clause-goes : goal.returns-in_default-find_method-clause-goes
returns-in_default-find_method-clause-goes g c = absurd (c.in_default-find_method.ensures (rw c.owner.ensures.is c.requires.callee))

pub pass_all-requires-clause-callee : goal.pass_all-requires-clause-callee
pass_all-requires-clause-callee g c = c.in-Some-find_method.ensures.1

pub pass_all-requires-clause-from : goal.pass_all-requires-clause-from
pass_all-requires-clause-from g c = (return_starts c.args.f.now c.args.from c.args.n c.args.call c.requires.edge, sym c.owner.ensures.is ∙ sym c.in-Some-find_method.ensures.2)

pub pass_all-requires-clause-exit : goal.pass_all-requires-clause-exit
pass_all-requires-clause-exit g c = c.in-Some.ensures

use Rattle.std.proofs.Common.{arith, subst, sym}
use Rattle.std.proofs.lemmas.Result.{on_ok_weaker}
use Rattle.bit_rows.specs.Words.{IsIn}
use Rattle.tabulate.specs.Rules.{Row, Whole}
use Rattle.tabulate.proofs.Going.{goes_same}
use Rattle.tabulate.proofs.found.give.Goals as goal

pub returns-clause-goes : goal.returns-clause-goes
returns-clause-goes g c = on_ok_weaker c.give_from.result (goes_same c.args.f.now c.args.found.now.items c.give_from.new.found.items c.args.queue.now.items c.give_from.new.queue.items c.args.steps.now c.give_from.new.steps
    (Row c.args.n.0 0 c.args.delta.now) (Whole c.args.n.0 c.args.delta.now)
    (λ x w. (w.0, (x.1, w.1, omega arith)))
    (λ x r. (r.0, subst (λ y. IsIn c.args.delta.now y) (sym (omega (arith, r.1.2))) r.1.1))) c.give_from.ensures.goes

use Rattle.std.proofs.Common.{ap, sym, arith}
use Rattle.slicer_ids.specs.declared.limits.LimitKind.TheVariants.{Methods}
use Rattle.dep_form.specs.declared.rules.TooMany.TheVariants.{Limit}
use Rattle.variable_tables.proofs.MethodPlaces.{as_many}
use Rattle.constraints.proofs.limits.root_of.Goals as goal

pub returns-then-count-gt-METHODS-clause-limit : goal.returns-then-count-gt-METHODS-clause-limit
returns-then-count-gt-METHODS-clause-limit c = λ p of.
    let e = as_many c.args.h.now c.method_places.result.now c.method_places.ensures p of in
    (ap (λ n. Limit Methods n) (sym e), omega (arith, c.if-count-gt-METHODS.true, e))

pub returns-clause-root : goal.returns-clause-root
returns-clause-root c = λ p of.
    let e = as_many c.args.h.now c.method_places.result.now c.method_places.ensures p of in
    (sym e, omega (arith, c.if-count-gt-METHODS.false, e))

use Rattle.std.proofs.Common.{length, sym}
use Rattle.std.proofs.lemmas.Bool.{ltb-true, ltb-false}
use Rattle.class_form.proofs.Indices.{read_at}
use Rattle.constraint_rules.proofs.MethodNumbers.{class_one, no_class_there}
use Rattle.constraint_rules.proofs.calls.class_of.Goals as goal

pub returns-in-Some : goal.returns-in-Some
returns-in-Some c = λ p of.
    let places = c.method_places.result.now in
    class_one c.args.h.now p of places c.method_places.ensures c.args.method c.in-Some.place.now
    (read_at places c.args.method.0 c.in-Some.place.now (ltb-true _ _ (sym c.in-Some.ensures.lookup.0)) c.in-Some.ensures.lookup.1)

pub returns-in-None : goal.returns-in-None
returns-in-None c = λ p of.
    let places = c.method_places.result.now in
    no_class_there c.args.h.now p of places c.method_places.ensures c.args.method (ltb-false c.args.method.0 (length places) (sym c.in-None.ensures.lookup.0))

use Rattle.std.proofs.Common.{length, sym}
use Rattle.std.proofs.lemmas.Bool.{ltb-true, ltb-false, false≢true}
use Rattle.class_form.proofs.Indices.{read_at}
use Rattle.constraint_rules.proofs.MethodNumbers.{abstract_number, no_abstract_number}
use Rattle.constraint_rules.proofs.calls.is_abstract.Goals as goal

pub returns-in-Some : goal.returns-in-Some
returns-in-Some c = λ p of.
    let places = c.method_places.result.now in
    abstract_number c.args.h.now p of places c.method_places.ensures c.args.method c.in-Some.place.now c.classes.result.now c.is_abstract_at.result
    (read_at places c.args.method.0 c.in-Some.place.now (ltb-true _ _ (sym c.in-Some.ensures.lookup.0)) c.in-Some.ensures.lookup.1) c.classes.ensures.classes c.is_abstract_at.ensures

pub returns-in-None : goal.returns-in-None
returns-in-None c = λ p of.
    let places = c.method_places.result.now in
    let never = no_abstract_number c.args.h.now p of places c.method_places.ensures c.args.method (ltb-false c.args.method.0 (length places) (sym c.in-None.ensures.lookup.0)) in
    (λ e. absurd (false≢true e), λ h. absurd (never h))

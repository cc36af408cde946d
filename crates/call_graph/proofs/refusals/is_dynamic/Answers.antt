use Rattle.std.proofs.Common.{sym}
use Rattle.std.proofs.lemmas.Bool.{ltb-true}
use Rattle.class_form.proofs.Indices.{read_at}
use Rattle.call_graph.proofs.Naming.{dynamic_at}
use Rattle.call_graph.proofs.refusals.is_dynamic.Goals as goal

pub returns-in-Some : goal.returns-in-Some
returns-in-Some c =
    dynamic_at c.args.classes.now c.args.places.now c.args.t c.in-Some.place.now c.is_dynamic_at.result
    (read_at c.args.places.now c.args.t.method.0 c.in-Some.place.now (ltb-true _ _ (sym c.in-Some.ensures.lookup.0)) c.in-Some.ensures.lookup.1) c.is_dynamic_at.ensures

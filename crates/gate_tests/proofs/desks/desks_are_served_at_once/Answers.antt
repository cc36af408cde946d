use Rattle.std.proofs.Common.{sym, subst, All, ◌∷◌, []}
use Rattle.std.proofs.lemmas.List.Elements.{All-nil, All-cons}
use Rattle.session_form.specs.States.{AreListed}
use Rattle.sessions.specs.Desks.{IsFresh}
use Rattle.gate_tests.proofs.desks.desks_are_served_at_once.Goals as goal

pub serve-requires-clause-fresh : goal.serve-requires-clause-fresh
serve-requires-clause-fresh g c κs =
    let one = c.in_ok-one in
    let fresh = IsFresh c.in_ok-shared.shared in
    subst (All fresh) (sym c.in_ok-desks.ensures) (All-cons fresh one.one (one.other ∷ []) one.ensures.first (All-cons fresh one.other [] one.ensures.second (All-nil fresh)))

pub serve-requires-clause-listed : goal.serve-requires-clause-listed
serve-requires-clause-listed g c κs = subst AreListed (sym c.in_ok-shared.ensures.facts) c.in_ok-facts.ensures

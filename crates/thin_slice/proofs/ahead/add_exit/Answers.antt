use Rattle.std.proofs.Common.{◌<◌, List, length, Contains, inl, inr, subst}
use Rattle.std.proofs.lemmas.List.Elements.{Contains-push_cases}
use Rattle.std.proofs.lemmas.Option.{slice_get_within}
use Rattle.slicer_ids.specs.declared.ids.ExitId.{ExitId}
use Rattle.thin_slice.proofs.ahead.add_exit.Goals as goal

pub returns-in_ok-push-in-Return-clause-exits : goal.returns-in_ok-push-in-Return-clause-exits
returns-in_ok-push-in-Return-clause-exits g c = λ d k.
    let exits = c.args.f.now.exits in
    elim (Contains-push_cases c.args.into.now.items c.in-Some.exit d (subst (λ (ys : List ExitId). Contains ys d) c.in_ok-push-in-Return.ensures.items k)) [
      | inl old ↦ c.requires.exits d old
      | inr is ↦ subst (λ (y : ExitId). y.0 < length exits) is (slice_get_within exits c.in-Some.exit.0 c.args.edge.from c.in-Some.ensures.need.0)
    ]

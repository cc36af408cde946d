use Rattle.std.proofs.Common.{◌≡◌, ◌∙◌, Some, sym, ap, subst}
use Rattle.std.specs.Prelude.{All}
use Rattle.std.proofs.lemmas.Option.{same_Some}
use Rattle.slicer_ids.specs.declared.ids.CallId.{CallId}
use Rattle.slicer_ids.specs.declared.ids.NodeId.{NodeId}
use Rattle.checked_facts.specs.Checks.{EndFits}
use Rattle.checked_facts.proofs.calls.fits_all.Goals as goal

pub returns-in-Some : goal.returns-in-Some
returns-in-Some c = λ t d b is.
    let same = same_Some (c.in-Some.c, c.in-Some.a) (d, b) (sym c.in-Some.is ∙ c.caller_end.ensures ∙ is) in
    subst (λ (x : CallId × NodeId). All (EndFits c.args.inputs.now x.0 x.1) c.args.edges.now) same (c.ends_fit.ensures t)

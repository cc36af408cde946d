use Rattle.std.proofs.Common.{◌≡◌, ◌∙◌, Some, sym, ap, subst}
use Rattle.std.proofs.lemmas.Option.{same_Some}
use Rattle.slicer_ids.specs.declared.ids.CallId.{CallId}
use Rattle.slicer_ids.specs.declared.ids.NodeId.{NodeId}
use Rattle.dep_form.specs.WithinFacts.{InOneMethod}
use Rattle.checked_facts.proofs.calls.end_fits.Goals as goal

pub returns-in-Some : goal.returns-in-Some
returns-in-Some c = λ t b is.
    let same = same_Some (c.in-Some.d, c.in-Some.b) (c.args.c, b) (sym c.in-Some.is ∙ c.caller_end.ensures ∙ is) in
    subst (λ (n : NodeId). InOneMethod c.args.inputs.now c.args.a n) (ap (λ (x : CallId × NodeId). x.1) same)
    (c.fits_or_other.ensures t (sym (ap (λ (x : CallId × NodeId). x.0) same)))

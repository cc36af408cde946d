use Rattle.std.proofs.Common.{◌≡◌, sym, ap, ◌∙◌}
use Rattle.std.proofs.lemmas.Option.{same_Some}
use Rattle.dep_form.specs.declared.call_site.CallSite.{CallSite}
use Rattle.input_tables.proofs.outside.outside_call.Goals as goal

pub returns-in-None-clause-none : goal.returns-in-None-clause-none
returns-in-None-clause-none c = λ k r t is. let w = c.place_of.ensures in cc (sym is.place ∙ ap (λ (y : CallSite). y.place) (same_Some k w.0 (sym is.site ∙ w.1)) ∙ w.2 ∙ c.in-None.is)

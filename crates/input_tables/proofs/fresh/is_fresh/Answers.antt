use Rattle.std.proofs.Common.{◌≡◌, refl, sym, ap, ◌∙◌}
use Rattle.std.proofs.lemmas.Option.{same_Some}
use Rattle.dep_form.specs.declared.call_site.CallSite.{CallSite}
use Rattle.input_tables.proofs.fresh.is_fresh.Goals as goal

pub returns-in-Some : goal.returns-in-Some
returns-in-Some c = let w = c.fresh_of.ensures in (λ e. (w.0, c.in-Some.field-0, w.1, w.2 ∙ c.in-Some.is), λ h. refl)

pub returns-in-None : goal.returns-in-None
returns-in-None c = let w = c.fresh_of.ensures in (λ e. absurd (cc e), λ (k, first, at, f). absurd (cc (sym f ∙ ap (λ (y : CallSite). y.fresh) (same_Some k w.0 (sym at ∙ w.1)) ∙ w.2 ∙ c.in-None.is)))

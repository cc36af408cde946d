-- What was collected is what statements of reached methods define and use.
use Rattle.std.proofs.Common.{◌≡◌, ◌↔◌, ◌⊎◌, true, false, inl, inr, refl, sym, subst}
use Rattle.slicer_ids.specs.declared.ids.CallId.{CallId}
use Rattle.dep_form.specs.declared.call_site.CallSite.{CallSite}
use Rattle.dep_form.specs.declared.effects.Location.{Location}
use Rattle.dep_form.specs.declared.effects.Location.TheVariants.{Cell}
use Rattle.dep_form.specs.declared.rules.OutsideRule.{OutsideRule}
use Rattle.dep_form.specs.declared.system.System.{System}
use Rattle.dep_form.specs.Effects.{CallDefines, CallUses, DefinedIn, UsedIn, written, fresh_length, fresh_elements, read, copied}
use Rattle.mod_ref.specs.Direct.{AtCalls, AtFresh, AtTouches, FreshDefines, Passed}
use Rattle.mod_ref.specs.declared.effects.Effect.{Effect}

module _ (s : System) (c : CallId) (k : CallSite) (r : OutsideRule) where
  defines_to : (l : Location) → CallDefines s c k r l → Passed s true c k r l ⊎ FreshDefines s c k l
  defines_to l (written {b = b} {f = f} w) = inl (b, f, refl, w)
  defines_to l (fresh_length {o = o} {first = first} {h = h} {info = info} gone fresh site place array) = inr (o, first, h, info, gone, fresh, site, place, array, inl refl)
  defines_to l (fresh_elements {o = o} {first = first} {h = h} {info = info} gone fresh site place array) = inr (o, first, h, info, gone, fresh, site, place, array, inr refl)

  passed_defines : (l : Location) → Passed s true c k r l → CallDefines s c k r l
  passed_defines l (b, f, e, w) = subst (CallDefines s c k r) (sym e) (written w)

  fresh_defines : (l : Location) → FreshDefines s c k l → CallDefines s c k r l
  fresh_defines l (o, first, h, info, gone, fresh, site, place, array, inl e) = subst (CallDefines s c k r) (sym e) (fresh_length gone fresh site place array)
  fresh_defines l (o, first, h, info, gone, fresh, site, place, array, inr e) = subst (CallDefines s c k r) (sym e) (fresh_elements gone fresh site place array)

  uses_to : (l : Location) → CallUses s c k r l → Passed s false c k r l
  uses_to l (read {b = b} {f = f} h) = (b, f, refl, inl h)
  uses_to l (copied {b = b} {f = f} m st) = (b, f, refl, inr (m, st))

  passed_uses : (l : Location) → Passed s false c k r l → CallUses s c k r l
  passed_uses l (b, f, e, inl h) = subst (CallUses s c k r) (sym e) (read h)
  passed_uses l (b, f, e, inr h) = subst (CallUses s c k r) (sym e) (copied h.0 h.1)

pub defined_is : (s : System) (x : Effect) → ((AtTouches s true x ⊎ AtCalls s true x) ⊎ AtFresh s x) ↔ DefinedIn s x.method x.location
defined_is s x = (to, from)
  where
    to : (AtTouches s true x ⊎ AtCalls s true x) ⊎ AtFresh s x → DefinedIn s x.method x.location
    to (inl (inl (reached, t))) = (reached, inl t)
    to (inl (inr (reached, (c, k, r, is, p)))) = (reached, inr (c, k, r, is, passed_defines s c k r x.location p))
    to (inr (reached, (c, k, r, is, f))) = (reached, inr (c, k, r, is, fresh_defines s c k r x.location f))

    from : DefinedIn s x.method x.location → (AtTouches s true x ⊎ AtCalls s true x) ⊎ AtFresh s x
    from (reached, inl t) = inl (inl (reached, t))
    from (reached, inr (c, k, r, is, d)) = elim (defines_to s c k r x.location d) [ inl p ↦ inl (inr (reached, (c, k, r, is, p))) | inr f ↦ inr (reached, (c, k, r, is, f)) ]

pub used_is : (s : System) (x : Effect) → (AtTouches s false x ⊎ AtCalls s false x) ↔ UsedIn s x.method x.location
used_is s x = (to, from)
  where
    to : AtTouches s false x ⊎ AtCalls s false x → UsedIn s x.method x.location
    to (inl (reached, t)) = (reached, inl t)
    to (inr (reached, (c, k, r, is, p))) = (reached, inr (c, k, r, is, passed_uses s c k r x.location p))

    from : UsedIn s x.method x.location → AtTouches s false x ⊎ AtCalls s false x
    from (reached, inl t) = inl (reached, t)
    from (reached, inr (c, k, r, is, u)) = inr (reached, (c, k, r, is, uses_to s c k r x.location u))

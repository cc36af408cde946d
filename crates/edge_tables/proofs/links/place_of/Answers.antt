use Rattle.std.proofs.Common.{◌≡◌, List, get_or, refl, sym, subst}
use Rattle.std.proofs.lemmas.Option.{slice_get-get_or}
use Rattle.dep_form.specs.declared.call_site.CallSite.{CallSite}
use Rattle.dep_form.specs.Constraints.{IsCallSite}
use Rattle.edge_tables.proofs.links.place_of.Goals as goal

pub returns : goal.returns
returns c =
    let s = c.args.system.now in
    let n = c.args.number.0 in
    let d = c.index-items-number.result in
    subst (λ (ks : List CallSite). (x : CallSite) × IsCallSite s c.args.number x × (x.place ≡ (get_or ks n d).place)) (sym c.items.ensures) (get_or s.calls n d, slice_get-get_or s.calls n d c.requires, refl)

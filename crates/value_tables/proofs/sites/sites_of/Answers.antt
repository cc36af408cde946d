use Rattle.std.proofs.Common.{◌≡◌, ◌↔◌, List, Contains, length, Some, sym, ap, subst, ◌∙◌, arith}
use Rattle.std.specs.Prelude.{slice_get}
use Rattle.std.proofs.lemmas.List.Elements.{All-contains}
use Rattle.class_form.proofs.Indices.{index_at}
use Rattle.slicer_ids.specs.declared.ids.SiteId.{SiteId}
use Rattle.text_tables.proofs.Options.{some_is, none_is}
use Rattle.value_tables.specs.Methods.{VarHas}
use Rattle.value_tables.proofs.sites.sites_of.Goals as goal

pub returns-in-Some : goal.returns-in-Some
returns-in-Some c = λ s h solved lt.
    let hs = c.in-Some.sites.now in
    let at = some_is _ c.list_at.result c.in-Some.sites _ c.in-Some.is c.list_at.ensures in
    let o = solved.sites c.args.v hs (subst (λ (xs : List (List SiteId)). slice_get xs c.args.v.0 ≡ Some hs) c.items.ensures at) in (
      λ among. All-contains (VarHas s c.args.v) hs h o.each (subst (λ (xs : List SiteId). Contains xs h) c.items-in-Some.ensures among),
      λ has. subst (λ (xs : List SiteId). Contains xs h) (sym c.items-in-Some.ensures) (o.whole h has),
    )

pub returns-in-None : goal.returns-in-None
returns-in-None c = λ s h solved lt.
    let w = index_at c.args.sol.now.sites c.args.v.0 (omega (arith, lt, solved.vars)) in
    none_is _ c.list_at.result _ w.0 c.in-None.is c.list_at.ensures (subst (λ (xs : List (List SiteId)). slice_get xs c.args.v.0 ≡ Some w.0) (sym c.items.ensures) w.1)

use Rattle.std.proofs.Common.{List, sym, subst, ◌∙◌}
use Rattle.std.proofs.lemmas.List.{take_all}
use Rattle.dep_form.specs.declared.rules.SiteInfo.{SiteInfo}
use Rattle.dep_form.specs.declared.texts.SiteName.{SiteName}
use Rattle.fact_form.proofs.ItemLists.{IsMadeFrom}
use Rattle.text_tables.specs.SiteNames.{IsNameOf}
use Rattle.text_tables.proofs.SiteTables.{made_none, made_more, names_described}
use Rattle.text_tables.proofs.sites.site_names.Goals as goal

pub loop-info-init : goal.loop-info-init
loop-info-init c = made_none (IsNameOf c.args.h.now c.args.bodies.now) c.items-info-items.result.now c.new-names.result.items c.new-names.ensures.items

pub loop-info-preserved : goal.loop-info-preserved
loop-info-preserved c =
    let w = c.in_ok-add_name.ensures in
    made_more (IsNameOf c.args.h.now c.args.bodies.now) c.items-info-items.result.now c.loop-info.info-index _ c.loop-info.names.items c.add_name.new.names.items w.0 c.loop-info-test.true c.loop-info.invariant
    w.1 w.2

pub returns : goal.returns
returns c = λ p is.
    let whole : IsMadeFrom (IsNameOf c.args.h.now c.args.bodies.now) c.args.s.now.sites c.from_vec.result =
    subst (λ (xs : List SiteName). IsMadeFrom (IsNameOf c.args.h.now c.args.bodies.now) c.args.s.now.sites xs) (sym c.from_vec.ensures)
    (subst (λ (xs : List SiteInfo). IsMadeFrom (IsNameOf c.args.h.now c.args.bodies.now) xs c.loop-info.names.items) (take_all c.loop-info.info-index c.items-info-items.result.now c.loop-info-test.false ∙ c.items-info-items.ensures) c.loop-info.invariant) in
    names_described c.args.h.now c.args.bodies.now c.args.s.now c.from_vec.result whole p is

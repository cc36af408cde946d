use Rattle.std.proofs.Common.{◌≡◌, Some, sym, subst, ◌∙◌}
use Rattle.std.proofs.lemmas.Option.{same_Some}
use Rattle.dep_form.specs.declared.rules.SiteInfo.{SiteInfo}
use Rattle.mod_ref.specs.Direct.{AtIndex, AtInfo}
use Rattle.mod_ref.proofs.Touched.{told}
use Rattle.mod_ref.proofs.fresh.add_index.Goals as goal

pub returns : goal.returns
returns c =
    let s = c.args.system.now in
    let info = c.info_of.result in
    told c.add_info.result c.args.effects.now.items.items c.add_info.new.effects.items.items (AtInfo s c.args.places.now c.args.site info) (AtIndex s c.args.places.now c.args.site.0)
    (λ x. (λ h. (info, c.info_of.ensures, h), λ (other, at, h). subst (λ (i : SiteInfo). AtInfo s c.args.places.now c.args.site i x) (same_Some other info (sym at ∙ c.info_of.ensures)) h)) c.add_info.ensures

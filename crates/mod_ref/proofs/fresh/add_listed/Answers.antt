use Rattle.std.proofs.Common.{◌≡◌, sym, subst, ◌∙◌, Some}
use Rattle.std.proofs.lemmas.Option.{same_Some}
use Rattle.slicer_ids.specs.declared.ids.Statement.{Statement}
use Rattle.mod_ref.specs.Direct.{AtArray, AtInfo}
use Rattle.mod_ref.proofs.Touched.{told}
use Rattle.mod_ref.proofs.fresh.add_listed.Goals as goal

pub returns-then-is_listed : goal.returns-then-is_listed
returns-then-is_listed c =
    let s = c.args.system.now in
    told c.add_array.result c.args.effects.now.items.items c.add_array.new.effects.items.items (AtArray s c.args.site c.args.place.method) (AtInfo s c.args.places.now c.args.site c.args.info)
    (λ x. (
      λ a. (c.args.place, c.if-info.true, c.requires.place, c.is_listed.ensures.0 c.if-is_listed.true, a),
      λ (t, array, place, there, a). subst (λ (y : Statement). AtArray s c.args.site y.method x) (same_Some t c.args.place (sym place ∙ c.requires.place)) a,
    )) c.add_array.ensures

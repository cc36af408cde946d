use Rattle.std.proofs.Common.{◌≡◌, List, length, ap, ◌∙◌, sym, subst}
use Rattle.std.proofs.lemmas.Result.{on_ok_weaker}
use Rattle.slicer_ids.specs.Order.{SiteBefore}
use Rattle.slicer_ids.specs.Sets.{IsOrderedListOf}
use Rattle.value_tables.specs.Values.{PointHas}
use Rattle.slicer_ids.specs.declared.ids.SiteId.{SiteId}
use Rattle.value_tables.proofs.Tabled.{point_skipped, point_added}
use Rattle.value_tables.proofs.table.add_point.Goals as goal

pub returns-then-are_none : goal.returns-then-are_none
returns-then-are_none c = λ p of among has.
    point_skipped p c.args.x.now c.requires of among c.args.point.now has c.in_ok-sites.sites.items c.in_ok-sites.ensures c.args.values.now.items c.args.values.now.items
    (ap (λ (hs : List SiteId). length hs) (sym c.as_slice.ensures.value) ∙ c.are_none.ensures.0 c.if-are_none.true)

pub returns : goal.returns
returns c = λ p of among has.
    on_ok_weaker c.push.result
    (λ e. point_added p c.args.x.now c.requires of among c.args.point.now has c.from_vec.result (subst (λ (hs : List SiteId). IsOrderedListOf SiteBefore hs (PointHas c.args.x.now c.args.point.now)) (sym c.from_vec.ensures) c.in_ok-sites.ensures) c.args.values.now.items c.push.new.values.items e) c.push.ensures

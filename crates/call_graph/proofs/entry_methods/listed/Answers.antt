use Rattle.std.proofs.Common.{◌≡◌, Some, map, ap, ◌∙◌}
use Rattle.std.specs.Prelude.{option_map, slice_get}
use Rattle.std.proofs.lemmas.Option.{slice_get-map}
use Rattle.hierarchy.specs.Places.{declared_at}
use Rattle.call_graph.proofs.Listing.{entries_more, no_entries}
use Rattle.call_graph.proofs.entry_methods.listed.Goals as goal

pub loop-number-init : goal.loop-number-init
loop-number-init c = no_entries c.args.classes.now (map declared_at c.args.places.now) (option_map (λ b. b.now) c.args.main) c.new-all.result.items c.new-all.ensures.items

pub loop-number-preserved : goal.loop-number-preserved
loop-number-preserved c =
    let methods = map declared_at c.args.places.now in
    let place = c.place_at.result in
    let at : slice_get methods c.loop-number.number ≡ Some (declared_at place) = slice_get-map declared_at c.args.places.now c.loop-number.number ∙ ap (option_map declared_at) c.place_at.ensures in
    entries_more c.args.classes.now methods (option_map (λ b. b.now) c.args.main) c.loop-number.number (declared_at place) at c.loop-number.all.items c.add_entry.new.all.items c.loop-number.invariant c.is_entry-is.result c.is_entry-is.ensures c.in_ok-add_entry.ensures

use Rattle.std.proofs.Common.{◌≡◌, ◌<◌, List, length, map, sym, subst, arith}
use Rattle.std.specs.Prelude.{option_map}
use Rattle.std.proofs.lemmas.List.{length-map}
use Rattle.dep_form.specs.declared.rules.Entry.{Entry}
use Rattle.hierarchy.specs.Places.{declared_at}
use Rattle.call_graph.specs.Entries.{AreEntries}
use Rattle.call_graph.specs.Looking.{AreEntriesBelow}
use Rattle.call_graph.proofs.Early.{empty_is, is_positive, is_zero, some_in}
use Rattle.call_graph.proofs.Listing.{entries_are, none_is}
use Rattle.call_graph.proofs.entry_methods.with_places.Goals as goal

pub returns-then-is_empty-clause-none : goal.returns-then-is_empty-clause-none
returns-then-is_empty-clause-none c = λ e.
    let classes = c.args.classes.now in
    let methods = map declared_at c.args.places.now in
    let main = option_map (λ b. b.now) c.args.main in
    let items = c.in-Ok.all.items in
    let below : AreEntriesBelow classes methods main items (length methods) = subst (AreEntriesBelow classes methods main items) (sym (length-map c.args.places.now declared_at)) c.in-Ok.ensures in
    let none : length items ≡ 0 = omega (arith, is_zero c.is_empty.result c.is_empty.ensures c.if-is_empty.true, c.in-Ok.all.ok.0) in
    none_is classes methods main items c.requires.methods below (empty_is items none)

pub returns-clause-entries : goal.returns-clause-entries
returns-clause-entries c =
    let classes = c.args.classes.now in
    let methods = map declared_at c.args.places.now in
    let main = option_map (λ b. b.now) c.args.main in
    let items = c.in-Ok.all.items in
    let below : AreEntriesBelow classes methods main items (length methods) = subst (AreEntriesBelow classes methods main items) (sym (length-map c.args.places.now declared_at)) c.in-Ok.ensures in
    let some : 0 < length items = omega (arith, is_positive c.is_empty.result c.is_empty.ensures c.if-is_empty.false, c.in-Ok.all.ok.0) in
    subst (λ (es : List Entry). AreEntries classes main es) (sym c.from_vec.ensures) (entries_are classes methods main items c.requires.methods below (some_in items some))

use Rattle.std.proofs.Common.{◌≡◌, rules, sym, subst}
use Rattle.std.proofs.lemmas.Fn.{always_returns_same}
use Rattle.std.proofs.lemmas.List.Sorted.{searchable_from_sorted}
use Rattle.std.specs.Prelude.{IsSortedByKey}
use Rattle.hierarchy.specs.Places.{number_key_at, number_key_of, number_cmp}
use Rattle.hierarchy.proofs.Keys.{number_total}
use Rattle.hierarchy.proofs.Numbering.{found_number, missed_number}
use Rattle.hierarchy.proofs.members.Members.number.Goals as goal

pub returns-in-Ok : goal.returns-in-Ok
returns-in-Ok c =
    let x = number_key_of c.args.class c.args.name.now c.args.descriptor.now in
    let key = number_key_at c.args.kind c.args.classes.now in
    found_number c.args.kind c.args.classes.now c.requires.named c.args.name.now c.args.descriptor.now c.args.class c.as_slice-places.result.now c.args.self.now.places.items c.in-Ok.n
    c.as_slice-places.ensures.value c.requires.members.same c.in-Ok.ensures.bound
    (c.in-Ok.ensures.position (λ y. number_cmp (key y) x) (always_returns_same _ _ _ (λ a r g h. (search rules, search rules))))

pub returns-in-Err : goal.returns-in-Err
returns-in-Err c =
    let x = number_key_of c.args.class c.args.name.now c.args.descriptor.now in
    let key = number_key_at c.args.kind c.args.classes.now in
    let places = c.as_slice-places.result.now in
    let sorted = subst (IsSortedByKey key number_cmp) (sym c.as_slice-places.ensures.value) c.requires.members.sorted in
    let p = c.in-Err.ensures.position (λ y. number_cmp (key y) x) (always_returns_same _ _ _ (λ a r g h. (search rules, search rules))) (searchable_from_sorted number_total key places x sorted) in
    missed_number c.args.kind c.args.classes.now c.requires.named c.args.name.now c.args.descriptor.now c.args.class places c.args.self.now.places.items c.in-Err.field-0
    c.as_slice-places.ensures.value c.requires.members.same (p.0, p.1)

use Rattle.std.proofs.Common.{◌≡◌, ◌<◌, ◌+◌, ◌∷◌, [], length, sym, ap, subst, refl, arith, length-append}
use Rattle.std.proofs.lemmas.Option.{slice_get_read}
use Rattle.class_form.specs.Classes.{IsClass}
use Rattle.slicer_ids.specs.Sets.{IsOrderedListOf}
use Rattle.hierarchy.specs.Places.{PlaceBefore, IsPlaceUpTo, members_of}
use Rattle.hierarchy.proofs.Rows.{same_class}
use Rattle.hierarchy.proofs.Placing.{one_place, class_done, class_at}
use Rattle.hierarchy.proofs.members.push_class.Goals as goal

pub loop-i-preserved : goal.loop-i-preserved
loop-i-preserved c =
    let k = c.index-classes-class.result in
    let at = class_at c.args.classes.now c.args.class k c.requires.class c.index-classes-class.is in
    let before = c.loop-i.invariant.count in
    let len = ap length c.in_ok-push.ensures in
    record {
      listed = subst (λ places. IsOrderedListOf PlaceBefore places (IsPlaceUpTo c.args.kind c.args.classes.now c.args.class (c.loop-i.i + 1))) (sym c.in_ok-push.ensures)
          (one_place c.args.kind c.args.classes.now c.args.class c.loop-i.i k c.loop-i.places.items at (omega (arith, ap length c.members_in-members.ensures, c.loop-i-test.true)) c.loop-i.invariant.listed);
      count = omega (arith, len, before, length-append c.loop-i.places.items ((record { 0 = c.args.class }, c.loop-i.i) ∷ []));
    }

pub returns-clause-listed : goal.returns-clause-listed
returns-clause-listed c =
    let k = c.index-classes-class.result in
    let at = class_at c.args.classes.now c.args.class k c.requires.class c.index-classes-class.is in
    let end : c.loop-i.i ≡ length (members_of c.args.kind k) = omega (arith, ap length c.members_in-members.ensures) in
    class_done c.args.kind c.args.classes.now c.args.class k c.loop-i.places.items at
    (subst (λ n. IsOrderedListOf PlaceBefore c.loop-i.places.items (IsPlaceUpTo c.args.kind c.args.classes.now c.args.class n)) end c.loop-i.invariant.listed)

pub returns-clause-count : goal.returns-clause-count
returns-clause-count c = λ j h.
    let k = c.index-classes-class.result in
    let at = class_at c.args.classes.now c.args.class k c.requires.class c.index-classes-class.is in
    let same = same_class c.args.classes.now c.args.class k j at h in
    let len = ap (λ q. length (members_of c.args.kind q)) same in
    let count = c.loop-i.invariant.count in
    omega (arith, ap length c.members_in-members.ensures, len, count)

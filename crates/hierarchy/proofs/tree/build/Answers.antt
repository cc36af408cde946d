use Rattle.std.proofs.Common.{sym, subst}
use Rattle.std.specs.Prelude.{All}
use Rattle.std.proofs.lemmas.List.Sorted.{All-permutation}
use Rattle.class_form.specs.Classes.{AreInOrder}
use Rattle.class_form.specs.Numbers.{IsNamedClass}
use Rattle.class_form.specs.Folders.{StandsTwice, IsLeastName}
use Rattle.hierarchy.proofs.Building.{ordered_from, cause_twice, built, refused, few_from}
use Rattle.hierarchy.proofs.tree.build.Goals as goal

pub find_twice-requires-clause-named : goal.find_twice-requires-clause-named
find_twice-requires-clause-named c =
    let files = c.args.classes.items in
    let classes = c.in_order-classes.result.items in
    let same = c.in_order-classes.ensures.same in
    subst (All IsNamedClass) (sym c.as_slice.ensures.value) (All-permutation IsNamedClass files classes same c.requires.named)

pub of_ordered-requires : goal.of_ordered-requires
of_ordered-requires c =
    let files = c.args.classes.items in
    let classes = c.in_order-classes.result.items in
    let same = c.in_order-classes.ensures.same in
    let order = subst AreInOrder c.as_slice.ensures.value c.in-None.ensures in
    let ordered = ordered_from files classes same c.in_order-classes.ensures.sorted c.requires.named c.requires.few order in
    record { ordered = ordered; few = few_from files classes same c.requires.few }

pub returns-in-Some-clause-err : goal.returns-in-Some-clause-err
returns-in-Some-clause-err c =
    let files = c.args.classes.items in
    let classes = c.in_order-classes.result.items in
    let same = c.in_order-classes.ensures.same in
    cause_twice files classes c.in-Some.name.now c.duplicate.result same
    (subst (λ xs. IsLeastName (StandsTwice xs) c.in-Some.name.now) c.as_slice.ensures.value c.in-Some.ensures) c.duplicate.ensures

pub returns-in-None-clause-ok : goal.returns-in-None-clause-ok
returns-in-None-clause-ok c =
    let files = c.args.classes.items in
    let classes = c.in_order-classes.result.items in
    let same = c.in_order-classes.ensures.same in
    let order = subst AreInOrder c.as_slice.ensures.value c.in-None.ensures in
    let ordered = ordered_from files classes same c.in_order-classes.ensures.sorted c.requires.named c.requires.few order in
    built files classes c.of_ordered.result same ordered c.of_ordered.ensures.ok

pub returns-in-None-clause-err : goal.returns-in-None-clause-err
returns-in-None-clause-err c =
    let files = c.args.classes.items in
    let classes = c.in_order-classes.result.items in
    let same = c.in_order-classes.ensures.same in
    let order = subst AreInOrder c.as_slice.ensures.value c.in-None.ensures in
    let ordered = ordered_from files classes same c.in_order-classes.ensures.sorted c.requires.named c.requires.few order in
    refused files classes c.of_ordered.result same ordered c.of_ordered.ensures.err

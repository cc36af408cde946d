use Rattle.std.proofs.Common.{◌<◌, length, sym, subst, ap, ◌∙◌, ◌-◌, take}
use Rattle.std.specs.Prelude.{All, IsSortedByKey}
use Rattle.hierarchy.specs.Places.{AreSamePlaces, texts_at, texts_of, texts_cmp}
use Rattle.hierarchy.proofs.Numbering.{AreBetween, low_high, run_within, run_exact_in}
use Rattle.hierarchy.proofs.members.Members.named.Goals as goal

pub count_before-low-requires : goal.count_before-low-requires
count_before-low-requires c = subst (IsSortedByKey (texts_at c.args.kind c.args.classes.now) texts_cmp) (sym c.as_slice-places.ensures.value) c.requires.members.sorted_by_texts

pub overflow_sub-high : goal.overflow_sub-high
overflow_sub-high c =
    let x = texts_of c.args.name.now c.args.descriptor.now in
    let b : AreBetween c.args.kind c.args.classes.now x c.as_slice-places.result.now c.count_before-low.result c.count_up_to-high.result = record {
      low_within = c.count_before-low.ensures.within;
      high_within = c.count_up_to-high.ensures.within;
      before = c.count_before-low.ensures.point;
      up_to = c.count_up_to-high.ensures.point;
    } in
    low_high c.args.kind c.args.classes.now x c.as_slice-places.result.now c.count_before-low.result c.count_up_to-high.result b

pub returns-clause-within : goal.returns-clause-within
returns-clause-within c =
    let x = texts_of c.args.name.now c.args.descriptor.now in
    let b : AreBetween c.args.kind c.args.classes.now x c.as_slice-places.result.now c.count_before-low.result c.count_up_to-high.result = record {
      low_within = c.count_before-low.ensures.within;
      high_within = c.count_up_to-high.ensures.within;
      before = c.count_before-low.ensures.point;
      up_to = c.count_up_to-high.ensures.point;
    } in
    let same = subst (AreSamePlaces c.args.kind c.args.classes.now) (sym c.as_slice-places.ensures.value) c.requires.members.same_again in
    let run = c.split_at-2.ensures.front ∙ ap (take (c.count_up_to-high.result - c.count_before-low.result)) c.split_at.ensures.back in
    subst (All (λ p. p.0.0 < length c.args.classes.now)) (sym run)
    (run_within c.args.kind c.args.classes.now c.requires.named c.args.name.now c.args.descriptor.now c.as_slice-places.result.now c.count_before-low.result c.count_up_to-high.result same b)

pub returns-clause-exact : goal.returns-clause-exact
returns-clause-exact c =
    let x = texts_of c.args.name.now c.args.descriptor.now in
    let b : AreBetween c.args.kind c.args.classes.now x c.as_slice-places.result.now c.count_before-low.result c.count_up_to-high.result = record {
      low_within = c.count_before-low.ensures.within;
      high_within = c.count_up_to-high.ensures.within;
      before = c.count_before-low.ensures.point;
      up_to = c.count_up_to-high.ensures.point;
    } in
    let same = subst (AreSamePlaces c.args.kind c.args.classes.now) (sym c.as_slice-places.ensures.value) c.requires.members.same_again in
    let run = c.split_at-2.ensures.front ∙ ap (take (c.count_up_to-high.result - c.count_before-low.result)) c.split_at.ensures.back in
    run_exact_in c.args.kind c.args.classes.now c.requires.named c.args.name.now c.args.descriptor.now c.as_slice-places.result.now c.count_before-low.result c.count_up_to-high.result same b _ run

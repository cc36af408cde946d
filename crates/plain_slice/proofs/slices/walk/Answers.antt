use Rattle.std.proofs.Common.{◌<◌, ◌+◌, sym, subst, List, take, get_or, length, arith}
use Rattle.std.proofs.lemmas.List.{take_all}
use Rattle.std.proofs.lemmas.List.Elements.{Contains-get_or}
use Rattle.std.proofs.lemmas.Grind.{common_steps}
use Rattle.slicer_ids.specs.declared.ids.NodeId.{NodeId}
use Rattle.worklists.proofs.Closing.{goes_on, Closing}
use Rattle.plain_slice.specs.declared.table.Pair.{Pair}
use Rattle.plain_slice.specs.Rules.{Leaves}
use Rattle.plain_slice.proofs.Slicing.{Good, Never, AreThere, by_one, is_slice, seed_closes, none_yet, seed_there, still_there, no_more}
use Rattle.plain_slice.proofs.slices.walk.Goals as goal

pub loop-seed-init : goal.loop-seed-init
loop-seed-init c =
    let e = c.new-pairs.ensures.items in
    let edges = c.args.edges.now in
    let seeds = c.args.seeds.now in
    let P : List Pair → Type 0 = λ xs. AreThere (take 0 seeds) xs in
    record {
      table = grind (arith, common_steps);
      there = subst P (sym e) (λ s h. absurd (omega (arith, h.1)));
      begun = subst (λ (xs : List Pair). Closing (Good edges seeds) (Leaves edges c.args.levels.now) Never 0 xs) (sym e) (none_yet edges c.args.levels.now seeds);
    }

pub loop-seed-preserved : goal.loop-seed-preserved
loop-seed-preserved c =
    let seeds = c.args.seeds.now in
    let i = c.loop-seed.seed-index in
    let none : NodeId = record { 0 = 0 } in
    let grown = c.in_ok-add.ensures.grown in
    record {
      table = c.in_ok-add.ensures.table;
      there = seed_there seeds i none c.loop-seed.pairs.items c.add.new.pairs.items c.loop-seed-test.true grown c.loop-seed.invariant.there;
      begun = seed_closes c.args.edges.now c.args.levels.now seeds (get_or seeds i none) c.loop-seed.pairs.items c.add.new.pairs.items (Contains-get_or seeds i none c.loop-seed-test.true) grown c.loop-seed.invariant.begun;
    }

pub loop-next-init : goal.loop-next-init
loop-next-init c =
    let all = take_all c.loop-seed.seed-index c.args.seeds.now c.loop-seed-test.false in
    record {
      table = c.loop-seed.invariant.table;
      there = subst (λ (xs : List NodeId). AreThere xs c.loop-seed.pairs.items) all c.loop-seed.invariant.there;
      done = c.loop-seed.invariant.begun;
    }

pub loop-next-preserved : goal.loop-next-preserved
loop-next-preserved c =
    let edges = c.args.edges.now in
    let seeds = c.args.seeds.now in
    let levels = c.args.levels.now in
    let x = c.index-from.result.now in
    let old = c.loop-next.pairs.items in
    let new = c.leave.new.pairs.items in
    let lt : c.loop-next.next < length old = omega (arith, c.loop-next-test.true, c.len.ensures) in
    let grown = c.in_ok-leave.ensures.grown in
    record {
      table = c.in_ok-leave.ensures.table;
      there = still_there seeds old new (Leaves edges levels x) grown c.loop-next.invariant.there;
      done = goes_on (Good edges seeds) (Leaves edges levels) Never (by_one c.args.size edges levels seeds c.requires.levels) (λ p q r h k f. absurd f) c.loop-next.next x old new new lt c.index-from.ensures grown (no_more x (c.loop-next.next + 1) new) c.loop-next.invariant.done;
    }

pub returns : goal.returns
returns c = λ n. is_slice c.args.size c.args.edges.now c.args.levels.now c.args.seeds.now c.requires.levels c.loop-next.next c.loop-next.pairs.items (omega (arith, c.loop-next-test.false, c.len.ensures)) c.loop-next.invariant.table.below c.loop-next.invariant.done c.loop-next.invariant.there n

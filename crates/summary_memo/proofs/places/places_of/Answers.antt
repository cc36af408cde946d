use Rattle.std.proofs.Common.{arith, rules, ◌≡◌, ◌<◌, ℕ, length, List, sym, ap, ◌∙◌, subst}
use Rattle.std.specs.Prelude.{slice_index, ◌≢◌}
use mathlib.Core.Logic.{dite}
use native.Mathlib.Decide.{ℕ_discrete}
use Rattle.summary_memo.specs.Places.{before, widths}
use Rattle.summary_memo.proofs.Starts.{index_snoc}
use Rattle.summary_memo.proofs.Widths.{next_start, words_few}
use Rattle.summary_memo.proofs.places.places_of.Goals as goal

pub overflow_add-next : goal.overflow_add-next
overflow_add-next c = let few = c.width_of-words.ensures.few in grind (arith, few)

pub overflow_add-next-in-loop-exit : goal.overflow_add-next-in-loop-exit
overflow_add-next-in-loop-exit c =
    let few = c.width_of-words.ensures.few in
    let now = words_few c.args.f.now c.loop-exit.exit c.loop-exit.invariant.0 in
    grind (arith, few, now, c.loop-exit.invariant.2)

pub loop-exit-preserved : goal.loop-exit-preserved
loop-exit-preserved c =
    let f = c.args.f.now in
    let k : ℕ = c.loop-exit.exit in
    let lt : k < length f.exits = omega (arith, c.loop-exit-test.true, ap length c.items.ensures) in
    let next = next_start f (record { 0 = k }) lt in
    let count = c.loop-exit.invariant.1 in
    let pushed = c.in_ok-push.ensures.items in
    let most = c.larger-longest.ensures in (
      omega (arith, lt),
      search rules,
      omega (arith, next, c.loop-exit.invariant.2, c.width_of-words.ensures.width),
      λ j within. subst (λ (xs : List ℕ). slice_index xs j ≡ before (widths f) j) (sym pushed)
          (index_snoc c.loop-exit.starts.items c.loop-exit.next (before (widths f)) (λ i in_it. c.loop-exit.invariant.3 i (omega (arith, count, in_it)))
          (c.loop-exit.invariant.2 ∙ ap (before (widths f)) (sym count)) j (omega (arith, count, within))),
      λ e within. dite (ℕ_discrete e.0 k)
          (λ (same : e.0 ≡ k). omega (arith, most.1, c.width_of-words.ensures.width, ap (slice_index (widths f)) same))
          (λ (other : e.0 ≢ k). omega (arith, most.0, c.loop-exit.invariant.4 e (omega (arith, within, other)))),
    )

-- The turns of a slice that was widened.
use Rattle.std.proofs.Common.{◌≡◌, ◌++◌, ℕ, List, [], Contains, Option, sym, subst, arith}
use Rattle.std.proofs.lemmas.List.Elements.{Contains-append_left}
use Rattle.slicer_ids.specs.declared.ids.NodeId.{NodeId}
use Rattle.slicer_ids.specs.declared.ids.Statement.{Statement}
use Rattle.dep_form.specs.declared.facts.Facts.{Facts}
use Rattle.bit_rows.specs.Adds.{Taken}
use Rattle.tabulate.specs.declared.method.Method.{Method}
use Rattle.tabulate.specs.Found.{total}
use Rattle.tabulate.proofs.PairCount.{size_same, size_none}
use Rattle.widening.specs.declared.pairs.Pairs.{Pairs}
use Rattle.widening.specs.declared.state.State.{State}
use Rattle.widening.specs.Edges.{IsOpened}
use Rattle.widening.specs.Pairs.{Has, Waits}
use Rattle.widening.specs.Counts.{IsCount, IsSize, AreTurns, AreWithin, HasNoPairs}
use Rattle.widening.specs.States.{IsSliced, IsCopyOf}
use Rattle.widening.specs.Widened.{AreTurned, AreAtMost, AreFirstTurns, AreAtMostFirst}
use Rattle.widening.proofs.CountLaws.{count_is_size}
use Rattle.widening.proofs.CopyLaws.{got_on, got_back, todo_back}
use Rattle.widening.proofs.EndLaws.{asked_for}
use Rattle.widening.proofs.SizeLaws.{count_there, one_size, size_grows}

module _ (f : Facts) (seeds : List NodeId) (ms : List (Option Method)) (s : State) (t : IsSliced f seeds ms s) where
  -- nothing waits
  pub idle_of : (q : ℕ × ℕ) → Waits f s.pairs q → ⊥
  idle_of q w =
      let n : NodeId = record { 0 = q.0 } in
      let k = t.pairs.pairs.queue.queued q.0 w.0 (t.pairs.pairs.found.waiting q w) in
      let none : Contains [] n = subst (λ (xs : List NodeId). Contains xs n) t.pairs.idle k in
      omega (arith, none.1)

  -- all path edges of the exits that the slice needs were taken up
  pub size_of : (n : ℕ) → IsCount f s.pairs n → IsSize f (IsOpened s.expansions) seeds n
  size_of n c = count_is_size f s.expansions seeds ms s.pairs t.pairs.pairs t.needed t.pairs idle_of (λ d h. asked_for f seeds ms s t d h.0 h.1 h.2) n c

  pub count_of : IsCount f s.pairs (total s.pairs.found.items)
  count_of = count_there f s.pairs t.pairs.pairs.found idle_of

  -- none were taken yet
  pub at_most_none : (more : List Statement) (steps : ℕ) → AreAtMost f seeds s.expansions.accesses.items (s.expansions.accesses.items ++ more) steps steps
  at_most_none more steps n m a b = omega (arith, size_grows f seeds (Contains s.expansions.accesses.items) (Contains (s.expansions.accesses.items ++ more)) (λ z h. Contains-append_left s.expansions.accesses.items more z h) n m a b)

module _ (f : Facts) (seeds : List NodeId) (ms : List (Option Method)) (s c : State) (t : IsSliced f seeds ms s) (copy : IsCopyOf s c) where
  pub count_copy : (n : ℕ) → IsCount f s.pairs n → IsCount f c.pairs n
  count_copy n k = size_same (Taken (Has f s.pairs) (Waits f s.pairs)) (Taken (Has f c.pairs) (Waits f c.pairs)) n
      (λ q h. (got_on f s.pairs.found.items c.pairs.found.items copy.found q h.0, λ w. h.1 (todo_back f s.pairs.found.items c.pairs.found.items copy.found q w)))
      (λ q h. (got_back f s.pairs.found.items c.pairs.found.items copy.found q h.0, λ w. idle_of f seeds ms s t q w)) k

  pub turned : (ms1 : List (Option Method)) (next : State) (after : List Statement) (steps steps' : ℕ) → IsSliced f seeds ms1 next → next.expansions.accesses.items ≡ after → AreTurns f c.pairs next.pairs steps steps' → AreTurned f seeds s.expansions.accesses.items after steps steps'
  turned ms1 next after steps steps' t1 is turns =
      let n = total s.pairs.found.items in
      let m = turns n (count_copy n (count_of f seeds ms s t)) in
      (n, m.0, size_of f seeds ms s t n (count_of f seeds ms s t), subst (λ (xs : List Statement). IsSize f (Contains xs) seeds m.0) is (size_of f seeds ms1 next t1 m.0 m.1), m.2)

  -- .. or at most so many, where it was given up
  pub at_most : (after : List Statement) (steps steps' : ℕ) → AreWithin f (Contains after) seeds c.pairs steps steps' → AreAtMost f seeds s.expansions.accesses.items after steps steps'
  at_most after steps steps' within n m a b =
      let k = total s.pairs.found.items in
      let same = one_size f seeds (Contains s.expansions.accesses.items) n k a (size_of f seeds ms s t k (count_of f seeds ms s t)) in
      omega (arith, same, within k m (count_copy k (count_of f seeds ms s t)) b)

-- the first turns
module _ (f : Facts) (seeds : List NodeId) (p : Pairs) (none : HasNoPairs f p) (steps steps' : ℕ) where
  count_none : IsCount f p 0
  count_none = size_none (Taken (Has f p) (Waits f p)) (λ q h. none q h.0)

  pub first_turns : (ms : List (Option Method)) (s : State) → IsSliced f seeds ms s → s.expansions.accesses.items ≡ [] → AreTurns f p s.pairs steps steps' → AreFirstTurns f seeds steps steps'
  first_turns ms s t is turns =
      let m = turns 0 count_none in
      (m.0, subst (λ (xs : List Statement). IsSize f (Contains xs) seeds m.0) is (size_of f seeds ms s t m.0 m.1), omega (arith, m.2))

  pub first_at_most : (xs : List Statement) → xs ≡ [] → AreWithin f (Contains xs) seeds p steps steps' → AreAtMostFirst f seeds steps steps'
  first_at_most xs is within m size = omega (arith, within 0 m count_none (subst (λ (ys : List Statement). IsSize f (Contains ys) seeds m) (sym is) size))

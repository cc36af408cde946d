-- What becomes of the slice that a session keeps.
use Rattle.std.proofs.Common.{◌≡◌, ◌↔◌, ℕ, List, [], Contains, Option, Some, None, Result, Ok, Err, refl, sym, ap, subst}
use Rattle.std.specs.Prelude.{IfSome, IfOk, OnOk, OnErr}
use Rattle.slicer_ids.specs.declared.ids.NoMemory.{NoMemory}
use Rattle.slicer_ids.specs.declared.ids.Statement.{Statement}
use Rattle.dep_form.specs.declared.facts.Facts.{Facts}
use Rattle.dep_form.specs.Slices.{NodesOf}
use Rattle.session_form.specs.States.{State, SeedNodes}
use Rattle.widening.specs.Widened.{seeds_of}
use Rattle.sessions.specs.declared.widened.Widened.{Widened}
use Rattle.sessions.specs.Turns.{TakesTurns}
use Rattle.sessions.specs.Widened.{IsWidened, IsWidenedOf, IsOfState, IsKeptOf, accesses_in, AreAllIn, KeepsSlice}
use Rattle.sessions.proofs.Widening.{itself, turns_to, turns_both, begun_is, kept_on}

abbrev pub found : Widened → Result Widened NoMemory
found w = Ok w

abbrev pub given_up : NoMemory → Result Widened NoMemory
given_up e = Err e

abbrev item : Widened → Result Widened NoMemory → Widened
item d (Ok w) = w
item d (Err e) = d

pub one_found : (w v : Widened) → found w ≡ found v → w ≡ v
one_found w v e = ap (item w) e

pub not_found : (w : Widened) (e : NoMemory) → given_up e ≡ found w → ⊥
not_found w e h = absurd (cc h)

some_list : (xs ys : List Statement) → ◌≡◌ {A = Option (List Statement)} (Some xs) (Some ys) → xs ≡ ys
some_list xs ys e = cc e

none_is_some : (xs : List Statement) → ◌≡◌ {A = Option (List Statement)} None (Some xs) → ⊥
none_is_some xs e = absurd (cc e)

-- a slice that was begun is one of the state
pub begun_ok : (f : Facts) (st : State) (ss : List Statement) (r : Result Widened NoMemory) → ss ≡ st.seeds → IfOk r (IsWidenedOf f (NodesOf f.inputs (Contains ss))) → IfOk r (λ w. w.accesses.items ≡ []) → IfOk r (λ w. IsKeptOf f st (Some w))
begun_ok f st ss (Ok w) e is nil = begun_is f st w (subst (λ (xs : List Statement). IsWidenedOf f (NodesOf f.inputs (Contains xs)) w) e is) nil
begun_ok f st ss (Err x) e is nil = tt

-- where beginning was given up, nothing was kept
pub keeps_none : (kept kept' : Option Widened) (e : NoMemory) (n m : ℕ) → IfSome kept (λ w. (given_up e ≡ found w) × (m ≡ n)) → KeepsSlice kept kept'
keeps_none None kept' e n m h before is = absurd (none_is_some before is)
keeps_none (Some w) kept' e n m h before is = absurd (not_found w e h.0)

module _ (f : Facts) (st : State) (w v : Widened) (r : Result (Unit {0}) NoMemory) (is : IsOfState f st w) (all : OnOk r ((s : Statement) → Contains v.accesses.items s ↔ Contains st.expanded s))
    (same : OnErr r (v.accesses.items ≡ w.accesses.items)) where
  within : (q : Result (Unit {0}) NoMemory) → OnOk q ((s : Statement) → Contains v.accesses.items s ↔ Contains st.expanded s) → OnErr q (v.accesses.items ≡ w.accesses.items)
      → (s : Statement) → Contains v.accesses.items s → Contains st.expanded s
  within (Ok u) a e s c = (a s).0 c
  within (Err x) a e s c = is.within s (subst (λ (xs : List Statement). Contains xs s) e c)

  more : (q : Result (Unit {0}) NoMemory) → OnOk q ((s : Statement) → Contains v.accesses.items s ↔ Contains st.expanded s) → OnErr q (v.accesses.items ≡ w.accesses.items)
      → (s : Statement) → Contains w.accesses.items s → Contains v.accesses.items s
  more (Ok u) a e s c = (a s).1 (is.within s c)
  more (Err x) a e s c = subst (λ (xs : List Statement). Contains xs s) (sym e) c

  -- it is one of the state after it was widened, or wasn't
  pub kept_after : IsWidened f v → seeds_of v.wide ≡ seeds_of w.wide → IsOfState f st v
  kept_after widened seeds = kept_on f st w v is widened seeds (within r all same)

  -- what was kept is in it
  pub keeps_widened : (kept : Option Widened) (n m : ℕ) → IfSome kept (λ o. (found w ≡ found o) × (m ≡ n)) → KeepsSlice kept (Some v)
  keeps_widened None n m h before e = absurd (none_is_some before e)
  keeps_widened (Some o) n m h before e = (v.accesses.items, refl, λ s c. more r all same s (subst (λ (x : Widened). Contains x.accesses.items s) (sym (one_found w o h.0)) (subst (λ (xs : List Statement). Contains xs s) (sym (some_list o.accesses.items before e)) c)))

  -- the turns of both steps
  pub turns_after : (kept : Option Widened) (a b c : ℕ) → IfSome kept (λ o. (found w ≡ found o) × (b ≡ a)) → (kept ≡ None → w.accesses.items ≡ []) → (kept ≡ None → TakesTurns f (Contains []) (SeedNodes f st) None a b)
      → OnOk r (TakesTurns f (Contains st.expanded) (Contains (seeds_of w.wide)) (Some w.accesses.items) b c) → OnOk r (TakesTurns f (Contains st.expanded) (SeedNodes f st) (accesses_in kept) a c)
  turns_after kept a b c one nil first then = by_result r then
    where
      joined : (k : Option Widened) → IfSome k (λ o. (found w ≡ found o) × (b ≡ a)) → (k ≡ None → w.accesses.items ≡ []) → (k ≡ None → TakesTurns f (Contains []) (SeedNodes f st) None a b)
          → TakesTurns f (Contains st.expanded) (SeedNodes f st) (Some w.accesses.items) b c → TakesTurns f (Contains st.expanded) (SeedNodes f st) (accesses_in k) a c
      joined None o n t h = turns_both f (Contains st.expanded) (SeedNodes f st) w.accesses.items a b c (n refl) (t refl) h
      joined (Some x) o n t h =
          subst (λ (i : ℕ). TakesTurns f (Contains st.expanded) (SeedNodes f st) (Some x.accesses.items) i c) o.1
          (subst (λ (y : Widened). TakesTurns f (Contains st.expanded) (SeedNodes f st) (Some y.accesses.items) b c) (one_found w x o.0) h)

      by_result : (q : Result (Unit {0}) NoMemory) → OnOk q (TakesTurns f (Contains st.expanded) (Contains (seeds_of w.wide)) (Some w.accesses.items) b c) → OnOk q (TakesTurns f (Contains st.expanded) (SeedNodes f st) (accesses_in kept) a c)
      by_result (Ok u) h = joined kept one nil first (turns_to f (Contains st.expanded) (Contains st.expanded) (itself (Contains st.expanded)) (Contains (seeds_of w.wide)) (SeedNodes f st) is.of_seeds.seeds (Some w.accesses.items) b c h)
      by_result (Err x) h = tt

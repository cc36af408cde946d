-- Slices of the same nodes with the same accesses expanded: their statements, their sizes and their turns.
use Rattle.std.proofs.Common.{◌≡◌, ◌⊎◌, ◌↔◌, ◌+◌, ◌∙◌, ℕ, List, [], ◌∷◌, ◌++◌, Contains, AllPairs, Option, Some, None, inl, inr, refl, sym, ap, subst, arith}
use Rattle.std.specs.Prelude.{IfSome}
use Rattle.std.proofs.lemmas.List.Elements.{Contains-append_left, Contains-append_right, Contains-append_cases}
use Rattle.slicer_ids.specs.declared.ids.NodeId.{NodeId}
use Rattle.slicer_ids.specs.declared.ids.ExitId.{ExitId}
use Rattle.slicer_ids.specs.declared.ids.Statement.{Statement}
use Rattle.slicer_ids.specs.Order.{StatementBefore}
use Rattle.slicer_ids.specs.Sets.{IsOrderedListOf}
use Rattle.slicer_ids.proofs.GrowingOrder.{reworded}
use Rattle.dep_form.specs.declared.facts.Facts.{Facts}
use Rattle.dep_form.specs.declared.node.Edge.{Edge}
use Rattle.dep_form.specs.Summaries.{HasSize, PathEdges, Needed}
use Rattle.dep_form.specs.Slices.{Expanded, Slice, StatementsOf, NodesOf}
use Rattle.dep_form.proofs.Monotone.{path-wider, slice-wider}
use Rattle.dep_form.proofs.Sizes.{one_length}
use Rattle.tabulate.specs.Found.{total}
use Rattle.tabulate.proofs.PairCount.{size_same}
use Rattle.widening.specs.declared.wide.Wide.{Wide}
use Rattle.widening.specs.Widened.{IsWide, seeds_of, expansions_of, AreTurned}
use Rattle.widening.proofs.TurnLaws.{size_of, count_of}
use Rattle.session_form.specs.States.{State, SeedNodes, InSlice}
use Rattle.sessions.specs.declared.widened.Widened.{Widened}
use Rattle.sessions.specs.Turns.{IsSizeOf, TakesTurns}
use Rattle.sessions.specs.Widened.{IsWidened, IsWidenedOf, IsOfState, IsKeptOf, accesses_of, accesses_in, AreAllIn, KeepsSlice}
use Rattle.sessions.proofs.Listing.{nothing, IsFilled}

pub itself : {A : Type 0} (P : A → Type 0) → (x : A) → P x ↔ P x
itself P x = (λ h. h, λ h. h)

pub turned_round : {A : Type 0} (P Q : A → Type 0) → ((x : A) → P x ↔ Q x) → (x : A) → Q x ↔ P x
turned_round P Q same x = ((same x).1, (same x).0)

pub then_same : {A : Type 0} (P Q R : A → Type 0) → ((x : A) → P x ↔ Q x) → ((x : A) → Q x ↔ R x) → (x : A) → P x ↔ R x
then_same P Q R p q x = (λ h. (q x).0 ((p x).0 h), λ h. (p x).1 ((q x).1 h))

pub as_list : {A : Type 0} (xs ys : List A) → xs ≡ ys → (x : A) → Contains xs x ↔ Contains ys x
as_list {A} xs ys e x = (λ h. subst (λ (zs : List A). Contains zs x) e h, λ h. subst (λ (zs : List A). Contains zs x) (sym e) h)

-- ---- more accesses, more nodes
module _ (f : Facts) (X Y : Statement → Type 0) (up : (s : Statement) → X s → Y s) (S T : NodeId → Type 0) (on : (n : NodeId) → S n → T n) where
  edges : (e : Edge) → Expanded f.inputs X e → Expanded f.inputs Y e
  edges e h = (h.0, λ b. let k = h.1 b in (k.0, up k.0 k.1, k.2))

  pub slice_more : (n : NodeId) → Slice f.inputs X S n → Slice f.inputs Y T n
  slice_more n h = slice-wider (Expanded f.inputs X) (Expanded f.inputs Y) edges S T on n h

  pub pair_more : (p : NodeId × ExitId) → PathEdges f X (Needed f X S) p → PathEdges f Y (Needed f Y T) p
  pair_more p h = ((h.0.0, h.0.1, slice_more h.0.0 h.0.2), h.1, h.2, (h.3.0, path-wider (Expanded f.inputs X) (Expanded f.inputs Y) edges h.3.0 p.0 h.1 h.3.1, h.3.2))

-- ---- the same
module _ (f : Facts) (X Y : Statement → Type 0) (same : (s : Statement) → X s ↔ Y s) (S T : NodeId → Type 0) (seeds : (n : NodeId) → S n ↔ T n) where
  pub size_to : (n : ℕ) → IsSizeOf f X S n → IsSizeOf f Y T n
  size_to n h = size_same (PathEdges f X (Needed f X S)) (PathEdges f Y (Needed f Y T)) n
      (pair_more f X Y (λ s. (same s).0) S T (λ m. (seeds m).0)) (pair_more f Y X (λ s. (same s).1) T S (λ m. (seeds m).1)) h

  pub slice_to : (n : NodeId) → Slice f.inputs X S n ↔ Slice f.inputs Y T n
  slice_to n = (slice_more f X Y (λ s. (same s).0) S T (λ m. (seeds m).0) n, slice_more f Y X (λ s. (same s).1) T S (λ m. (seeds m).1) n)

  pub statements_to : (ss : List Statement) → IsOrderedListOf StatementBefore ss (StatementsOf f.inputs (Slice f.inputs X S)) → IsOrderedListOf StatementBefore ss (StatementsOf f.inputs (Slice f.inputs Y T))
  statements_to ss h = reworded StatementBefore ss (StatementsOf f.inputs (Slice f.inputs X S)) (StatementsOf f.inputs (Slice f.inputs Y T)) (λ s x. (x.0, (slice_to x.0).0 x.1, x.2)) (λ s x. (x.0, (slice_to x.0).1 x.1, x.2)) h

pub turns_to : (f : Facts) (X Y : Statement → Type 0) → ((s : Statement) → X s ↔ Y s) → (S T : NodeId → Type 0) → ((n : NodeId) → S n ↔ T n) → (o : Option (List Statement)) (a b : ℕ)
    → TakesTurns f X S o a b → TakesTurns f Y T o a b
turns_to f X Y same S T seeds None a b h = (h.0, size_to f X Y same S T seeds h.0 h.1, h.2)
turns_to f X Y same S T seeds (Some before) a b h =
    (h.0, h.1, size_to f (Contains before) (Contains before) (itself (Contains before)) S T seeds h.0 h.2, size_to f X Y same S T seeds h.1 h.3, h.4)

pub one_size : (f : Facts) (X : Statement → Type 0) (S : NodeId → Type 0) (n m : ℕ) → IsSizeOf f X S n → IsSizeOf f X S m → n ≡ m
one_size f X S n m a b = a.2 ∙ one_length (PathEdges f X (Needed f X S)) a.0 b.0 a.1 b.1 ∙ sym b.2

size_there : (f : Facts) (w : Wide) → IsWide f w → (n : ℕ) × IsSizeOf f (Contains (expansions_of w)) (Contains (seeds_of w)) n
size_there f w t =
    (total w.state.pairs.found.items, size_of f (seeds_of w) w.methods.items w.state t (total w.state.pairs.found.items) (count_of f (seeds_of w) w.methods.items w.state t))

-- a slice that was begun, and then widened
pub turns_both : (f : Facts) (X : Statement → Type 0) (S : NodeId → Type 0) (before : List Statement) (a b c : ℕ) → before ≡ [] → TakesTurns f (Contains []) S None a b
    → TakesTurns f X S (Some before) b c → TakesTurns f X S None a c
turns_both f X S before a b c nil h k =
    let same : k.0 ≡ h.0 = one_size f (Contains []) S k.0 h.0 (subst (λ (ys : List Statement). IsSizeOf f (Contains ys) S k.0) nil k.2) h.1 in
    (k.1, k.3, omega (arith, same, h.2, k.4))

-- ---- what is kept after more accesses were expanded
module _ (f : Facts) (w : Widened) (t : IsWidened f w) where
  -- the same slice, where what it lists is the same
  pub widened_on : (v : Wide) → IsWide f v → expansions_of v ≡ expansions_of w.wide → IsWidened f (record w { wide = v })
  widened_on v is e = record { wide = is; order = t.order; accesses = then_same (Contains w.accesses.items) (Contains (expansions_of w.wide)) (Contains (expansions_of v)) t.accesses (as_list (expansions_of w.wide) (expansions_of v) (sym e)) }

  module _ (more all : List Statement) (is : (s : Statement) → (Contains w.accesses.items s ⊎ Contains more s) ↔ Contains all s) where
    pub all_listed : (xs : List Statement) → xs ≡ expansions_of w.wide ++ more → (s : Statement) → Contains all s ↔ Contains xs s
    all_listed xs e s = (
      λ h. subst (λ (ys : List Statement). Contains ys s) (sym e) (elim ((is s).1 h) [
        | inl a ↦ Contains-append_left (expansions_of w.wide) more s ((t.accesses s).0 a)
        | inr b ↦ Contains-append_right (expansions_of w.wide) more s b
      ]),
      λ h. (is s).0 (elim (Contains-append_cases (expansions_of w.wide) more s (subst (λ (ys : List Statement). Contains ys s) e h)) [
        | inl a ↦ inl ((t.accesses s).1 a)
        | inr b ↦ inr b
      ]),
    )

    pub turns_by : (a b : ℕ) → AreTurned f (seeds_of w.wide) (expansions_of w.wide) (expansions_of w.wide ++ more) a b → TakesTurns f (Contains all) (Contains (seeds_of w.wide)) (Some w.accesses.items) a b
    turns_by a b h = (
      h.0,
      h.1,
      size_to f (Contains (expansions_of w.wide)) (Contains w.accesses.items) (turned_round (Contains w.accesses.items) (Contains (expansions_of w.wide)) t.accesses) (Contains (seeds_of w.wide)) (Contains (seeds_of w.wide)) (itself (Contains (seeds_of w.wide))) h.0 h.2,
      size_to f (Contains (expansions_of w.wide ++ more)) (Contains all) (turned_round (Contains all) (Contains (expansions_of w.wide ++ more)) (all_listed (expansions_of w.wide ++ more) refl)) (Contains (seeds_of w.wide)) (Contains (seeds_of w.wide)) (itself (Contains (seeds_of w.wide))) h.1 h.3,
      h.4,
    )

  -- no access was missing
  pub none_missing : (more all : List Statement) → more ≡ [] → IsFilled w.accesses.items more all → ((s : Statement) → Contains w.accesses.items s → Contains all s) → (s : Statement) → Contains w.accesses.items s ↔ Contains all s
  none_missing more all nil is within s = (within s, λ h. elim ((is s).1 (inr h)) [ inl a ↦ a | inr b ↦ absurd (nothing more s nil b) ])

  pub no_turns : (all : List Statement) (a : ℕ) → ((s : Statement) → Contains w.accesses.items s ↔ Contains all s) → TakesTurns f (Contains all) (Contains (seeds_of w.wide)) (Some w.accesses.items) a a
  no_turns all a same =
      let n = size_there f w.wide t.wide in
      let had = size_to f (Contains (expansions_of w.wide)) (Contains w.accesses.items) (turned_round (Contains w.accesses.items) (Contains (expansions_of w.wide)) t.accesses) (Contains (seeds_of w.wide)) (Contains (seeds_of w.wide)) (itself (Contains (seeds_of w.wide))) n.0 n.1 in
      (n.0, n.0, had, size_to f (Contains w.accesses.items) (Contains all) same (Contains (seeds_of w.wide)) (Contains (seeds_of w.wide)) (itself (Contains (seeds_of w.wide))) n.0 had, refl)

  -- the statements of the slice, by the accesses that are listed
  pub statements_listed : (ss : List Statement) → IsOrderedListOf StatementBefore ss (StatementsOf f.inputs (Slice f.inputs (Contains (expansions_of w.wide)) (Contains (seeds_of w.wide))))
      → IsOrderedListOf StatementBefore ss (StatementsOf f.inputs (Slice f.inputs (Contains w.accesses.items) (Contains (seeds_of w.wide))))
  statements_listed ss h = statements_to f (Contains (expansions_of w.wide)) (Contains w.accesses.items) (turned_round (Contains w.accesses.items) (Contains (expansions_of w.wide)) t.accesses) (Contains (seeds_of w.wide)) (Contains (seeds_of w.wide)) (itself (Contains (seeds_of w.wide))) ss h

-- the missing ones, and all
pub filled_all : (had more all : List Statement) → IsFilled had more all → ((s : Statement) → Contains had s → Contains all s) → (s : Statement) → (Contains had s ⊎ Contains more s) ↔ Contains all s
filled_all had more all is within s = (λ h. elim ((is s).0 h) [ inl a ↦ within s a | inr b ↦ b ], λ h. (is s).1 (inr h))

-- with no access expanded
pub none_expanded : (xs ys : List Statement) → xs ≡ [] → ys ≡ [] → (s : Statement) → Contains xs s ↔ Contains ys s
none_expanded xs ys p q s = (λ h. absurd (nothing xs s p h), λ h. absurd (nothing ys s q h))

pub no_order : (xs : List Statement) → xs ≡ [] → AllPairs StatementBefore xs
no_order xs nil = subst (AllPairs StatementBefore) (sym nil) (λ i j d lt within. absurd (omega (arith, within)))

-- ---- what a session keeps
module _ (f : Facts) (st : State) where
  -- a slice that was begun is one of the state
  pub begun_is : (w : Widened) → IsWidenedOf f (SeedNodes f st) w → w.accesses.items ≡ [] → IsOfState f st w
  begun_is w h nil = record { of_seeds = h; within = λ s c. absurd (nothing w.accesses.items s nil c) }

  -- .. and with all accesses
  pub kept_on : (w v : Widened) → IsOfState f st w → IsWidened f v → seeds_of v.wide ≡ seeds_of w.wide → ((s : Statement) → Contains v.accesses.items s → Contains st.expanded s) → IsOfState f st v
  kept_on w v h is e within = record {
    of_seeds = record { widened = is; seeds = then_same (Contains (seeds_of v.wide)) (Contains (seeds_of w.wide)) (SeedNodes f st) (as_list (seeds_of v.wide) (seeds_of w.wide) e) h.of_seeds.seeds };
    within = within;
  }

  pub statements_in_kept : (w : Widened) (ss : List Statement) → IsOfState f st w → ((s : Statement) → Contains w.accesses.items s ↔ Contains st.expanded s)
      → IsOrderedListOf StatementBefore ss (StatementsOf f.inputs (Slice f.inputs (Contains w.accesses.items) (Contains (seeds_of w.wide)))) → IsOrderedListOf StatementBefore ss (InSlice f st)
  statements_in_kept w ss h same is = statements_to f (Contains w.accesses.items) (Contains st.expanded) same (Contains (seeds_of w.wide)) (SeedNodes f st) h.of_seeds.seeds ss is

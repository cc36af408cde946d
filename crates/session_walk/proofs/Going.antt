-- A walk that names what is missing, and goes on once that was fetched.
use Rattle.std.proofs.Common.{◌≡◌, ◌<◌, ℕ, Bool, true, false, Option, Some, Result, Ok, Err, List, length, refl, sym, ap, ◌∙◌, subst, inl, inr, true≢false, arith}
use Rattle.std.proofs.lemmas.Bool.{cases_Bool}
use Rattle.std.proofs.lemmas.Option.{slice_get_within}
use Rattle.slicer_ids.specs.declared.ids.MethodId.{MethodId}
use Rattle.slicer_ids.specs.declared.ids.ExitId.{ExitId}
use Rattle.slicer_ids.specs.declared.ids.NodeId.{NodeId}
use Rattle.slicer_ids.specs.declared.ids.Mode.{Mode}
use Rattle.dep_form.specs.declared.facts.Facts.{Facts}
use Rattle.dep_form.specs.Graphs.{HasInput}
use Rattle.graph_store.specs.declared.pass.GraphPass.{GraphPass}
use Rattle.graph_store.specs.Store.{HasInputsOf, Keeps}
use Rattle.summary_memo.specs.declared.view.View.{View}
use Rattle.summary_memo.specs.declared.memo.MemoSeat.{MemoSeat}
use Rattle.summary_memo.specs.Memo.{view_of}
use Rattle.summary_memo.specs.Rule.{Knows, KnowsShut}
use Rattle.thin_slice.specs.declared.needs.Go.{Go}
use Rattle.thin_slice.specs.declared.needs.Go.TheVariants.{Finished, NeedsGraph, NeedsRow}
use Rattle.thin_slice.specs.declared.needs.Phase.{Phase}
use Rattle.thin_slice.specs.declared.needs.Phase.TheVariants.{Up}
use Rattle.thin_slice.specs.declared.walk.Walk.{Walk}
use Rattle.thin_slice.specs.Needs.{is_need, IsServed}
use Rattle.thin_slice.specs.Walks.{AreServed, IsFetched, IsCause, IsAllFetched, ModeSlice, WhenFinished, IsFresh, IsTaken, nodes_of}
use Rattle.session_walk.specs.Knowledge.{Sees, KnowsRows, HasRows, IsNamed, IsNoRow}
use Rattle.session_walk.proofs.Given.{given_is_seen}
use Rattle.session_walk.specs.Missing.{has_graph, has_row, all_missing}
use Rattle.session_walk.proofs.Measures.{none_or, seen_has_graph, knows_has_row, has_row_knows, knows_kept, less_by_graph, less_by_row, no_more}

-- what was seen stays so
pub seen_kept : (f : Facts) (p q : GraphPass) (m : MethodId) → Keeps p q → Sees f p m → Sees f q m
seen_kept f p q m keeps (g, s) =
    (g, record { input = s.input; value = s.value; is_input = s.is_input; known = keeps.known m.0 s.value s.known; given = keeps.given m.0 g s.given; shared = s.shared; right = s.right })

pub keeps_all : (p q r : GraphPass) → Keeps p q → Keeps q r → Keeps p r
keeps_all p q r a b = record { known = λ m x k. b.known m x (a.known m x k); given = λ m g k. b.given m g (a.given m g k) }

pub keeps_self : (p : GraphPass) → Keeps p p
keeps_self p = record { known = λ m x k. k; given = λ m g k. k }

pub knows_all : (u v w : View) → Knows u v → Knows v w → Knows u w
knows_all u v w a b = record { about = b.about ∙ a.about; bits = λ x c. b.bits x (a.bits x c); gates = λ x c. b.gates x (a.gates x c) }

-- what is named has its place in the facts
pub is_named : (f : Facts) (mode : Mode) (seeds : List NodeId) (Seen : MethodId → Type 0) (Known : ExitId → Type 0) (go : Go) → IsCause f mode seeds Seen Known go → IsNamed f go
is_named f mode seeds Seen Known Finished c = tt
is_named f mode seeds Seen Known (NeedsGraph m) ((n, k, in_slice, node), missing) = (node.0, node.1)
is_named f mode seeds Seen Known (NeedsRow e) ((x, at, in_slice), missing) = slice_get_within f.exits e.0 x at

-- what is known of the rows of one value is known of those of an equal one
pub moved_rows : (f : Facts) (mode : Mode) (seeds : List NodeId) (p : GraphPass) (go : Go) (a b : Facts) (s t : MemoSeat) → a ≡ b → s ≡ t
    → WhenFinished go (IsAllFetched f mode seeds (Sees f p) (λ (e : ExitId). KnowsShut (view_of s) a e mode)) → WhenFinished go (IsAllFetched f mode seeds (Sees f p) (KnowsRows b mode (view_of t)))
moved_rows f mode seeds p go a b s t same seats =
    subst (λ (z : Facts × MemoSeat). WhenFinished go (IsAllFetched f mode seeds (Sees f p) (λ (e : ExitId). KnowsShut (view_of z.1) z.0 e mode))) (λ i. (same i, seats i))

module _ (f : Facts) (mode : Mode) (p q : GraphPass) (v w : View) (keeps : Keeps p q) (knows : Knows v w) where
  pub served_kept : (walk : Walk) → AreServed f (Sees f p) (KnowsRows f mode v) walk → AreServed f (Sees f q) (KnowsRows f mode w) walk
  served_kept walk served n taken =
      let s = served n taken in
      record { graph = λ m is. seen_kept f p q m keeps (s.graph m is); row = λ e is. knows_kept f mode v w e knows (s.row e is) }

  -- where all was there that the slice needs, nothing is named
  pub none_named : (seeds : List NodeId) (go : Go) → IsAllFetched f mode seeds (Sees f p) (KnowsRows f mode v) → IsCause f mode seeds (Sees f q) (KnowsRows f mode w) go → is_need go ≡ true → ⊥
  none_named seeds Finished all c need = true≢false (sym need)
  none_named seeds (NeedsGraph m) all c need = c.1 (seen_kept f p q m keeps (all.graphs m c.0))
  none_named seeds (NeedsRow e) all c need = c.1 (knows_kept f mode v w e knows (all.rows e c.0))

  -- what was named and fetched is missing no more
  pub less_after : (seeds : List NodeId) (go : Go) → HasInputsOf f p → IsCause f mode seeds (Sees f p) (KnowsRows f mode v) go → is_need go ≡ true
      → IsFetched (Sees f q) (KnowsRows f mode w) go → all_missing f mode q w < all_missing f mode p v
  less_after seeds Finished has c need there = absurd (true≢false (sym need))
  less_after seeds (NeedsGraph m) has c need there =
      let input : HasInput f.inputs m = is_named f mode seeds (Sees f p) (KnowsRows f mode v) (NeedsGraph m) c in
      elim (cases_Bool (has_graph p m.0)) [
        | inl on ↦ let g = none_or _ on in absurd (c.1 (given_is_seen f p m g.0 has input g.1))
        | inr off ↦ less_by_graph f mode p q v w keeps knows m.0 (slice_get_within f.inputs m.0 (Some input.0) input.1) off (seen_has_graph f q m there.0 there.1)
      ]
  less_after seeds (NeedsRow e) has c need there =
      let lt : e.0 < length f.exits = is_named f mode seeds (Sees f p) (KnowsRows f mode v) (NeedsRow e) c in
      elim (cases_Bool (has_row f mode v e.0)) [
        | inl on ↦ absurd (c.1 (has_row_knows f mode v e on))
        | inr off ↦ less_by_row f mode p q v w keeps knows e.0 lt off (knows_has_row f mode w e there)
      ]

-- .. nor more than before what is known grew
pub less_since : (f : Facts) (mode : Mode) (p q : GraphPass) (u v w : View) → Keeps p q → Knows u v → Knows v w → (seeds : List NodeId) (go : Go) → HasInputsOf f p
    → IsCause f mode seeds (Sees f p) (KnowsRows f mode v) go → is_need go ≡ true → IsFetched (Sees f q) (KnowsRows f mode w) go → all_missing f mode q w < all_missing f mode p u
less_since f mode p q u v w keeps grew knows seeds go has c need there =
    omega (arith, no_more f mode p p u v (keeps_self p) grew, less_after f mode p q v w keeps knows seeds go has c need there)

-- a walk that names nothing is finished
pub is_finished : (go : Go) (P : Type 0) → is_need go ≡ false → WhenFinished go P → P
is_finished Finished P off h = h
is_finished (NeedsGraph m) P off h = absurd (true≢false off)
is_finished (NeedsRow e) P off h = absurd (true≢false off)

-- at a start nothing was taken up, and nothing was named
pub fresh_served : (f : Facts) (Seen : MethodId → Type 0) (Known : ExitId → Type 0) (walk : Walk) → IsFresh walk → AreServed f Seen Known walk
fresh_served f Seen Known walk fresh n taken =
    let none : IsTaken Up walk.ups 0 (nodes_of walk) n = subst (λ (z : Phase × ℕ). IsTaken z.0 walk.ups z.1 (nodes_of walk) n) (λ i. (fresh.0 i, fresh.1 i)) taken in
    absurd (omega (arith, none.1))

pub fresh_last : (Seen : MethodId → Type 0) (Known : ExitId → Type 0) (walk : Walk) → IsFresh walk → IsFetched Seen Known walk.last
fresh_last Seen Known walk fresh = subst (λ (go : Go). IsFetched Seen Known go) (sym fresh.2) tt

-- what was all there stays so, for seeds that are the same
pub all_kept : (f : Facts) (mode : Mode) (p q : GraphPass) (v w : View) (seeds again : List NodeId) → Keeps p q → Knows v w → again ≡ seeds
    → IsAllFetched f mode seeds (Sees f p) (KnowsRows f mode v) → IsAllFetched f mode again (Sees f q) (KnowsRows f mode w)
all_kept f mode p q v w seeds again keeps knows same all =
    subst (λ s. IsAllFetched f mode s (Sees f q) (KnowsRows f mode w)) (sym same)
    (record { graphs = λ m at. seen_kept f p q m keeps (all.graphs m at); rows = λ e at. knows_kept f mode v w e knows (all.rows e at) })

-- .. and so do the rows that are known
pub rows_kept : (f : Facts) (mode : Mode) (P : NodeId → Type 0) (v w : View) → Knows v w → HasRows f mode P v → HasRows f mode P w
rows_kept f mode P v w knows has = λ e at. knows_kept f mode v w e knows (has e at)

pub rows_again : (f : Facts) (mode : Mode) (v w : View) (seeds again : List NodeId) → Knows v w → again ≡ seeds → HasRows f mode (ModeSlice f mode seeds) v → HasRows f mode (ModeSlice f mode again) w
rows_again f mode v w seeds again knows same has =
    subst (λ s. HasRows f mode (ModeSlice f mode s) w) (sym same) (rows_kept f mode (ModeSlice f mode seeds) v w knows has)

-- where each row is known that the slice needs, none is named
pub no_row_named : (f : Facts) (mode : Mode) (seeds : List NodeId) (Seen : MethodId → Type 0) (v w : View) (go : Go) → Knows v w → HasRows f mode (ModeSlice f mode seeds) v
    → IsCause f mode seeds Seen (KnowsRows f mode w) go → IsNoRow go
no_row_named f mode seeds Seen v w Finished knows has c = tt
no_row_named f mode seeds Seen v w (NeedsGraph m) knows has c = tt
no_row_named f mode seeds Seen v w (NeedsRow e) knows has c = absurd (c.1 (knows_kept f mode v w e knows (has e c.0)))

-- an error is no answer
pub not_both : {A E : Type 0} (e : E) (a : A) → ◌≡◌ {A = Result A E} (Err e) (Ok a) → ⊥
not_both e a same = absurd cc

-- What a walk keeps from call to call.
use Rattle.std.proofs.Common.{◌≡◌, ◌≤◌, ℕ, List, ◌++◌, length, take, Contains, false, ◌⊎◌, refl, sym, subst, inr}
use Rattle.std.proofs.lemmas.List.{take_all}
use Rattle.slicer_ids.specs.declared.ids.NodeId.{NodeId}
use Rattle.slicer_ids.specs.declared.ids.MethodId.{MethodId}
use Rattle.slicer_ids.specs.declared.ids.ExitId.{ExitId}
use Rattle.slicer_ids.specs.declared.ids.Mode.{Mode}
use Rattle.dep_form.specs.declared.facts.Facts.{Facts}
use Rattle.dep_form.specs.Slices.{ModeEdges}
use Rattle.thin_slice.specs.declared.marked.MarkedNodes.{MarkedNodes}
use Rattle.thin_slice.specs.declared.needs.Go.{Go}
use Rattle.thin_slice.specs.declared.needs.Go.TheVariants.{Finished, NeedsGraph, NeedsRow}
use Rattle.thin_slice.specs.declared.needs.Phase.{Phase}
use Rattle.thin_slice.specs.declared.needs.Phase.TheVariants.{Up, Down}
use Rattle.thin_slice.specs.declared.walk.Walk.{Walk}
use Rattle.thin_slice.specs.Marks.{AreNodesOf, found}
use Rattle.thin_slice.specs.Needs.{IsServed, is_need}
use Rattle.thin_slice.specs.Walks.{IsUp, IsDown, IsAt, IsTaken, IsStop, IsWalking, AreServed, IsCause, IsAllFetched, ModeSlice, WhenFinished, nodes_of, seeds_of}
use Rattle.thin_slice.proofs.Phasing.{is_slice, cause_of, all_fetched, on_from_down}
use Rattle.thin_slice.proofs.Starting.{seeds_stay, seeds_within}

pub at_up : (f : Facts) (mode : Mode) (w : Walk) → w.phase ≡ Up → IsWalking f mode w → IsUp (ModeEdges f.inputs mode) (seeds_of w) w.next (nodes_of w)
at_up f mode w up h = subst (λ p. IsAt (ModeEdges f.inputs mode) (seeds_of w) p w.ups w.next (nodes_of w)) up h.at

pub at_down : (f : Facts) (mode : Mode) (w : Walk) → w.phase ≡ Down → IsWalking f mode w → IsDown (ModeEdges f.inputs mode) (seeds_of w) w.ups w.next (nodes_of w)
at_down f mode w down h = subst (λ p. IsAt (ModeEdges f.inputs mode) (seeds_of w) p w.ups w.next (nodes_of w)) down h.at

pub served_up : (f : Facts) (Seen : MethodId → Type 0) (Known : ExitId → Type 0) (w : Walk) → w.phase ≡ Up → AreServed f Seen Known w → (n : NodeId) → Contains (take w.next (nodes_of w)) n → IsServed f Seen Known n
served_up f Seen Known w up h n c = h n (subst (λ p. IsTaken p w.ups w.next (nodes_of w) n) (sym up) c)

pub served_down : (f : Facts) (Seen : MethodId → Type 0) (Known : ExitId → Type 0) (w : Walk) → w.phase ≡ Down → AreServed f Seen Known w → (n : NodeId) → Contains (take w.ups (nodes_of w)) n ⊎ Contains (take w.next (nodes_of w)) n → IsServed f Seen Known n
served_down f Seen Known w down h n c = h n (subst (λ p. IsTaken p w.ups w.next (nodes_of w) n) (sym down) c)

pub when_finished : (P : Type 0) (go : Go) → (go ≡ Finished → P) → WhenFinished go P
when_finished P Finished h = h refl
when_finished P (NeedsGraph m) h = tt
when_finished P (NeedsRow e) h = tt

pub finished : (go : Go) → is_need go ≡ false → go ≡ Finished
finished Finished h = refl
finished (NeedsGraph m) h = absurd cc
finished (NeedsRow e) h = absurd cc

-- other nodes after those found, and another place in them
module _ (f : Facts) (mode : Mode) (w : Walk) (nodes : MarkedNodes) (next : ℕ) (h : IsWalking f mode w) (of : AreNodesOf f nodes) (front : (more : List NodeId) × (found nodes ≡ nodes_of w ++ more)) where
  pub same_seeds : take w.seeds (found nodes) ≡ seeds_of w
  same_seeds = seeds_stay w.seeds (nodes_of w) (found nodes) h.of.seeds front

  pub goes_up : w.phase ≡ Up → IsUp (ModeEdges f.inputs mode) (seeds_of w) next (found nodes) → IsWalking f mode (record w { nodes = nodes; next = next })
  goes_up up t =
      let E = ModeEdges f.inputs mode in
      let there = subst (λ s. IsUp E s next (found nodes)) (sym same_seeds) t in
      record {
        of = record { nodes = of; seeds = seeds_within w.seeds (nodes_of w) (found nodes) h.of.seeds front };
        at = subst (λ p. IsAt E (take w.seeds (found nodes)) p w.ups next (found nodes)) (sym up) there;
      }

  pub goes_down : (ups : ℕ) (phase : Phase) → phase ≡ Down → IsDown (ModeEdges f.inputs mode) (seeds_of w) ups next (found nodes) → IsWalking f mode (record w { nodes = nodes; phase = phase; ups = ups; next = next })
  goes_down ups phase down t =
      let E = ModeEdges f.inputs mode in
      let there = subst (λ s. IsDown E s ups next (found nodes)) (sym same_seeds) t in
      record {
        of = record { nodes = of; seeds = seeds_within w.seeds (nodes_of w) (found nodes) h.of.seeds front };
        at = subst (λ p. IsAt E (take w.seeds (found nodes)) p ups next (found nodes)) (sym down) there;
      }

-- where the second phase stops
module _ (f : Facts) (mode : Mode) (seeds : List NodeId) (Seen : MethodId → Type 0) (Known : ExitId → Type 0) (ups next : ℕ) (nodes : List NodeId) (go : Go)
    (t : IsDown (ModeEdges f.inputs mode) seeds ups next nodes) (stop : IsStop f Seen Known (ModeEdges f.inputs mode) go next nodes) where
  pub down_cause : IsCause f mode seeds Seen Known go
  down_cause = cause_of f mode seeds Seen Known nodes go next (λ n c. t.down.each n c) stop

  past : go ≡ Finished → length nodes ≤ next
  past e = subst (λ g. IsStop f Seen Known (ModeEdges f.inputs mode) g next nodes) e stop

  pub down_slice : WhenFinished go ((n : NodeId) → (Contains nodes n → ModeSlice f mode seeds n) × (ModeSlice f mode seeds n → Contains nodes n))
  down_slice = when_finished _ go (λ e n. is_slice (ModeEdges f.inputs mode) seeds ups next nodes t (past e) n)

  pub down_fetched : ((n : NodeId) → Contains (take ups nodes) n ⊎ Contains (take next nodes) n → IsServed f Seen Known n) → WhenFinished go (IsAllFetched f mode seeds Seen Known)
  down_fetched served = when_finished _ go (λ e. all_fetched f mode seeds Seen Known nodes (λ n s. (is_slice (ModeEdges f.inputs mode) seeds ups next nodes t (past e) n).1 s)
      (λ n c. served n (inr (subst (λ (xs : List NodeId). Contains xs n) (sym (take_all next nodes (past e))) c))))

-- where the first phase stops
pub up_cause : (f : Facts) (mode : Mode) (seeds : List NodeId) (Seen : MethodId → Type 0) (Known : ExitId → Type 0) (next : ℕ) (nodes : List NodeId) (go : Go)
    → IsUp (ModeEdges f.inputs mode) seeds next nodes → IsStop f Seen Known (ModeEdges f.inputs mode) go next nodes → IsCause f mode seeds Seen Known go
up_cause f mode seeds Seen Known next nodes go t stop = cause_of f mode seeds Seen Known nodes go next (λ n c. on_from_down (ModeEdges f.inputs mode) seeds n (t.up.each n c)) stop

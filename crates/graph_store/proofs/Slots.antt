-- One slot of a pass.
use Rattle.std.proofs.Common.{◌≡◌, ℕ, Option, Some, None, Bool, true, refl, sym, ap, ◌∙◌, subst, set, length, ◌<◌, ◌≢◌, List, [], ◌∷◌, zero, suc, length-set, get_or-set_same}
use mathlib.Core.Logic.{dite}
use native.Mathlib.Decide.{ℕ_discrete}
use Rattle.std.specs.Prelude.{IsTrue, IsFalse, ◌↔◌, slice_get, option_and_then}
use Rattle.std.proofs.lemmas.Option.{same_Some, none-some, slice_get_within, slice_get-get_or}
use Rattle.slicer_ids.specs.declared.ids.MethodId.{MethodId}
use Rattle.dep_form.specs.declared.facts.Facts.{Facts}
use Rattle.dep_form.specs.Inputs.{IsInputOf}
use Rattle.dep_form.specs.Graphs.{IsGraphOf}
use Rattle.dep_form.specs.declared.graph.Graph.{Graph}
use Rattle.dep_form.specs.declared.input.MethodInput.{MethodInput}
use Rattle.graph_store.specs.declared.published.Published.{Published}
use Rattle.graph_store.specs.declared.pass.Seen.{Seen}
use Rattle.graph_store.specs.declared.pass.Seen.TheVariants.{No, Shared, Own}
use Rattle.graph_store.specs.declared.pass.Slot.{Slot}
use Rattle.graph_store.specs.declared.pass.GraphPass.{GraphPass}
use Rattle.graph_store.specs.Pass.{graph_of, IsShared, FitsSeen, Fits}
use Rattle.graph_store.specs.Store.{gives, KnowsCell, HasSeen}
use Rattle.graph_store.proofs.Recovered.{recovered}

-- what it knows of the cell's value is that this has the input, where it gives that value's graph, and only there
module _ (i : MethodInput) (known : Option Published) where
  abbrev pub IsOfInput : Type 0
  IsOfInput = (x : Published) × (known ≡ Some x) × (x.input ≡ i)

  pub shared_told : (s : Seen) → (s ≡ No → ⊥) → FitsSeen i known s → IsShared s ↔ IsOfInput
  shared_told No other fits = absurd (other refl)
  shared_told (Shared r) other fits = ((λ _. (r.now, fits.0, fits.1)), (λ _. tt))
  shared_told (Own g) other fits = (
    (λ k. absurd k),
    (λ k. absurd (fits.2 (ap (λ (x : Published). x.input) (same_Some fits.0 k.0 (sym fits.1 ∙ k.1)) ∙ k.2))),
  )

-- whatever was seen has a graph
pub has_graph : (s : Seen) → (s ≡ No → ⊥) → (g : Graph) × (graph_of s ≡ Some g)
has_graph No other = absurd (other refl)
has_graph (Shared r) other = (r.now.graph, refl)
has_graph (Own g) other = (g, refl)

pub get_set : {X : Type 0} (xs : List X) (k : ℕ) (t u : X) → slice_get xs k ≡ Some t → slice_get (set xs k u) k ≡ Some u
get_set xs k t u at =
    let lt : k < length xs = slice_get_within xs k t at in
    slice_get-get_or (set xs k u) k u (subst (λ n. k < n) (sym (length-set xs k u)) lt) ∙ ap Some (get_or-set_same xs k u u lt)

-- a slot that gives a graph: what it knows of the cell, and what graph that is
seen_has : (i : MethodInput) (known : Option Published) (s : Seen) (g : Graph) → FitsSeen i known s → graph_of s ≡ Some g
    → (x : Published) × (known ≡ Some x) × (x.input ≡ i → g ≡ x.graph) × IsGraphOf i g
seen_has i known No g fits e = absurd (none-some g e)
seen_has i known (Shared r) g fits e =
    let same : r.now.graph ≡ g = same_Some r.now.graph g e in
    let is : IsGraphOf i r.now.graph = subst (λ (j : MethodInput). IsGraphOf j r.now.graph) fits.1 (recovered r.now.input r.now.graph r.now.built) in
    (r.now, fits.0, (λ _. sym same), subst (λ (h : Graph). IsGraphOf i h) same is)
seen_has i known (Own o) g fits e = (fits.0, fits.1, (λ same. absurd (fits.2 same)), subst (λ (h : Graph). IsGraphOf i h) (same_Some o g e) fits.3)

-- the pass gives what the slot of the method gives
pub given_at : (p : GraphPass) (m : ℕ) (t : Slot) → slice_get p.slots.items m ≡ Some t → gives p m ≡ graph_of t.seen
given_at p m t at = ap (option_and_then (λ (u : Slot). graph_of u.seen)) at

-- a slot that gives a graph, in its pass
pub has_seen : (f : Facts) (p : GraphPass) (m : MethodId) (i : MethodInput) (t : Slot) → IsInputOf f.inputs m i → slice_get p.slots.items m.0 ≡ Some t → Fits i t
    → ((g : Graph) × (graph_of t.seen ≡ Some g)) → (g : Graph) × HasSeen f p m g
has_seen f p m i t input at fits given =
    let g : Graph = given.0 in
    let h = seen_has i t.note.known t.seen g fits given.1 in
    (g, record { input = i; value = h.0; is_input = input; known = (t, at, h.1); given = given_at p m.0 t at ∙ given.1; shared = h.2; right = h.3 })

-- after the slot of a method was written
pub has_seen_at : (f : Facts) (p q : GraphPass) (m : MethodId) (i : MethodInput) (t u : Slot) → IsInputOf f.inputs m i → slice_get p.slots.items m.0 ≡ Some t
    → q.slots.items ≡ set p.slots.items m.0 u → Fits i u → ((g : Graph) × (graph_of u.seen ≡ Some g)) → (g : Graph) × HasSeen f q m g
has_seen_at f p q m i t u input at is fits given =
    has_seen f q m i u input (ap (λ xs. slice_get xs m.0) is ∙ get_set p.slots.items m.0 t u at) fits given

get_set_other : {X : Type 0} (xs : List X) (k n : ℕ) (u : X) → n ≢ k → slice_get (set xs k u) n ≡ slice_get xs n
get_set_other [] k n u ne = refl
get_set_other (x ∷ xs) zero zero u ne = absurd (ne refl)
get_set_other (x ∷ xs) zero (suc n) u ne = refl
get_set_other (x ∷ xs) (suc k) zero u ne = refl
get_set_other (x ∷ xs) (suc k) (suc n) u ne = get_set_other xs k n u (λ e. ne (ap suc e))

-- a slot that gives what the one in its place gave
pub gives_same : (p q : GraphPass) (m : ℕ) (t u : Slot) → slice_get p.slots.items m ≡ Some t → q.slots.items ≡ set p.slots.items m u → graph_of u.seen ≡ graph_of t.seen
    → (n : ℕ) → gives q n ≡ gives p n
gives_same p q m t u at is same n =
    dite (ℕ_discrete n m)
    (λ (here : n ≡ m). subst (λ (k : ℕ). gives q k ≡ gives p k) (sym here) (given_at q m u (ap (λ xs. slice_get xs m) is ∙ get_set p.slots.items m t u at) ∙ same ∙ sym (given_at p m t at)))
    (λ (other : n ≢ m). ap (option_and_then (λ (s : Slot). graph_of s.seen)) (ap (λ xs. slice_get xs n) is ∙ get_set_other p.slots.items m n u other))

-- what the slot of a method knows of the cell, the pass knows of it
pub knows_at : (p : GraphPass) (m : ℕ) (t : Slot) (x : Published) → slice_get p.slots.items m ≡ Some t → KnowsCell p m x → t.note.known ≡ Some x
knows_at p m t x at k = subst (λ (s : Slot). s.note.known ≡ Some x) (same_Some k.0 t (sym k.1 ∙ at)) k.2

-- a method has one input
pub one_input : (f : Facts) (m : MethodId) (i j : MethodInput) → IsInputOf f.inputs m i → IsInputOf f.inputs m j → i ≡ j
one_input f m i j a b = same_Some i j (same_Some (Some i) (Some j) (sym a ∙ b))

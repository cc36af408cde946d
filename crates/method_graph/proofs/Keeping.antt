-- Graphs in a list, where there are some.
use Rattle.std.proofs.Common.{◌≡◌, ◌≢◌, ◌<◌, ℕ, List, [], ◌∷◌, ◌++◌, true, false, Option, Some, None, length, length-append, get_or, set, get_or-set_same, get_or-set_other, length-set, inl, inr, refl, sym, ap, subst, ◌∙◌, arith}
use Rattle.std.specs.Prelude.{slice_get, option_and_then}
use Rattle.std.proofs.lemmas.Bool.{cases_eq, cases_lt}
use Rattle.std.specs.Option.{is_some}
use Rattle.std.proofs.lemmas.List.{get_or_push, get_or_default}
use Rattle.std.proofs.Math.ListN.{get_or-append}
use Rattle.std.proofs.lemmas.Option.{slice_get_within, slice_get-get_or, get_or_from_slice_get}
use Rattle.slicer_ids.specs.declared.ids.MethodId.{MethodId}
use Rattle.dep_form.specs.declared.graph.Graph.{Graph}
use Rattle.dep_form.specs.declared.input.MethodInput.{MethodInput}
use Rattle.dep_form.specs.Graphs.{IsGraphIn, HasInput}
use Rattle.method_graph.specs.Own.{graph_at}

-- a place that holds a graph
pub held : (gs : List (Option Graph)) (k : ℕ) (g : Graph) → slice_get gs k ≡ Some (Some g) → graph_at gs k ≡ Some g
held gs k g e = ap (λ (o : Option (Option Graph)). option_and_then (λ h. h) o) e

is_held : (o : Option (Option Graph)) (g : Graph) → option_and_then (λ h. h) o ≡ Some g → o ≡ Some (Some g)
is_held None g e = absurd cc
is_held (Some None) g e = absurd cc
is_held (Some (Some h)) g e = ap (λ (x : Option Graph). Some x) e

pub holds : (gs : List (Option Graph)) (k : ℕ) (g : Graph) → graph_at gs k ≡ Some g → slice_get gs k ≡ Some (Some g)
holds gs k g e = is_held (slice_get gs k) g e

at_set : (gs : List (Option Graph)) (k : ℕ) (o : Option Graph) → k < length gs → slice_get (set gs k o) k ≡ Some o
at_set gs k o lt = slice_get-get_or (set gs k o) k o (omega (arith, lt, length-set gs k o)) ∙ ap (λ (x : Option Graph). Some x) (get_or-set_same gs k o o lt)

beside_set : (gs : List (Option Graph)) (k j : ℕ) (o : Option Graph) (g : Graph) → j ≢ k → slice_get gs j ≡ Some (Some g) → slice_get (set gs k o) j ≡ Some (Some g)
beside_set gs k j o g ne e =
    let lt = slice_get_within gs j (Some g) e in
    slice_get-get_or (set gs k o) j (Some g) (omega (arith, lt, length-set gs k o)) ∙ ap (λ (x : Option Graph). Some x) (get_or-set_other gs k j o (Some g) ne ∙ get_or_from_slice_get gs j (Some g) (Some g) e)

from_set : (gs : List (Option Graph)) (k j : ℕ) (o : Option Graph) (g : Graph) → j ≢ k → slice_get (set gs k o) j ≡ Some (Some g) → slice_get gs j ≡ Some (Some g)
from_set gs k j o g ne e =
    let lt = slice_get_within (set gs k o) j (Some g) e in
    slice_get-get_or gs j (Some g) (omega (arith, lt, length-set gs k o)) ∙ ap (λ (x : Option Graph). Some x) (sym (get_or-set_other gs k j o (Some g) ne) ∙ get_or_from_slice_get (set gs k o) j (Some g) (Some g) e)

abbrev value_or : {X : Type 0} → X → Option X → X
value_or y None = y
value_or y (Some z) = z

some_one : {X : Type 0} (x y : X) → Some x ≡ Some y → x ≡ y
some_one x y e = ap (value_or x) e

-- one graph more
pub set_right : (inputs : List (Option MethodInput)) (gs : List (Option Graph)) (m : MethodId) (g : Graph) → m.0 < length gs → IsGraphIn inputs m g
    → ((n : MethodId) (h : Graph) → graph_at gs n.0 ≡ Some h → IsGraphIn inputs n h) → (n : MethodId) (h : Graph) → graph_at (set gs m.0 (Some g)) n.0 ≡ Some h → IsGraphIn inputs n h
set_right inputs gs m g lt is right n h e = elim (cases_eq n.0 m.0) [
  | inl same ↦
      let at : graph_at (set gs m.0 (Some g)) n.0 ≡ Some g = ap (graph_at (set gs m.0 (Some g))) same ∙ held (set gs m.0 (Some g)) m.0 g (at_set gs m.0 (Some g) lt) in
      let one : g ≡ h = some_one g h (sym at ∙ e) in
      let number : m ≡ n = ap (λ (k : ℕ). record { 0 = k }) (sym same) in
      subst (λ (x : Graph). IsGraphIn inputs n x) one (subst (λ (k : MethodId). IsGraphIn inputs k g) number is)
  | inr ne ↦ right n h (held gs n.0 h (from_set gs m.0 n.0 (Some g) h ne (holds (set gs m.0 (Some g)) n.0 h e)))
]

-- those before stay, where there was none at the place
pub set_kept : (gs : List (Option Graph)) (k : ℕ) (g : Graph) → get_or gs k None ≡ None → (m : ℕ) (h : Graph) → graph_at gs m ≡ Some h → graph_at (set gs k (Some g)) m ≡ Some h
set_kept gs k g none m h e = elim (cases_eq m k) [
  | inl same ↦ let at = get_or_from_slice_get gs k (Some h) None (ap (slice_get gs) (sym same) ∙ holds gs m h e) in absurd (cc (at, none))
  | inr ne ↦ held (set gs k (Some g)) m h (beside_set gs k m (Some g) h ne (holds gs m h e))
]

pub set_made : (gs : List (Option Graph)) (k : ℕ) (g : Graph) → k < length gs → graph_at (set gs k (Some g)) k ≡ Some g
set_made gs k g lt = held (set gs k (Some g)) k g (at_set gs k (Some g) lt)

-- none, and one more of none
pub none_more : (gs : List (Option Graph)) → ((m : ℕ) (g : Graph) → graph_at gs m ≡ Some g → ⊥) → (m : ℕ) (g : Graph) → graph_at (gs ++ None ∷ []) m ≡ Some g → ⊥
none_more gs none m g e =
    let at = holds (gs ++ None ∷ []) m g e in
    let w = slice_get_within (gs ++ None ∷ []) m (Some g) at in
    elim (cases_lt m (length gs)) [
      | inl lt ↦ none m g (held gs m g (slice_get-get_or gs m (Some g) lt ∙ ap (λ (x : Option Graph). Some x) (sym (get_or-append gs (None ∷ []) (Some g) m lt) ∙ get_or_from_slice_get (gs ++ None ∷ []) m (Some g) (Some g) at)))
      | inr ge ↦
          let here : length gs ≡ m = omega (arith, ge, w, length-append gs (None ∷ [])) in
          absurd (cc (get_or_push gs None (Some g) m here, get_or_from_slice_get (gs ++ None ∷ []) m (Some g) (Some g) at))
    ]

if_none : (o : Option Graph) → is_some o ≡ false → o ≡ None
if_none None e = refl
if_none (Some g) e = absurd cc

pub none_at : (gs : List (Option Graph)) (k : ℕ) (o : Option Graph) → k < length gs → o ≡ get_or gs k o → is_some o ≡ false → get_or gs k None ≡ None
none_at gs k o lt e n = get_or_default gs k None o lt ∙ sym e ∙ if_none o n

pub some_at : (gs : List (Option Graph)) (k : ℕ) (o : Option Graph) → k < length gs → o ≡ get_or gs k o → is_some o ≡ true → (g : Graph) × (graph_at gs k ≡ Some g)
some_at gs k None lt e n = absurd cc
some_at gs k (Some g) lt e n = (g, held gs k g (slice_get-get_or gs k (Some g) lt ∙ ap (λ (x : Option Graph). Some x) (sym e)))

-- a method with an input has its place
pub has_place : (inputs : List (Option MethodInput)) (gs : List (Option Graph)) (m : MethodId) → HasInput inputs m → length gs ≡ length inputs → m.0 < length gs
has_place inputs gs m (i, at) e = omega (arith, slice_get_within inputs m.0 (Some i) at, e)

-- what was read at the method's place is its graph
pub read_right : (inputs others : List (Option MethodInput)) (gs : List (Option Graph)) (m : MethodId) (o : Option Graph) (g : Graph) → others ≡ inputs → HasInput inputs m → length gs ≡ length others
    → ((n : MethodId) (h : Graph) → graph_at gs n.0 ≡ Some h → IsGraphIn others n h) → o ≡ get_or gs m.0 o → o ≡ Some g → IsGraphIn inputs m g
read_right inputs others gs m o g same inside size right read is =
    let lt : m.0 < length gs = has_place inputs gs m inside (size ∙ ap length same) in
    let at : slice_get gs m.0 ≡ Some (Some g) = slice_get-get_or gs m.0 o lt ∙ ap (λ (x : Option Graph). Some x) (sym read ∙ is) in
    subst (λ (is : List (Option MethodInput)). IsGraphIn is m g) same (right m g (held gs m.0 g at))

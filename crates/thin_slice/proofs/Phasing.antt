-- The two phases: each step back stays in the slice, and all that leads to a seed is found.
use Rattle.std.proofs.Common.{◌≡◌, ◌<◌, ◌≤◌, ◌+◌, ◌-◌, ℕ, Bool, true, false, List, [], ◌∷◌, ◌++◌, length, take, get_or, Option, Some, Contains, refl, sym, ap, subst, ◌∙◌, inl, inr, ◌⊎◌, length-append, append_assoc, drop, arith}
use Rattle.std.specs.Prelude.{slice_get}
use Rattle.std.proofs.lemmas.List.{take_more, take_all, take-take, take-append-le, take-append-drop, length-take, get_or-take}
use Rattle.std.proofs.lemmas.List.Elements.{Contains-append_left, Contains-push_cases}
use Rattle.std.proofs.lemmas.Option.{slice_get_within, slice_get-get_or, get_or_from_slice_get}
use Rattle.slicer_ids.specs.declared.ids.NodeId.{NodeId}
use Rattle.slicer_ids.specs.declared.ids.MethodId.{MethodId}
use Rattle.slicer_ids.specs.declared.ids.ExitId.{ExitId}
use Rattle.slicer_ids.specs.declared.ids.Mode.{Mode}
use Rattle.dep_form.specs.declared.node.Edge.{Edge}
use Rattle.dep_form.specs.declared.facts.Facts.{Facts}
use Rattle.dep_form.specs.declared.input.MethodInput.{MethodInput}
use Rattle.dep_form.specs.declared.node.Node.{Node}
use Rattle.dep_form.specs.declared.node.Node.TheVariants.{Thrown}
use Rattle.dep_form.specs.Inputs.{IsNode}
use Rattle.dep_form.specs.LookUps.{IsMethodOfNode}
use Rattle.dep_form.specs.Slices.{ModeEdges}
use Rattle.dep_form.specs.Paths.{IsInSlice, HasRealizablePath}
use Rattle.dep_form.specs.Phases.{Level, stay, thin, base, call, Down as GoesDown, level, enter, GoesUpThenDown, down, leave}
use Rattle.dep_form.proofs.OneMethod.{is_within}
use Rattle.dep_form.proofs.Realizable.{down_from, up_from, level_then, by_cases, by_list}
use Rattle.worklists.specs.Growth.{Grows}
use Rattle.worklists.proofs.Growing.{Grows-kept}
use Rattle.worklists.proofs.ClosingOne.{goes_on}
use Rattle.thin_slice.specs.declared.needs.Go.{Go}
use Rattle.thin_slice.specs.declared.needs.Go.TheVariants.{Finished, NeedsGraph, NeedsRow}
use Rattle.thin_slice.specs.declared.needs.Phase.{Phase}
use Rattle.thin_slice.specs.declared.needs.Phase.TheVariants.{Up, Down}
use Rattle.thin_slice.specs.Steps.{Flows, Moves, Passes, GoesBack, StepsDown}
use Rattle.thin_slice.specs.Needs.{IsServed, IsMetAt, IsNeedAt, IsStep, IsStepDown, is_need}
use Rattle.thin_slice.specs.Walks.{LeadsDown, LeadsOn, IsPhase, IsUp, IsDown, IsStop, IsCause, IsAllFetched, ModeSlice}
use Rattle.thin_slice.proofs.Located.{input_there}

-- ---- what a step did
module _ (f : Facts) (Seen : MethodId → Type 0) (Known : ExitId → Type 0) (E : Edge → Type 0) (n : NodeId) (old new : List NodeId) where
  abbrev pub IsNeeded : Go → Type 0
  IsNeeded go = (new ≡ old) × (x : NodeId) × IsMetAt E n x × IsNeedAt f Seen Known x go

  pub step_need : (P : NodeId → Type 0) (go : Go) → is_need go ≡ true → IsStep f Seen Known E P n go old new → IsNeeded go
  step_need P Finished h s = absurd cc
  step_need P (NeedsGraph m) h s = s
  step_need P (NeedsRow e) h s = s

  pub step_done : (P : NodeId → Type 0) (go : Go) → is_need go ≡ false → IsStep f Seen Known E P n go old new → IsServed f Seen Known n × Grows old new P
  step_done P Finished h s = s
  step_done P (NeedsGraph m) h s = absurd cc
  step_done P (NeedsRow e) h s = absurd cc

  pub down_need : (first : Bool) (go : Go) → is_need go ≡ true → IsStepDown f Seen Known E first n go old new → IsNeeded go
  down_need first Finished h s = absurd cc
  down_need first (NeedsGraph m) h s = s
  down_need first (NeedsRow e) h s = s

  pub down_done : (first : Bool) (go : Go) → is_need go ≡ false → IsStepDown f Seen Known E first n go old new → (first ≡ false → IsServed f Seen Known n) × Grows old new (StepsDown E first n)
  down_done first Finished h s = s
  down_done first (NeedsGraph m) h s = absurd cc
  down_done first (NeedsRow e) h s = absurd cc

  pub later_step : (go : Go) → IsStep f Seen Known E (GoesBack E Down n) n go old new → IsStepDown f Seen Known E false n go old new
  later_step Finished s = (λ e. s.0, s.1)
  later_step (NeedsGraph m) s = s
  later_step (NeedsRow e) s = s

  pub stops : (go : Go) (next : ℕ) → is_need go ≡ true → Contains old n → IsNeeded go → IsStop f Seen Known E go next new
  stops Finished next h c s = absurd cc
  stops (NeedsGraph m) next h c s = (n, s.1, subst (λ (xs : List NodeId). Contains xs n) (sym s.0) c, s.2, s.3)
  stops (NeedsRow e) next h c s = (n, s.1, subst (λ (xs : List NodeId). Contains xs n) (sym s.0) c, s.2, s.3)

-- what stands at a place of a list is in it
pub contains_at : (xs : List NodeId) (k : ℕ) (n : NodeId) → slice_get xs k ≡ Some n → Contains xs n
contains_at xs k n at = (k, slice_get_within xs k n at, get_or_from_slice_get xs k n n at)

pub contains_before : (xs : List NodeId) (k ups : ℕ) (n : NodeId) → slice_get xs k ≡ Some n → k < ups → Contains (take ups xs) n
contains_before xs k ups n at lt =
    let inside = slice_get_within xs k n at in
    (k, omega (arith, length-take ups xs), get_or-take ups xs k n lt ∙ get_or_from_slice_get xs k n n at)

-- the front of a list that grew
pub same_front : (old new : List NodeId) (P : NodeId → Type 0) (ups : ℕ) → Grows old new P → ups ≤ length old → take ups new ≡ take ups old
same_front old new P ups grown le = ap (take ups) grown.front.1 ∙ take-append-le ups old grown.front.0 le

pub by_either : (P : Type 0) (b : Bool) → (b ≡ true → P) → (b ≡ false → P) → P
by_either P true a b = a refl
by_either P false a b = b refl

-- what stands in front of a list is in it
pub in_front : (k : ℕ) (xs : List NodeId) (n : NodeId) → Contains (take k xs) n → Contains xs n
in_front k xs n c = subst (λ (ys : List NodeId). Contains ys n) (take-append-drop k xs) (Contains-append_left (take k xs) (drop k xs) n c)

-- ---- steps stay in the slice
flow_level : (E : Edge → Type 0) (n q : NodeId) → Flows E n q → Level E q n
flow_level E n q (inl e) = thin e stay
flow_level E n q (inr e) = base e stay

call_level : (E : Edge → Type 0) (n q : NodeId) → Passes E n q → Level E q n
call_level E n q p = call p.3.1 p.3.2 p.2 stay

lower : (E : Edge → Type 0) (seeds : List NodeId) (n q : NodeId) → Level E q n → LeadsDown E seeds n → LeadsDown E seeds q
lower E seeds n q l h = (h.0, h.1, down_from E n q h.0 (λ c y. level_then E c l y) h.2)

further : (E : Edge → Type 0) (seeds : List NodeId) (n q : NodeId) → Level E q n → LeadsOn E seeds n → LeadsOn E seeds q
further E seeds n q l h = (h.0, h.1, up_from E n q h.0 (λ c y. level_then E c l y) h.2)

pub by_up : (E : Edge → Type 0) (seeds : List NodeId) (n q : NodeId) → LeadsDown E seeds n → GoesBack E Up n q → LeadsDown E seeds q
by_up E seeds n q h (inl (inl s)) = lower E seeds n q (flow_level E n q s) h
by_up E seeds n q h (inl (inr s)) = (h.0, h.1, enter stay s.1 h.2)
by_up E seeds n q h (inr s) = lower E seeds n q (call_level E n q s) h

pub by_down : (E : Edge → Type 0) (seeds : List NodeId) (n q : NodeId) → LeadsOn E seeds n → GoesBack E Down n q → LeadsOn E seeds q
by_down E seeds n q h (inl (inl s)) = further E seeds n q (flow_level E n q s) h
by_down E seeds n q h (inl (inr s)) = (h.0, h.1, leave stay s.1 h.2)
by_down E seeds n q h (inr s) = further E seeds n q (call_level E n q s) h

-- ---- one more node is taken up
module _ (next : ℕ) (x : NodeId) (old new : List NodeId) (P : NodeId → Type 0) (at : slice_get old next ≡ Some x) (grown : Grows old new P) where
  lt : next < length old
  lt = slice_get_within old next x at

  is : x ≡ get_or old next x
  is = sym (get_or_from_slice_get old next x x at)

  -- what was taken up now was before, or is the node
  pub taken : (n : NodeId) → Contains (take (next + 1) new) n → Contains (take next old) n ⊎ (n ≡ x)
  taken n c =
      let first : take (next + 1) new ≡ take (next + 1) old = ap (take (next + 1)) grown.front.1 ∙ take-append-le (next + 1) old grown.front.0 (omega (arith, lt)) in
      let cut : take (next + 1) new ≡ take next old ++ x ∷ [] = first ∙ take_more old next x lt ∙ ap (λ y. take next old ++ y ∷ []) (sym is) in
      elim (Contains-push_cases (take next old) x n (subst (λ (xs : List NodeId). Contains xs n) cut c)) [ inl o ↦ inl o | inr e ↦ inr (sym e) ]

  pub longer : next + 1 ≤ length new
  longer = omega (arith, lt, ap length grown.front.1, length-append old grown.front.0)

  pub kept_front : (start : List NodeId) → (more : List NodeId) × (old ≡ start ++ more) → (more : List NodeId) × (new ≡ start ++ more)
  kept_front start f = (f.0 ++ grown.front.0, grown.front.1 ∙ ap (λ (xs : List NodeId). xs ++ grown.front.0) f.1 ∙ append_assoc start f.0 grown.front.0)

module _ (E : Edge → Type 0) (seeds : List NodeId) (next : ℕ) (x : NodeId) (old new : List NodeId) (at : slice_get old next ≡ Some x) where
  phase_goes_on : (Good : NodeId → Type 0) (phase : Phase) → ((n q : NodeId) → Good n → GoesBack E phase n q → Good q) → Grows old new (GoesBack E phase x) → IsPhase Good E phase next old → IsPhase Good E phase (next + 1) new
  phase_goes_on Good phase by_one grown t =
      let lt = slice_get_within old next x at in
      let is = sym (get_or_from_slice_get old next x x at) in
      let r = goes_on Good (GoesBack E phase) by_one next x old new lt is grown (record { each = t.each; one = t.steps; within = t.within }) in
      record { each = r.each; steps = r.one; within = r.within }

  pub up_goes_on : Grows old new (GoesBack E Up x) → IsUp E seeds next old → IsUp E seeds (next + 1) new
  up_goes_on grown t = record {
    there = λ s c. Grows-kept old new (GoesBack E Up x) grown s (t.there s c);
    up = phase_goes_on (LeadsDown E seeds) Up (by_up E seeds) grown t.up;
  }

  module _ (ups : ℕ) (t : IsDown E seeds ups next old) where
    -- from a node of the first phase the steps over calls were taken
    whole : Contains (take ups old) x → Grows old new (Moves E Down x) → Grows old new (GoesBack E Down x)
    whole c grown = record {
      front = grown.front;
      all = λ q h. elim h [
        | inl m ↦ grown.all q m
        | inr p ↦ Grows-kept old new (Moves E Down x) grown q (in_front ups old q (t.first.up.steps x q (first_ups c) (inr p)))
      ];
      only = λ q c. elim (grown.only q c) [ inl o ↦ inl o | inr m ↦ inr (inl m) ];
    }
      where
        first_ups : Contains (take ups old) x → Contains (take ups (take ups old)) x
        first_ups c = subst (λ (xs : List NodeId). Contains xs x) (sym (take-take ups ups old (omega arith))) c

    grown_down : (first : Bool) → (first ≡ true → Contains (take ups old) x) → Grows old new (StepsDown E first x) → Grows old new (GoesBack E Down x)
    grown_down true early grown = whole (early refl) grown
    grown_down false early grown = grown

    pub down_goes_on : (first : Bool) → (first ≡ true → Contains (take ups old) x) → Grows old new (StepsDown E first x) → IsDown E seeds ups (next + 1) new
    down_goes_on first early step =
        let grown = grown_down first early step in
        let same : take ups new ≡ take ups old = ap (take ups) grown.front.1 ∙ take-append-le ups old grown.front.0 t.within in
        record {
          first = subst (λ (xs : List NodeId). IsUp E seeds ups xs) (sym same) t.first;
          down = phase_goes_on (LeadsOn E seeds) Down (by_down E seeds) grown t.down;
          within = omega (arith, t.within, ap length grown.front.1, length-append old grown.front.0);
        }

-- ---- the end
module _ (E : Edge → Type 0) (xs : List NodeId) (step : (n q : NodeId) → Contains xs n → Flows E n q ⊎ Passes E n q → Contains xs q) where
  level_found : {a b : NodeId} → Level E a b → Contains xs b → Contains xs a
  level_found stay c = c
  level_found (thin {a} {b} e x) c = step b a (level_found x c) (inl (inl e))
  level_found (base {a} {b} e x) c = step b a (level_found x c) (inl (inr e))
  level_found (call {a} {b} {c} {d} {e} {k} f x r y) there = step d a (level_found y there) (inr (k, c, r, (b, f, x)))

module _ (E : Edge → Type 0) (seeds : List NodeId) (ups next : ℕ) (nodes : List NodeId) (t : IsDown E seeds ups next nodes) (le : length nodes ≤ next) where
  up_step : (n q : NodeId) → Contains (take ups nodes) n → GoesBack E Up n q → Contains (take ups nodes) q
  up_step n q c h = t.first.up.steps n q (subst (λ (xs : List NodeId). Contains xs n) (sym (take-take ups ups nodes (omega arith))) c) h

  down_step : (n q : NodeId) → Contains nodes n → GoesBack E Down n q → Contains nodes q
  down_step n q c h = t.down.steps n q (subst (λ (xs : List NodeId). Contains xs n) (sym (take_all next nodes le)) c) h

  up_level : {a b : NodeId} → Level E a b → Contains (take ups nodes) b → Contains (take ups nodes) a
  up_level x c = level_found E (take ups nodes) (λ n q k h. up_step n q k (elim h [ inl s ↦ inl (inl s) | inr p ↦ inr p ])) x c

  down_level : {a b : NodeId} → Level E a b → Contains nodes b → Contains nodes a
  down_level x c = level_found E nodes (λ n q k h. down_step n q k (elim h [ inl s ↦ inl (inl s) | inr p ↦ inr p ])) x c

  down_found : {a s : NodeId} → GoesDown E a s → Contains (take ups nodes) s → Contains (take ups nodes) a
  down_found (level x) c = up_level x c
  down_found (enter {a} {b} {c} {d} {k} x e y) there = up_level x (up_step c b (down_found y there) (inl (inr (k, e))))

  up_found : {a s : NodeId} → GoesUpThenDown E a s → Contains (take ups nodes) s → Contains nodes a
  up_found (down {a} x) c = in_front ups nodes a (down_found x c)
  up_found (leave {a} {b} {c} {d} {k} x e y) there = down_level x (down_step c b (up_found y there) (inl (inr (k, e))))

  pub is_slice : (n : NodeId) → (Contains nodes n → IsInSlice E (Contains seeds) n) × (IsInSlice E (Contains seeds) n → Contains nodes n)
  is_slice n = (λ c. let h = t.down.each n c in (h.0, h.1, by_list E n h.0 h.2), λ h. up_found (by_cases E n h.0 h.2) (t.first.there h.0 h.1))

-- what is met at a node of the slice is of the slice
pub met_on : (E : Edge → Type 0) (seeds : List NodeId) (n x : NodeId) → LeadsOn E seeds n → IsMetAt E n x → IsInSlice E (Contains seeds) x
met_on E seeds n x h (inl is) = (h.0, h.1, subst (λ y. HasRealizablePath E y h.0) (sym is) (by_list E n h.0 h.2))
met_on E seeds n x h (inr r) = (h.0, h.1, by_list E x h.0 (leave stay r.1 h.2))

pub on_from_down : (E : Edge → Type 0) (seeds : List NodeId) (n : NodeId) → LeadsDown E seeds n → LeadsOn E seeds n
on_from_down E seeds n h = (h.0, h.1, down h.2)

-- a node of a method has a kind
node_kind : (inputs : List (Option MethodInput)) (n : NodeId) (m : MethodId) → IsMethodOfNode inputs n m → (k : Node) × IsNode inputs n m k
node_kind inputs n m of =
    let i = input_there inputs n m of in
    (get_or i.0.nodes (n.0 - i.0.first.0) Thrown, (i.0, i.1, (i.2, slice_get-get_or i.0.nodes (n.0 - i.0.first.0) Thrown (omega (arith, i.2, i.3)))))

-- a node of a kind is of the method
node_of : (inputs : List (Option MethodInput)) (n : NodeId) (m : MethodId) (k : Node) → IsNode inputs n m k → IsMethodOfNode inputs n m
node_of inputs n m k p = (Some p.0, p.1, (p.2.0, is_within p.0 n k p.2))

module _ (f : Facts) (mode : Mode) (seeds : List NodeId) (Seen : MethodId → Type 0) (Known : ExitId → Type 0) (nodes : List NodeId) where
  pub cause_of : (go : Go) (next : ℕ) → ((n : NodeId) → Contains nodes n → LeadsOn (ModeEdges f.inputs mode) seeds n) → IsStop f Seen Known (ModeEdges f.inputs mode) go next nodes → IsCause f mode seeds Seen Known go
  cause_of Finished next on s = tt
  cause_of (NeedsGraph m) next on s =
      let k = node_kind f.inputs s.1 m s.4.0 in
      ((s.1, k.0, met_on (ModeEdges f.inputs mode) seeds s.0 s.1 (on s.0 s.2) s.3, k.1), s.4.1)
  cause_of (NeedsRow e) next on s = ((s.1, s.4.0, met_on (ModeEdges f.inputs mode) seeds s.0 s.1 (on s.0 s.2) s.3), s.4.1)

  pub all_fetched : ((n : NodeId) → ModeSlice f mode seeds n → Contains nodes n) → ((n : NodeId) → Contains nodes n → IsServed f Seen Known n) → IsAllFetched f mode seeds Seen Known
  all_fetched whole served = record {
    graphs = λ m h. (served h.0 (whole h.0 h.2)).graph m (node_of f.inputs h.0 m h.1 h.3);
    rows = λ e h. (served h.0 (whole h.0 h.2)).row e h.1;
  }

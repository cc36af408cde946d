-- Over one call, by the arguments that are kept of the method called.
use Rattle.std.proofs.Common.{◌≡◌, ◌<◌, ◌≤◌, ◌*◌, ◌-◌, ℕ, List, length, get_or, Contains, Option, Some, None, refl, sym, subst, ap, ◌∙◌, arith}
use Rattle.std.specs.Prelude.{◌↔◌, slice_get}
use Rattle.std.proofs.lemmas.Option.{same_Some, slice_get_read}
use Rattle.slicer_ids.specs.declared.ids.NodeId.{NodeId}
use Rattle.slicer_ids.specs.declared.ids.CallId.{CallId}
use Rattle.slicer_ids.specs.declared.ids.ExitId.{ExitId}
use Rattle.dep_form.specs.declared.facts.Facts.{Facts}
use Rattle.dep_form.specs.declared.node.Edge.{Edge}
use Rattle.dep_form.specs.declared.node.Label.{Label}
use Rattle.dep_form.specs.declared.node.Label.TheVariants.{Thin, Base, Call, Return}
use Rattle.dep_form.specs.Inputs.{IsEdge}
use Rattle.dep_form.specs.Phases.{edge}
use Rattle.dep_form.specs.Summaries.{IsExitAt}
use Rattle.tabulate.specs.declared.found.Found.{Found}
use Rattle.tabulate.specs.declared.method.Method.{Method}
use Rattle.tabulate.specs.declared.method.Argument.{Argument}
use Rattle.tabulate.specs.Frames.{method_of, number_of, first_exit, exit_count, width}
use Rattle.tabulate.specs.Methods.{IsMethodOf, IsMet, IsMetAs}
use Rattle.tabulate.specs.Found.{Got, AreFound, waits_of}
use Rattle.tabulate.proofs.Placing.{behind_first, number_low, is_exit, exit_place}
use Rattle.tabulate.proofs.Fitting.{call_ends}
use Rattle.tabulate.proofs.ModeEdges.{exit_low}
use Rattle.tabulate.proofs.Backward.{got_open, open_waits}
use Rattle.worklists.specs.Growth.{Grows, FromOne}
use Rattle.worklists.proofs.Growing.{Grows-none, Grows-same}
use Rattle.widening.specs.Marks.{PassesTo, OverCall, OverEdge, OverBack, OverMethod}

-- the method of an exit to which a formal leads was met
pub over_met : (f : Facts) (ms : List (Option Method)) (ts : List Found) → AreFound f ts → ((m : ℕ) → 0 < length (waits_of ts m) → IsMet ms m) → (d : ExitId) (x : NodeId) (k : CallId) (q : NodeId) → IsExitAt f d x → OverCall f ts d k q → IsMet ms (method_of f x.0)
over_met f ms ts found met d x k q at (y, b, there, e, own, got) =
    let same : y ≡ x = same_Some y x (sym there ∙ at) in
    let here = met (method_of f b.0) (open_waits f ts b.0 got.0 (got_open f ts (b.0, number_of f y.0) found got)) in
    subst (λ (m : ℕ). IsMet ms m) (own ∙ ap (λ (n : NodeId). method_of f n.0) same) here

-- the place of an exit among those of its method
pub number_within : (f : Facts) (callee : Method) (is : IsMethodOf f callee) (d : ExitId) (x : NodeId) → IsExitAt f d x → method_of f x.0 ≡ callee.id.0 → (callee.first_exit ≤ d.0) × (d.0 - callee.first_exit ≡ number_of f x.0) × (d.0 - callee.first_exit < 64 * width f callee.id.0)
number_within f callee is d x at home =
    let low = exit_low f d x at in
    let place = behind_first f d x at low in
    let small = number_low f x.0 (is_exit f d x at low) in
    let first = ap (first_exit f) home in
    let count = ap (exit_count f) home in (
      omega (arith, place, is.exit_is, first),
      omega (arith, place, is.exit_is, first),
      omega (arith, place, is.exit_is, first, small, count),
    )

module _ (f : Facts) (ts : List Found) (callee : Method) (is : IsMethodOf f callee) (d : ExitId) (x : NodeId) (at : IsExitAt f d x) (home : method_of f x.0 ≡ callee.id.0) (number : ℕ) (num : number ≡ number_of f x.0) (k : CallId) (args : List Argument)
    (of_call : (a : Argument) → Contains args a ↔ (Contains callee.arguments.items a × (a.call ≡ k))) where
  pub to_over : (q : NodeId) → FromOne (PassesTo f ts number) args q → OverCall f ts d k q
  to_over q (a, c, w) =
      let kept = (of_call a).0 c in
      let arg = is.arguments.each a kept.0 in (
        x,
        a.formal,
        at,
        subst (λ (n : NodeId). IsEdge f.inputs (edge n (Call k) a.formal)) (sym w.1) (subst (λ (j : CallId). IsEdge f.inputs (edge a.from (Call j) a.formal)) kept.1 arg.0),
        arg.1.1 ∙ sym home,
        subst (λ (n : ℕ). Got f ts (a.formal.0, n)) num w.0,
      )

  pub from_over : (q : NodeId) → OverCall f ts d k q → FromOne (PassesTo f ts number) args q
  from_over q (y, b, there, e, own, got) =
      let same : y ≡ x = same_Some y x (sym there ∙ at) in
      let a : Argument = record { call = k; from = q; formal = b } in
      let home_b : method_of f b.0 ≡ callee.id.0 = own ∙ ap (λ (n : NodeId). method_of f n.0) same ∙ home in (
        a,
        (of_call a).1 (is.arguments.whole a (e, (call_ends f q b k e, home_b)), refl),
        (subst (λ (n : ℕ). Got f ts (b.0, n)) (ap (λ (n : NodeId). number_of f n.0) same ∙ sym num) got, refl),
      )

-- what was read at a place
pub read_there : {A : Type 0} (xs : List A) (k : ℕ) (x y : A) → k < length xs → x ≡ get_or xs k x → x ≡ y → slice_get xs k ≡ Some y
read_there {A} xs k x y lt read is = subst (λ (z : A). slice_get xs k ≡ Some z) is (slice_get_read xs (length xs) k x refl lt read)

-- the returns to the method that was met there, and none where none was met
pub method_over : (f : Facts) (ms : List (Option Method)) (ts : List Found) (nodes : List NodeId) (m : ℕ) (x : Method) → IsMetAs ms m x → (old new : List NodeId) → Grows old new (FromOne (OverBack f ts nodes) x.returns.items) → Grows old new (OverMethod f ms ts nodes m)
method_over f ms ts nodes m x met old new g = Grows-same old new (FromOne (OverBack f ts nodes) x.returns.items) (OverMethod f ms ts nodes m) (λ q h. (x, met, h))
    (λ q h. subst (λ (y : Method). FromOne (OverBack f ts nodes) y.returns.items q) (same_Some h.0 x (same_Some (Some h.0) (Some x) (sym h.1 ∙ met))) h.2) g

pub method_none : (f : Facts) (ms : List (Option Method)) (ts : List Found) (nodes : List NodeId) (m : ℕ) → slice_get ms m ≡ Some None → (old : List NodeId) → Grows old old (OverMethod f ms ts nodes m)
method_none f ms ts nodes m is old = Grows-none old (OverMethod f ms ts nodes m) (λ q h. apart h.0 (same_Some (Some h.0) None (sym h.1 ∙ is)))
  where
    apart : (x : Method) → Some x ≡ None → ⊥
    apart x e = absurd cc

-- an edge that is no return passes over no call
pub no_over : (f : Facts) (ts : List Found) (e : Edge) → ((k : CallId) → e.label ≡ Return k → ⊥) → (q : NodeId) → OverEdge f ts e q → ⊥
no_over f ts e never q h = never h.1 h.3

pub thin_returns : (l : Label) (k : CallId) → l ≡ Thin → l ≡ Return k → ⊥
thin_returns l k a b = apart (sym a ∙ b)
  where
    apart : Thin ≡ Return k → ⊥
    apart e = absurd cc

pub base_returns : (l : Label) (k : CallId) → l ≡ Base → l ≡ Return k → ⊥
base_returns l k a b = apart (sym a ∙ b)
  where
    apart : Base ≡ Return k → ⊥
    apart e = absurd cc

pub call_returns : (l : Label) (j k : CallId) → l ≡ Call j → l ≡ Return k → ⊥
call_returns l j k a b = apart (sym a ∙ b)
  where
    apart : Call j ≡ Return k → ⊥
    apart e = absurd cc

-- one return is of one call and of one exit
pub edge_over : (f : Facts) (ts : List Found) (e : Edge) (d : ExitId) (k : CallId) → IsExitAt f d e.from → e.label ≡ Return k → (q : NodeId) → OverEdge f ts e q → OverCall f ts d k q
edge_over f ts e d k at l q (c, j, there, m, over) =
    let same_d : c ≡ d = ap (λ (n : ℕ). record { 0 = n }) (sym (exit_place f c e.from there) ∙ exit_place f d e.from at) in
    let same_k : j ≡ k = one_call j k (sym m ∙ l) in
    subst (λ (y : ExitId). OverCall f ts y k q) same_d (subst (λ (y : CallId). OverCall f ts c y q) same_k over)
  where
    one_call : (a b : CallId) → Return a ≡ Return b → a ≡ b
    one_call a b e = cc

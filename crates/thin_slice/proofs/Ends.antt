-- What the edges of facts join, in each mode.
use Rattle.std.proofs.Common.{◌≡◌, ◌<◌, ◌≤◌, ◌+◌, ◌-◌, true, List, length, get_or, Option, Some, Contains, refl, sym, ap, subst, ◌∙◌, inl, inr, ◌⊎◌}
use Rattle.std.specs.Prelude.{slice_get}
use Rattle.std.proofs.Math.Logic.{∥∥₁_elim}
use Rattle.std.proofs.Props.{props}
use Rattle.std.proofs.lemmas.Option.{slice_get-get_or, get_or_from_slice_get, same_Some}
use Rattle.slicer_ids.specs.declared.ids.NodeId.{NodeId}
use Rattle.slicer_ids.specs.declared.ids.MethodId.{MethodId}
use Rattle.slicer_ids.specs.declared.ids.CallId.{CallId}
use Rattle.slicer_ids.specs.declared.ids.ExitId.{ExitId}
use Rattle.slicer_ids.specs.declared.ids.Mode.{Mode}
use Rattle.slicer_ids.specs.declared.ids.Mode.TheVariants.{Thin as Producers, Full}
use Rattle.dep_form.specs.declared.input.MethodInput.{MethodInput}
use Rattle.dep_form.specs.declared.node.Node.{Node}
use Rattle.dep_form.specs.declared.node.Edge.{Edge}
use Rattle.dep_form.specs.declared.node.Label.{Label}
use Rattle.dep_form.specs.declared.node.Label.TheVariants.{Thin, Base, Call, Return}
use Rattle.dep_form.specs.declared.facts.Facts.{Facts}
use Rattle.dep_form.specs.Firsts.{node_count}
use Rattle.dep_form.specs.Nodes.{is_formal}
use Rattle.dep_form.specs.Inputs.{IsEdge, IsNode, IsNodeOf, IsInputOf}
use Rattle.dep_form.specs.Phases.{edge, Level, stay, thin, base, call}
use Rattle.dep_form.specs.Slices.{ModeEdges, plain}
use Rattle.dep_form.specs.Summaries.{IsExitAt}
use Rattle.dep_form.specs.WithinFacts.{AreFacts, IsFit, InOneMethod}
use Rattle.dep_form.proofs.OneMethod.{one_place, is_within}
use Rattle.thin_slice.proofs.Located.{node_below}

abbrev pub AreFactsOf : Facts → Type 0
AreFactsOf f = AreFacts f.inputs f.exits f.classes f.methods f.sites f.lines f.accesses f.values

-- the input has the node
abbrev pub Has : MethodInput → NodeId → Type 0
Has i n = (i.first.0 ≤ n.0) × (n.0 < i.first.0 + length i.nodes)

-- where an edge starts there is a node
start_by : (f : Facts) (r : AreFactsOf f) (e : Edge) (l : Label) → e.label ≡ l → IsEdge f.inputs e → IsFit f.inputs f.accesses e l → e.from.0 < node_count f.inputs
start_by f r e Thin is h fit = node_below f e.from fit.0 fit.1 fit.3
start_by f r e Base is h fit = node_below f e.from fit.0.0 fit.0.1 fit.0.3
start_by f r e (Call c) is h fit = let o = r.one_caller c e e e.from e.from h h (inl (is, refl)) (inl (is, refl)) in node_below f e.from o.0 o.1 o.3
start_by f r e (Return c) is h fit = node_below f e.from fit.0 fit.1.0 fit.1.1

pub start_below : (f : Facts) (e : Edge) → IsEdge f.inputs e → e.from.0 < node_count f.inputs
start_below f e h = ∥∥₁_elim f.sound (hlevel props) (λ r. start_by f r e e.label refl h (r.fit e h))

-- an input with the one node of a method has the other
pub same_input : (f : Facts) (a b : NodeId) (m : MethodId) (i : MethodInput) → IsInputOf f.inputs m i → InOneMethod f.inputs a b → Has i b → Has i a
same_input f a b m i at o has =
    let x = o.3 in
    let y = o.4 in
    let place : o.0.0 ≡ m.0 = one_place f b.0 o.0.0 m.0 y.0 i y.1 at y.2.0 (is_within y.0 b o.2 y.2) has.0 has.1 in
    let there : slice_get f.inputs m.0 ≡ Some (Some x.0) = subst (λ n. slice_get f.inputs n ≡ Some (Some x.0)) place x.1 in
    let one : x.0 ≡ i = same_Some x.0 i (same_Some (Some x.0) (Some i) (sym there ∙ at)) in
    subst (λ j. Has j a) one (x.2.0, is_within x.0 a o.1 x.2)

-- edges by their labels, whatever the mode
call_by : (inputs : List (Option MethodInput)) (g : Edge) (l : Label) (a b : NodeId) (c : CallId) → g.label ≡ l → IsEdge inputs g → edge a (Call c) b ≡ record g { label = plain l } → IsEdge inputs (edge a (Call c) b)
call_by inputs g Thin a b c is h e = let bad : Call c ≡ Thin = ap (λ (x : Edge). x.label) e in absurd (cc bad)
call_by inputs g Base a b c is h e = let bad : Call c ≡ Thin = ap (λ (x : Edge). x.label) e in absurd (cc bad)
call_by inputs g (Call d) a b c is h e = subst (IsEdge inputs) (ap (λ l. record g { label = l }) is ∙ sym e) h
call_by inputs g (Return d) a b c is h e = let bad : Call c ≡ Return d = ap (λ (x : Edge). x.label) e in absurd (cc bad)

pub raw_call : (inputs : List (Option MethodInput)) (mode : Mode) (a b : NodeId) (c : CallId) → ModeEdges inputs mode (edge a (Call c) b) → IsEdge inputs (edge a (Call c) b)
raw_call inputs Producers a b c h = h.0
raw_call inputs Full a b c h = call_by inputs h.0 h.0.label a b c refl h.1 h.2

return_by : (inputs : List (Option MethodInput)) (g : Edge) (l : Label) (a b : NodeId) (c : CallId) → g.label ≡ l → IsEdge inputs g → edge a (Return c) b ≡ record g { label = plain l } → IsEdge inputs (edge a (Return c) b)
return_by inputs g Thin a b c is h e = let bad : Return c ≡ Thin = ap (λ (x : Edge). x.label) e in absurd (cc bad)
return_by inputs g Base a b c is h e = let bad : Return c ≡ Thin = ap (λ (x : Edge). x.label) e in absurd (cc bad)
return_by inputs g (Call d) a b c is h e = let bad : Return c ≡ Call d = ap (λ (x : Edge). x.label) e in absurd (cc bad)
return_by inputs g (Return d) a b c is h e = subst (IsEdge inputs) (ap (λ l. record g { label = l }) is ∙ sym e) h

pub raw_return : (inputs : List (Option MethodInput)) (mode : Mode) (a b : NodeId) (c : CallId) → ModeEdges inputs mode (edge a (Return c) b) → IsEdge inputs (edge a (Return c) b)
raw_return inputs Producers a b c h = h.0
raw_return inputs Full a b c h = return_by inputs h.0 h.0.label a b c refl h.1 h.2

pub mode_call : (inputs : List (Option MethodInput)) (mode : Mode) (a b : NodeId) (c : CallId) → IsEdge inputs (edge a (Call c) b) → ModeEdges inputs mode (edge a (Call c) b)
mode_call inputs Producers a b c h = (h, λ e. absurd (cc e))
mode_call inputs Full a b c h = (edge a (Call c) b, h, refl)

pub mode_return : (inputs : List (Option MethodInput)) (mode : Mode) (a b : NodeId) (c : CallId) → IsEdge inputs (edge a (Return c) b) → ModeEdges inputs mode (edge a (Return c) b)
mode_return inputs Producers a b c h = (h, λ e. absurd (cc e))
mode_return inputs Full a b c h = (edge a (Return c) b, h, refl)

pub mode_thin : (inputs : List (Option MethodInput)) (mode : Mode) (a b : NodeId) → IsEdge inputs (edge a Thin b) → ModeEdges inputs mode (edge a Thin b)
mode_thin inputs Producers a b h = (h, λ e. absurd (cc e))
mode_thin inputs Full a b h = (edge a Thin b, h, refl)

-- an edge within a method is thin or, in full mode, one to a base
abbrev pub IsRawFlow : List (Option MethodInput) → Mode → NodeId → NodeId → Type 0
IsRawFlow inputs mode a b = IsEdge inputs (edge a Thin b) ⊎ ((mode ≡ Full) × IsEdge inputs (edge a Base b))

flow_by : (inputs : List (Option MethodInput)) (g : Edge) (l : Label) (a b : NodeId) → g.label ≡ l → IsEdge inputs g → edge a Thin b ≡ record g { label = plain l } → IsRawFlow inputs Full a b
flow_by inputs g Thin a b is h e = inl (subst (IsEdge inputs) (ap (λ l. record g { label = l }) is ∙ sym e) h)
flow_by inputs g Base a b is h e =
    let from : g.from ≡ a = sym (ap (λ (x : Edge). x.from) e) in
    let to : g.to ≡ b = sym (ap (λ (x : Edge). x.to) e) in
    inr (refl, subst (IsEdge inputs) (ap (λ l. record g { label = l }) is ∙ ap (λ n. edge n Base g.to) from ∙ ap (λ n. edge a Base n) to) h)
flow_by inputs g (Call d) a b is h e = let bad : Thin ≡ Call d = ap (λ (x : Edge). x.label) e in absurd (cc bad)
flow_by inputs g (Return d) a b is h e = let bad : Thin ≡ Return d = ap (λ (x : Edge). x.label) e in absurd (cc bad)

pub raw_thin : (inputs : List (Option MethodInput)) (mode : Mode) (a b : NodeId) → ModeEdges inputs mode (edge a Thin b) → IsRawFlow inputs mode a b
raw_thin inputs Producers a b h = inl h.0
raw_thin inputs Full a b h = flow_by inputs h.0 h.0.label a b refl h.1 h.2

-- no mode tells an edge to a base as such
base_by : (l : Label) → Base ≡ plain l → ⊥
base_by Thin e = absurd (cc e)
base_by Base e = absurd (cc e)
base_by (Call c) e = absurd (cc e)
base_by (Return c) e = absurd (cc e)

pub no_base : (inputs : List (Option MethodInput)) (mode : Mode) (a b : NodeId) → ModeEdges inputs mode (edge a Base b) → ⊥
no_base inputs Producers a b h = (h.1 refl).1
no_base inputs Full a b h = base_by h.0.label (ap (λ (x : Edge). x.label) h.2)

-- an edge within a method
flow_in : (f : Facts) (a b : NodeId) (m : MethodId) (i : MethodInput) (mode : Mode) → IsInputOf f.inputs m i → IsRawFlow f.inputs mode a b → Has i b → Has i a
flow_in f a b m i mode at (inl h) has = ∥∥₁_elim f.sound (hlevel props) (λ r. same_input f a b m i at (r.fit (edge a Thin b) h) has)
flow_in f a b m i mode at (inr h) has = ∥∥₁_elim f.sound (hlevel props) (λ r. same_input f a b m i at (r.fit (edge a Base b) h.1).0 has)

-- a whole call
pub around : (f : Facts) (a b x d : NodeId) (k : CallId) (m : MethodId) (i : MethodInput) → IsInputOf f.inputs m i → IsEdge f.inputs (edge a (Call k) b) → IsEdge f.inputs (edge x (Return k) d) → Has i d → Has i a
around f a b x d k m i at e g has = ∥∥₁_elim f.sound (hlevel props) (λ r. same_input f a d m i at (r.one_caller k (edge a (Call k) b) (edge x (Return k) d) a d e g (inl (refl, refl)) (inr (refl, refl))) has)

-- a same-level path stays in one method
pub level_in : (f : Facts) (mode : Mode) (m : MethodId) (i : MethodInput) → IsInputOf f.inputs m i → {a b : NodeId} → Level (ModeEdges f.inputs mode) a b → Has i b → Has i a
level_in f mode m i at stay has = has
level_in f mode m i at (thin {a} {b} e x) has = flow_in f a b m i mode at (raw_thin f.inputs mode a b e) (level_in f mode m i at x has)
level_in f mode m i at (base {a} {b} e x) has = absurd (no_base f.inputs mode a b e)
level_in f mode m i at (call {a} {b} {c} {d} {e} {k} h x r y) has = around f a b c d k m i at (raw_call f.inputs mode a b k h) (raw_return f.inputs mode c d k r) (level_in f mode m i at y has)

-- a call ends in a formal
formal_by : (f : Facts) (b : NodeId) (m : MethodId) (i : MethodInput) (d : Node) → IsInputOf f.inputs m i → Has i b → (n : MethodId) (k : Node) → IsNode f.inputs b n k → is_formal k ≡ true → is_formal (get_or i.nodes (b.0 - i.first.0) d) ≡ true
formal_by f b m i d at has n k p is =
    let place : n.0 ≡ m.0 = one_place f b.0 n.0 m.0 p.0 i p.1 at p.2.0 (is_within p.0 b k p.2) has.0 has.1 in
    let there : slice_get f.inputs m.0 ≡ Some (Some p.0) = subst (λ n. slice_get f.inputs n ≡ Some (Some p.0)) place p.1 in
    let one : p.0 ≡ i = same_Some p.0 i (same_Some (Some p.0) (Some i) (sym there ∙ at)) in
    let node : IsNodeOf i b k = subst (λ j. IsNodeOf j b k) one p.2 in
    ap is_formal (get_or_from_slice_get i.nodes (b.0 - i.first.0) k d node.1) ∙ is

pub call_ends : (f : Facts) (q b : NodeId) (c : CallId) (m : MethodId) (i : MethodInput) (d : Node) → IsInputOf f.inputs m i → IsEdge f.inputs (edge q (Call c) b) → Has i b → is_formal (get_or i.nodes (b.0 - i.first.0) d) ≡ true
call_ends f q b c m i d at e has = ∥∥₁_elim f.sound (hlevel props) (λ r. let fit = r.fit (edge q (Call c) b) e in formal_by f b m i d at has fit.0 fit.1 fit.2 fit.3)

-- a return starts in an exit
pub exit_there : (f : Facts) (x n : NodeId) (c : CallId) → IsEdge f.inputs (edge x (Return c) n) → ((e : ExitId) → IsExitAt f e x → ⊥) → ⊥
exit_there f x n c h none = ∥∥₁_elim f.sound (hlevel props) (λ r. listed (r.all_exits.whole x (r.fit (edge x (Return c) n) h)))
  where
    listed : Contains f.exits x → ⊥
    listed k = none (record { 0 = k.0 }) (slice_get-get_or f.exits k.0 x k.1 ∙ ap (λ (y : NodeId). Some y) k.2)

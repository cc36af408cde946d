-- Lists of edges that grow.
use Rattle.std.proofs.Common.{◌≡◌, ◌⊎◌, ◌+◌, ◌<◌, ℕ, List, [], ◌∷◌, ◌++◌, length, get_or, take, Contains, inl, inr, sym, subst, ap, ◌∙◌}
use Rattle.std.specs.Prelude.{◌↔◌}
use Rattle.std.proofs.lemmas.Option.{slice_get-get_or}
use Rattle.std.proofs.lemmas.List.{take_more}
use Rattle.std.proofs.lemmas.List.Elements.{Contains-append_left, Contains-push, Contains-push_cases}
use Rattle.slicer_ids.specs.declared.ids.NodeId.{NodeId}
use Rattle.slicer_ids.specs.declared.ids.CallId.{CallId}
use Rattle.slicer_ids.specs.declared.ids.ExitId.{ExitId}
use Rattle.dep_form.specs.declared.facts.Facts.{Facts}
use Rattle.dep_form.specs.declared.node.Edge.{Edge}
use Rattle.dep_form.specs.declared.node.Label.{Label}
use Rattle.dep_form.specs.declared.node.Label.TheVariants.{Thin, Base, Call, Return}
use Rattle.dep_form.specs.Phases.{edge}
use Rattle.dep_form.specs.Summaries.{IsExitAt}
use Rattle.dep_form.proofs.Levels.{some_is}
use Rattle.tabulate.specs.declared.method.Argument.{Argument}
use Rattle.tabulate.specs.declared.method.Back.{Back}
use Rattle.tabulate.specs.Frames.{exits_before}
use Rattle.tabulate.proofs.Placing.{exit_place}
use Rattle.tabulate.specs.Methods.{HasEdge}

pub any_default : {X : Type 0} (xs : List X) (k : ℕ) → k < length xs → (r d e : X) → r ≡ get_or xs k d → r ≡ get_or xs k e
any_default xs k lt r d e is = is ∙ some_is _ _ (sym (slice_get-get_or xs k d lt) ∙ slice_get-get_or xs k e lt)

-- a list and its next item
module _ {X : Type 0} (xs : List X) (i : ℕ) (d x : X) (lt : i < length xs) where
  pub take_to : Contains (take (i + 1) xs) x → Contains (take i xs) x ⊎ (get_or xs i d ≡ x)
  take_to c = Contains-push_cases (take i xs) (get_or xs i d) x (subst (λ (ys : List X). Contains ys x) (take_more xs i d lt) c)

  pub take_from : Contains (take i xs) x ⊎ (get_or xs i d ≡ x) → Contains (take (i + 1) xs) x
  take_from c = subst (λ (ys : List X). Contains ys x) (sym (take_more xs i d lt)) (elim c [
    | inl o ↦ Contains-append_left (take i xs) (get_or xs i d ∷ []) x o
    | inr e ↦ subst (λ (y : X). Contains (take i xs ++ get_or xs i d ∷ []) y) e (Contains-push (take i xs) (get_or xs i d))
  ])

edge_is : (x : Edge) (l : Label) → x.label ≡ l → x ≡ edge x.from l x.to
edge_is x l e = ap (λ (k : Label). edge x.from k x.to) e

-- a call's edge is added
module _ (list list' : List Argument) (x : Edge) (k : CallId) (is : x.label ≡ Call k) (grown : list' ≡ list ++ record { call = k; from = x.from; formal = x.to } ∷ []) (a : Argument) where
  abbrev new : Argument
  new = record { call = k; from = x.from; formal = x.to }

  to : Contains list' a → Contains list a ⊎ (x ≡ edge a.from (Call a.call) a.formal)
  to c = elim (Contains-push_cases list new a (subst (λ (ys : List Argument). Contains ys a) grown c)) [
    | inl o ↦ inl o
    | inr e ↦ inr (subst (λ (b : Argument). x ≡ edge b.from (Call b.call) b.formal) e (edge_is x (Call k) is))
  ]

  same_call : x ≡ edge a.from (Call a.call) a.formal → k ≡ a.call
  same_call e = called (sym is ∙ ap (λ (y : Edge). y.label) e)
    where
      called : Call k ≡ Call a.call → k ≡ a.call
      called h = cc

  same : x ≡ edge a.from (Call a.call) a.formal → new ≡ a
  same e =
      let f : x.from ≡ a.from = ap (λ (y : Edge). y.from) e in
      let t : x.to ≡ a.formal = ap (λ (y : Edge). y.to) e in
      let first : new ≡ record { call = a.call; from = x.from; formal = x.to } = ap (λ (c : CallId). record { call = c; from = x.from; formal = x.to }) (same_call e) in
      let second : ◌≡◌ {A = Argument} (record { call = a.call; from = x.from; formal = x.to }) (record { call = a.call; from = a.from; formal = x.to }) = ap (λ (n : NodeId). record { call = a.call; from = n; formal = x.to }) f in
      let third : ◌≡◌ {A = Argument} (record { call = a.call; from = a.from; formal = x.to }) a = ap (λ (n : NodeId). record { call = a.call; from = a.from; formal = n }) t in
      first ∙ second ∙ third

  from : Contains list a ⊎ (x ≡ edge a.from (Call a.call) a.formal) → Contains list' a
  from c = subst (λ (ys : List Argument). Contains ys a) (sym grown) (elim c [
    | inl o ↦ Contains-append_left list (new ∷ []) a o
    | inr e ↦ subst (λ (b : Argument). Contains (list ++ new ∷ []) b) (same e) (Contains-push list new)
  ])

  pub call_added : Contains list' a ↔ (Contains list a ⊎ (x ≡ edge a.from (Call a.call) a.formal))
  call_added = (to, from)

-- an edge that isn't a call's
pub no_call : (list : List Argument) (x : Edge) (a : Argument) → (x.label ≡ Call a.call → ⊥) → Contains list a ↔ (Contains list a ⊎ (x ≡ edge a.from (Call a.call) a.formal))
no_call list x a no_label = (λ c. inl c, λ c. elim c [ inl o ↦ o | inr e ↦ absurd (no_label (ap (λ (y : Edge). y.label) e)) ])

pub thin_no_call : (x : Edge) (k : CallId) → x.label ≡ Thin → x.label ≡ Call k → ⊥
thin_no_call x k e f = apart (sym e ∙ f)
  where
    apart : Thin ≡ Call k → ⊥
    apart h = absurd cc

pub base_no_call : (x : Edge) (k : CallId) → x.label ≡ Base → x.label ≡ Call k → ⊥
base_no_call x k e f = apart (sym e ∙ f)
  where
    apart : Base ≡ Call k → ⊥
    apart h = absurd cc

pub return_no_call : (x : Edge) (k l : CallId) → x.label ≡ Return l → x.label ≡ Call k → ⊥
return_no_call x k l e f = apart (sym e ∙ f)
  where
    apart : Return l ≡ Call k → ⊥
    apart h = absurd cc

pub thin_no_return : (x : Edge) (k : CallId) → x.label ≡ Thin → x.label ≡ Return k → ⊥
thin_no_return x k e f = apart (sym e ∙ f)
  where
    apart : Thin ≡ Return k → ⊥
    apart h = absurd cc

pub base_no_return : (x : Edge) (k : CallId) → x.label ≡ Base → x.label ≡ Return k → ⊥
base_no_return x k e f = apart (sym e ∙ f)
  where
    apart : Base ≡ Return k → ⊥
    apart h = absurd cc

pub call_no_return : (x : Edge) (k l : CallId) → x.label ≡ Call l → x.label ≡ Return k → ⊥
call_no_return x k l e f = apart (sym e ∙ f)
  where
    apart : Call l ≡ Return k → ⊥
    apart h = absurd cc

-- a return from an exit
abbrev pub IsBackOf : Facts → Edge → Back → Type 0
IsBackOf p x b = (e : NodeId) × IsExitAt p b.exit e × (x ≡ edge e (Return b.call) b.to)

-- a return's edge is added
module _ (p : Facts) (list list' : List Back) (x : Edge) (k : CallId) (d : ExitId) (is : x.label ≡ Return k) (at : IsExitAt p d x.from) (grown : list' ≡ list ++ record { call = k; exit = d; to = x.to } ∷ []) (b : Back) where
  abbrev new_back : Back
  new_back = record { call = k; exit = d; to = x.to }

  back_to : Contains list' b → Contains list b ⊎ IsBackOf p x b
  back_to c = elim (Contains-push_cases list new_back b (subst (λ (ys : List Back). Contains ys b) grown c)) [
    | inl o ↦ inl o
    | inr e ↦ inr (subst (λ (y : Back). IsBackOf p x y) e (x.from, at, edge_is x (Return k) is))
  ]

  back_call : (e : NodeId) → x ≡ edge e (Return b.call) b.to → k ≡ b.call
  back_call e h = called (sym is ∙ ap (λ (y : Edge). y.label) h)
    where
      called : Return k ≡ Return b.call → k ≡ b.call
      called h = cc

  back_exit : (e : NodeId) → IsExitAt p b.exit e → x ≡ edge e (Return b.call) b.to → d ≡ b.exit
  back_exit e h s =
      let f : x.from ≡ e = ap (λ (y : Edge). y.from) s in
      let one : d.0 ≡ b.exit.0 = sym (exit_place p d x.from at) ∙ ap (λ (n : NodeId). exits_before p n.0) f ∙ exit_place p b.exit e h in
      ap (λ (n : ℕ). record { 0 = n }) one

  back_same : IsBackOf p x b → new_back ≡ b
  back_same (e, h, s) =
      let t : x.to ≡ b.to = ap (λ (y : Edge). y.to) s in
      let first : new_back ≡ record { call = b.call; exit = d; to = x.to } = ap (λ (c : CallId). record { call = c; exit = d; to = x.to }) (back_call e s) in
      let second : ◌≡◌ {A = Back} (record { call = b.call; exit = d; to = x.to }) (record { call = b.call; exit = b.exit; to = x.to }) = ap (λ (n : ExitId). record { call = b.call; exit = n; to = x.to }) (back_exit e h s) in
      let third : ◌≡◌ {A = Back} (record { call = b.call; exit = b.exit; to = x.to }) b = ap (λ (n : NodeId). record { call = b.call; exit = b.exit; to = n }) t in
      first ∙ second ∙ third

  back_from : Contains list b ⊎ IsBackOf p x b → Contains list' b
  back_from c = subst (λ (ys : List Back). Contains ys b) (sym grown) (elim c [
    | inl o ↦ Contains-append_left list (new_back ∷ []) b o
    | inr e ↦ subst (λ (y : Back). Contains (list ++ new_back ∷ []) y) (back_same e) (Contains-push list new_back)
  ])

  pub return_added : Contains list' b ↔ (Contains list b ⊎ IsBackOf p x b)
  return_added = (back_to, back_from)

pub no_return : (p : Facts) (list : List Back) (x : Edge) (b : Back) → ((e : NodeId) → IsExitAt p b.exit e → x ≡ edge e (Return b.call) b.to → ⊥) → Contains list b ↔ (Contains list b ⊎ IsBackOf p x b)
no_return p list x b no_edge = (λ c. inl c, λ c. elim c [ inl o ↦ o | inr e ↦ absurd (no_edge e.0 e.1 e.2) ])

-- the loops over the edges of a node
pub arguments_more : (into into' start : List Argument) (edges : List Edge) (i : ℕ) (d : Edge) (lt : i < length edges) → ((a : Argument) → Contains into a ↔ (Contains start a ⊎ Contains (take i edges) (edge a.from (Call a.call) a.formal)))
    → ((a : Argument) → Contains into' a ↔ (Contains into a ⊎ (get_or edges i d ≡ edge a.from (Call a.call) a.formal))) → (a : Argument) → Contains into' a ↔ (Contains start a ⊎ Contains (take (i + 1) edges) (edge a.from (Call a.call) a.formal))
arguments_more into into' start edges i d lt old new a = (
  λ c. elim ((new a).0 c) [ inl o ↦ elim ((old a).0 o) [ inl s ↦ inl s | inr t ↦ inr (take_from edges i d _ lt (inl t)) ] | inr e ↦ inr (take_from edges i d _ lt (inr e)) ],
  λ c. elim c [ inl s ↦ (new a).1 (inl ((old a).1 (inl s))) | inr t ↦ elim (take_to edges i d _ lt t) [ inl o ↦ (new a).1 (inl ((old a).1 (inr o))) | inr e ↦ (new a).1 (inr e) ] ],
)

pub backs_more : (p : Facts) (into into' start : List Back) (edges : List Edge) (i : ℕ) (d : Edge) (lt : i < length edges) → ((b : Back) → Contains into b ↔ (Contains start b ⊎ ((e : NodeId) × IsExitAt p b.exit e × Contains (take i edges) (edge e (Return b.call) b.to))))
    → ((b : Back) → Contains into' b ↔ (Contains into b ⊎ IsBackOf p (get_or edges i d) b)) → (b : Back) → Contains into' b ↔ (Contains start b ⊎ ((e : NodeId) × IsExitAt p b.exit e × Contains (take (i + 1) edges) (edge e (Return b.call) b.to)))
backs_more p into into' start edges i d lt old new b = (
  λ c. elim ((new b).0 c) [ inl o ↦ elim ((old b).0 o) [ inl s ↦ inl s | inr t ↦ inr (t.0, t.1, take_from edges i d _ lt (inl t.2)) ] | inr e ↦ inr (e.0, e.1, take_from edges i d _ lt (inr e.2)) ],
  λ c. elim c [ inl s ↦ (new b).1 (inl ((old b).1 (inl s))) | inr t ↦ elim (take_to edges i d _ lt t.2) [ inl o ↦ (new b).1 (inl ((old b).1 (inr (t.0, t.1, o)))) | inr e ↦ (new b).1 (inr (t.0, t.1, e)) ] ],
)

-- the loops over nodes
pub lists_more : (lists : List (List Edge)) (i : ℕ) (d es : List Edge) (x : Edge) (lt : i < length lists) → es ≡ get_or lists i d → HasEdge (take (i + 1) lists) x ↔ (HasEdge (take i lists) x ⊎ Contains es x)
lists_more lists i d es x lt is = (
  λ h. elim (take_to lists i d h.0 lt h.1) [ inl o ↦ inl (h.0, o, h.2) | inr e ↦ inr (subst (λ (ys : List Edge). Contains ys x) (sym (is ∙ e)) h.2) ],
  λ c. elim c [ inl h ↦ (h.0, take_from lists i d h.0 lt (inl h.1), h.2) | inr m ↦ (es, take_from lists i d es lt (inr (sym is)), m) ],
)

pub arguments_all : (into into' : List Argument) (lists : List (List Edge)) (i : ℕ) (d es : List Edge) (lt : i < length lists) (is : es ≡ get_or lists i d) → ((a : Argument) → Contains into a ↔ HasEdge (take i lists) (edge a.from (Call a.call) a.formal))
    → ((a : Argument) → Contains into' a ↔ (Contains into a ⊎ Contains es (edge a.from (Call a.call) a.formal))) → (a : Argument) → Contains into' a ↔ HasEdge (take (i + 1) lists) (edge a.from (Call a.call) a.formal)
arguments_all into into' lists i d es lt is old new a =
    let m = lists_more lists i d es (edge a.from (Call a.call) a.formal) lt is in (
      λ c. m.1 (elim ((new a).0 c) [ inl o ↦ inl ((old a).0 o) | inr e ↦ inr e ]),
      λ h. elim (m.0 h) [ inl o ↦ (new a).1 (inl ((old a).1 o)) | inr e ↦ (new a).1 (inr e) ],
    )

pub backs_all : (p : Facts) (into into' : List Back) (lists : List (List Edge)) (i : ℕ) (d es : List Edge) (lt : i < length lists) (is : es ≡ get_or lists i d) → ((b : Back) → Contains into b ↔ ((e : NodeId) × IsExitAt p b.exit e × HasEdge (take i lists) (edge e (Return b.call) b.to)))
    → ((b : Back) → Contains into' b ↔ (Contains into b ⊎ ((e : NodeId) × IsExitAt p b.exit e × Contains es (edge e (Return b.call) b.to)))) → (b : Back) → Contains into' b ↔ ((e : NodeId) × IsExitAt p b.exit e × HasEdge (take (i + 1) lists) (edge e (Return b.call) b.to))
backs_all p into into' lists i d es lt is old new b = (
  λ c. elim ((new b).0 c) [ inl o ↦ let h = (old b).0 o in (h.0, h.1, (lists_more lists i d es _ lt is).1 (inl h.2)) | inr e ↦ (e.0, e.1, (lists_more lists i d es _ lt is).1 (inr e.2)) ],
  λ h. elim ((lists_more lists i d es _ lt is).0 h.2) [ inl o ↦ (new b).1 (inl ((old b).1 (h.0, h.1, o))) | inr e ↦ (new b).1 (inr (h.0, h.1, e)) ],
)

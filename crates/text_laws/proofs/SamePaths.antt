-- A path over edges of the one facts is one over edges of the others, where each edge has its counterpart.
use Rattle.std.proofs.Common.{◌≡◌, true, eqb, List, [], ◌∷◌, Some, refl, sym, ap, subst, ◌∙◌}
use Rattle.std.proofs.Common.{eq-eqb}
use Rattle.std.specs.Prelude.{slice_get}
use Rattle.std.proofs.lemmas.Option.{same_Some, cond_some}
use Rattle.slicer_ids.specs.declared.ids.NodeId.{NodeId}
use Rattle.slicer_ids.specs.declared.ids.CallId.{CallId}
use Rattle.dep_form.specs.declared.node.Edge.{Edge}
use Rattle.dep_form.specs.declared.node.Label.{Label}
use Rattle.dep_form.specs.declared.node.Label.TheVariants.{Return}
use Rattle.dep_form.specs.declared.facts.Facts.{Facts}
use Rattle.dep_form.specs.Paths.{IsPath, after, after_label, IsInSlice}
use Rattle.dep_form.specs.Phases.{edge}
use Rattle.dep_form.proofs.Levels.{and_then_some, some_from, same_call}
use Rattle.program_form.specs.Nodes.{Node}
use Rattle.program_form.specs.Dependences.{Caller, Dependence}
use Rattle.program_form.specs.Graphs.{Numbering, LabelNumber, flow, base, into, back}
use Rattle.text_laws.proofs.SameNodes.{Same}

-- the calls that are open are those of one list of callers
pub data SameCalls (ns ms : Numbering) : List CallId → List CallId → Type 0 where
  none : SameCalls ns ms [] []
  more : {c d : CallId} {cs ds : List CallId} (who : Caller) → slice_get ns.calls c.0 ≡ Some who → slice_get ms.calls d.0 ≡ Some who →
      SameCalls ns ms cs ds → SameCalls ns ms (c ∷ cs) (d ∷ ds)

-- callers have one number each
abbrev pub AreNumberedOnce : Numbering → Type 0
AreNumberedOnce ms = (c d : CallId) (who : Caller) → slice_get ms.calls c.0 ≡ Some who → slice_get ms.calls d.0 ≡ Some who → c ≡ d

-- the counterpart of an edge: it starts in the other number of the node, ends in that of the node where the edge ends, and is
-- followed in the same way
pub record Next (ns ms : Numbering) (f g : Facts) (E : Edge → Type 0) (e : Edge) (y : NodeId) : Type 0 where
  pub how : Dependence
  pub label : Label
  pub end : Node
  pub to : NodeId
  pub same : Same ns ms f g end e.to to
  pub old : LabelNumber ns how e.label
  pub new : LabelNumber ms how label
  pub is : E (edge y label to)

module _ (ns ms : Numbering) (once : AreNumberedOnce ms) where
  -- the calls that are open after an edge
  abbrev Opens : List CallId → List CallId → Label → Type 0
  Opens now ds l = (then : List CallId) × (after_label true ds l ≡ Some then) × SameCalls ns ms now then

  return_from : (n m : CallId) (cs ds now : List CallId) (who : Caller) → SameCalls ns ms cs ds → slice_get ns.calls n.0 ≡ Some who →
      slice_get ms.calls m.0 ≡ Some who → after_label true cs (Return n) ≡ Some now → Opens now ds (Return m)
  return_from n m _ _ now who none at there h = ([], refl, subst (λ z. SameCalls ns ms z []) (same_Some [] now h) none)
  return_from n m _ _ now who (more {c} {d} {cs} {ds} other p q rest) at there h =
      let g = cond_some (eqb n.0 c.0) cs now h in
      let called : who ≡ other = same_Some who other (sym at ∙ ap (λ (z : CallId). slice_get ns.calls z.0) (same_call n c g.0) ∙ p) in
      let one : m ≡ d = once m d other (there ∙ ap Some called) q in
      let goes : eqb m.0 d.0 ≡ true = eq-eqb m.0 d.0 (ap (λ (z : CallId). z.0) one) in
      (ds, rw goes refl, subst (λ z. SameCalls ns ms z ds) g.1 rest)

  opens : {how : Dependence} {l k : Label} (cs ds now : List CallId) → SameCalls ns ms cs ds → LabelNumber ns how l → LabelNumber ms how k →
      after_label true cs l ≡ Some now → Opens now ds k
  opens cs ds now same flow flow h = (ds, refl, subst (λ z. SameCalls ns ms z ds) (same_Some cs now h) same)
  opens cs ds now same base base h = (ds, refl, subst (λ z. SameCalls ns ms z ds) (same_Some cs now h) same)
  opens cs ds now same (into {c} {n} at) (into {n = m} there) h = (m ∷ ds, refl, subst (λ z. SameCalls ns ms z (m ∷ ds)) (same_Some (n ∷ cs) now h) (more c at there same))
  opens cs ds now same (back {c} {n} at) (back {n = m} there) h = return_from n m cs ds now c same at there h

  module _ (f g : Facts) (E F : Edge → Type 0) (step : (e : Edge) (a : Node) (y : NodeId) → E e → Same ns ms f g a e.from y → Next ns ms f g F e y) where
    -- the path from the other number, with the calls that are open
    abbrev Goes : NodeId → List CallId → NodeId → Type 0
    Goes y ds b = (es : List Edge) × (a : Node) × (c : NodeId) × (last : List CallId) × Same ns ms f g a b c × IsPath F y es c × (after true ds es ≡ Some last)

    goes : (es : List Edge) (x b y : NodeId) (a : Node) (cs ds last : List CallId) → Same ns ms f g a x y → SameCalls ns ms cs ds → IsPath E x es b →
        after true cs es ≡ Some last → Goes y ds b
    goes [] x b y a cs ds last same calls path h = ([], a, y, ds, subst (λ n. Same ns ms f g a n y) path same, refl, refl)
    goes (e ∷ es) x b y a cs ds last same calls path h =
        let s = and_then_some (λ now. after true now es) (after_label true cs e.label) last h in
        let n = step e a y path.1 (subst (λ z. Same ns ms f g a z y) (sym path.0) same) in
        let o = opens cs ds s.0 calls n.old n.new s.1 in
        let rest = goes es e.to b n.to n.end s.0 o.0 last n.same o.2 path.2 s.2 in
        (edge y n.label n.to ∷ rest.0, rest.1, rest.2, rest.3, rest.4, (refl, n.is, rest.5), rw o.1 rest.6)

    -- a node is in the slice by its other number, where the seeds are the same
    pub in_slice : (S T : NodeId → Type 0) → ((a : Node) (n m : NodeId) → Same ns ms f g a n m → S n → T m) → (a : Node) (x y : NodeId) → Same ns ms f g a x y →
        IsInSlice E S x → IsInSlice F T y
    in_slice S T seeds a x y same (b, seed, path) =
        let s = some_from (after true [] path.0) path.2 in
        let r = goes path.0 x b y a [] [] s.0 same none path.1 s.1 in
        (r.2, seeds r.1 b r.2 r.4 seed, (r.0, r.5, rw r.6 refl))

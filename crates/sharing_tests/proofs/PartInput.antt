-- What an input of a small program keeps.
use Rattle.std.proofs.Common.{◌≡◌, ◌<◌, ◌≤◌, ◌+◌, ℕ, zero, suc, Bool, true, false, cond, List, [], ◌∷◌, length, get_or, Contains, refl, sym, ap, ◌∙◌, subst, arith, leb, ltb}
use Rattle.std.specs.Prelude.{◌&&◌, nat_le, nat_lt}
use Rattle.std.specs.List.Sorted.{IsPartitionedBy}
use Rattle.std.proofs.lemmas.Bool.{false≢true, leb-true, ltb-true}
use Rattle.std.proofs.lemmas.List.Elements.{Contains-get_or}
use Rattle.slicer_ids.specs.declared.ids.NodeId.{NodeId}
use Rattle.dep_form.specs.declared.node.Node.{Node}
use Rattle.dep_form.specs.declared.node.Edge.{Edge}
use Rattle.dep_form.specs.Nodes.{is_formal}
use Rattle.dep_form.specs.Among.{IsAmong}
use Rattle.sharing_tests.specs.Parts.{all_of, formals_lead, is_input}
use Rattle.sharing_tests.proofs.PartFacts.{and_both, all_at}

none_formal : (k : Node) → cond (is_formal k) false true ≡ true → is_formal k ≡ true → ⊥
none_formal k e f = false≢true (sym (ap (λ (b : Bool). cond b false true) f) ∙ e)

-- the formals come first
pub formals_first : (ks : List Node) → formals_lead ks ≡ true → IsPartitionedBy is_formal ks
formals_first [] e = λ i j d le lt f. absurd (omega (arith, lt))
formals_first (k ∷ ks) e = go (formals_first ks) (is_formal k) refl e
  where
    go : (formals_lead ks ≡ true → IsPartitionedBy is_formal ks) → (b : Bool) → is_formal k ≡ b → cond b (formals_lead ks) (all_of (λ (x : Node). cond (is_formal x) false true) ks) ≡ true → IsPartitionedBy is_formal (k ∷ ks)
    go rest true h t zero j d le lt f = h
    go rest true h t (suc i) zero d le lt f = absurd (omega (arith, le))
    go rest true h t (suc i) (suc j) d le lt f = rest t i j d (omega (arith, le)) (omega (arith, lt)) f
    go rest false h t i zero d le lt f = absurd (false≢true (sym h ∙ f))
    go rest false h t i (suc j) d le lt f = absurd (none_formal (get_or ks j d) (all_at (λ (x : Node). cond (is_formal x) false true) ks t (get_or ks j d) (Contains-get_or ks j d (omega (arith, lt)))) f)

module _ (first : ℕ) (nodes : List Node) (edges : List Edge) (checked : is_input first nodes edges ≡ true) where
  parts : (leb (first + length nodes) 1000 ≡ true) × ((formals_lead nodes && all_of (λ (e : Edge). nat_le first e.to.0 && nat_lt e.to.0 (first + length nodes)) edges) ≡ true)
  parts = and_both (leb (first + length nodes) 1000) (formals_lead nodes && all_of (λ (e : Edge). nat_le first e.to.0 && nat_lt e.to.0 (first + length nodes)) edges) checked

  more : (formals_lead nodes ≡ true) × (all_of (λ (e : Edge). nat_le first e.to.0 && nat_lt e.to.0 (first + length nodes)) edges ≡ true)
  more = and_both (formals_lead nodes) (all_of (λ (e : Edge). nat_le first e.to.0 && nat_lt e.to.0 (first + length nodes)) edges) parts.1

  pub small : first + length nodes ≤ 1000
  small = leb-true (first + length nodes) 1000 parts.0

  pub leading : IsPartitionedBy is_formal nodes
  leading = formals_first nodes more.0

  pub ending : (e : Edge) → Contains edges e → IsAmong first nodes e.to.0
  ending e c =
      let b = and_both (nat_le first e.to.0) (nat_lt e.to.0 (first + length nodes)) (all_at (λ (g : Edge). nat_le first g.to.0 && nat_lt g.to.0 (first + length nodes)) edges more.1 e c) in
      (leb-true first e.to.0 b.0, ltb-true e.to.0 (first + length nodes) b.1)

-- The table of same-level paths: each pair has its path, and each path is found.
use Rattle.std.proofs.Common.{◌≡◌, ℕ, ◌+◌, ◌<◌, ◌≤◌, true, false, List, [], length, Contains, inl, inr, refl, sym, ap, subst, arith, eq-eqb}
use Rattle.std.proofs.lemmas.Bool.{cases_lt}
use Rattle.std.proofs.lemmas.List.Elements.{All-contains}
use Rattle.slicer_ids.specs.declared.ids.NodeId.{NodeId}
use Rattle.dep_form.specs.declared.node.Edge.{Edge}
use Rattle.dep_form.specs.declared.node.Label.{Label}
use Rattle.dep_form.specs.declared.node.Label.TheVariants.{Thin, Base, Call, Return}
use Rattle.dep_form.specs.Paths.{HasSameLevelPath}
use Rattle.dep_form.specs.Phases.{edge, Level, stay, thin, base, call}
use Rattle.dep_form.proofs.Levels.{closes, listed, same_call}
use Rattle.worklists.specs.Growth.{Grows}
use Rattle.worklists.proofs.Growing.{Grows-kept}
use Rattle.worklists.proofs.Closing.{Closing, taken_all}
use Rattle.plain_slice.specs.declared.table.Pair.{Pair}
use Rattle.plain_slice.specs.Tables.{pair}
use Rattle.plain_slice.specs.Rules.{AreBelow, node, is_flow, is_call_of, Follows, Joins}

-- a same-level path leads from the pair's node to its place
abbrev pub IsLevel : List Edge → Pair → Type 0
IsLevel edges p = Level (Contains edges) (node p.node) (node p.place)

flow_level : (E : Edge → Type 0) (l : Label) (a b x : NodeId) → is_flow l ≡ true → E (edge a l b) → Level E b x → Level E a x
flow_level E Thin a b x h e p = thin e p
flow_level E Base a b x h e p = base e p
flow_level E (Call k) a b x h e p = absurd cc
flow_level E (Return k) a b x h e p = absurd cc

whole_level : (E : Edge → Type 0) (l m : Label) (a b c d x : NodeId) → is_call_of l m ≡ true → E (edge a l b) → Level E b c → E (edge c m d) → Level E d x → Level E a x
whole_level E Thin m a b c d x h e p f q = absurd cc
whole_level E Base m a b c d x h e p f q = absurd cc
whole_level E (Return k) m a b c d x h e p f q = absurd cc
whole_level E (Call k) Thin a b c d x h e p f q = absurd cc
whole_level E (Call k) Base a b c d x h e p f q = absurd cc
whole_level E (Call k) (Call j) a b c d x h e p f q = absurd cc
whole_level E (Call k) (Return j) a b c d x h e p f q = call e p (subst (λ i. E (edge c (Return i) d)) (sym (same_call k j h)) f) q

pub by_one : (edges : List Edge) (p q : Pair) → IsLevel edges p → Follows edges p q → IsLevel edges q
by_one edges p q good f =
    let e = f.0 in
    rw f.2.2 (flow_level (Contains edges) e.label e.from (node p.node) (node p.place) f.2.0 (subst (λ n. Contains edges (edge e.from e.label n)) (ap node f.2.1) f.1) good)

pub by_two : (edges : List Edge) (p q r : Pair) → IsLevel edges p → IsLevel edges q → Joins edges p q r → IsLevel edges r
by_two edges p q r outer inner j =
    let back = j.0 in
    let into = j.2.0 in
    let w = j.2.2.0 in
    let f = subst (λ n. Contains edges (edge into.from into.label n)) (ap node w.0) j.2.1 in
    let g = subst (λ n. Contains edges (edge n back.label (node p.node))) (ap node w.1) (subst (λ n. Contains edges (edge back.from back.label n)) (ap node w.2) j.1) in
    rw j.2.2.1 (whole_level (Contains edges) into.label back.label into.from (node q.node) (node q.place) (node p.node) (node p.place) w.3 f inner g outer)

-- each node below the size has its empty path
abbrev pub HasOwn : ℕ → List Pair → Type 0
HasOwn size pairs = (n : ℕ) → n < size → Contains pairs (pair n n)

module _ (edges : List Edge) (size : ℕ) (below : AreBelow size edges) (next : ℕ) (pairs : List Pair) (le : length pairs ≤ next)
    (t : Closing (IsLevel edges) (Follows edges) (Joins edges) next pairs) (own : HasOwn size pairs) where
  pub found : {a x : NodeId} → Level (Contains edges) a x → x.0 < size → Contains pairs (pair a.0 x.0)
  found (stay {a}) lt = own a.0 lt
  found (thin {a} {b} {c} e x) lt =
      t.one (pair b.0 c.0) (pair a.0 c.0) (taken_all next pairs le (pair b.0 c.0) (found x lt)) (edge a Thin b, e, (refl, refl, refl))
  found (base {a} {b} {c} e x) lt =
      t.one (pair b.0 c.0) (pair a.0 c.0) (taken_all next pairs le (pair b.0 c.0) (found x lt)) (edge a Base b, e, (refl, refl, refl))
  found (call {a} {b} {c} {d} {e} {k} f x r y) lt =
      let ends : c.0 < size = (All-contains (λ (g : Edge). (g.from.0 < size) × (g.to.0 < size)) edges (edge c (Return k) d) below r).0 in
      t.two (pair d.0 e.0) (pair b.0 c.0) (pair a.0 e.0) (taken_all next pairs le (pair d.0 e.0) (found y lt)) (taken_all next pairs le (pair b.0 c.0) (found x ends))
      (edge c (Return k) d, r, (edge a (Call k) b, f, ((refl, refl, refl, eq-eqb k.0 k.0 refl), refl)))

  pub exact : (n x : ℕ) → x < size → (Contains pairs (pair n x) → HasSameLevelPath (Contains edges) (node n) (node x)) × (HasSameLevelPath (Contains edges) (node n) (node x) → Contains pairs (pair n x))
  exact n x lt = (λ c. let r = listed (Contains edges) (t.each (pair n x) c) in (r.0, r.1, r.2 false []), λ p. found (closes (Contains edges) p.0 [] (node n) (node x) p.1 p.2) lt)

-- ---- the empty paths
pub none_yet : (edges : List Edge) → Closing (IsLevel edges) (Follows edges) (Joins edges) 0 []
none_yet edges = record {
  each = λ p c. absurd (omega (arith, c.1));
  one = λ p q c h. absurd (omega (arith, c.1));
  two = λ p q r c d h. absurd (omega (arith, c.1));
  within = omega arith;
}

pub begins : (edges : List Edge) (n : ℕ) (old new : List Pair) → Grows old new (λ p. p ≡ pair n n) → Closing (IsLevel edges) (Follows edges) (Joins edges) 0 old → Closing (IsLevel edges) (Follows edges) (Joins edges) 0 new
begins edges n old new grown t = record {
  each = λ p c. elim (grown.only p c) [ inl o ↦ t.each p o | inr is ↦ rw is stay ];
  one = λ p q c h. absurd (omega (arith, c.1));
  two = λ p q r c d h. absurd (omega (arith, c.1));
  within = omega arith;
}

pub one_more : (n : ℕ) (old new : List Pair) → Grows old new (λ p. p ≡ pair n n) → HasOwn n old → HasOwn (n + 1) new
one_more n old new grown own m lt = elim (cases_lt m n) [
  | inl before ↦ Grows-kept old new (λ p. p ≡ pair n n) grown (pair m m) (own m before)
  | inr past ↦ let is : m ≡ n = omega arith in grown.all (pair m m) (ap (λ k. pair k k) is)
]

pub still_own : (size : ℕ) (old new : List Pair) (P : Pair → Type 0) → Grows old new P → HasOwn size old → HasOwn size new
still_own size old new P grown own n lt = Grows-kept old new P grown (pair n n) (own n lt)

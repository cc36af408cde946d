-- A shape has one table of definitions.
use Rattle.std.proofs.Common.{◌≡◌, ◌<◌, ◌≤◌, ◌+◌, ◌-◌, ℕ, zero, suc, List, [], ◌∷◌, drop, map, length, get_or, AllPairs, Contains, Some, ◌⊎◌, inl, inr, refl, sym, ap, subst, ◌∙◌, arith}
use Rattle.std.specs.Prelude.{slice_get}
use Rattle.std.specs.List.{slice_range}
use Rattle.std.proofs.lemmas.Option.{slice_get-get_or, get_or_from_slice_get, same_Some}
use Rattle.std.proofs.lemmas.List.{get_or-take, get_or-drop, length-take, length-drop}
use Rattle.std.proofs.Props.{props}
use Rattle.class_form.specs.declared.body.Shape.{Shape}
use Rattle.class_form.specs.declared.body.Def.{Def}
use Rattle.class_form.specs.declared.body.Def.TheVariants.{Formal, Value, Caught}
use Rattle.class_form.specs.declared.reach.Reach.{Reach}
use Rattle.class_form.specs.Reaching.{HoldsAt}
use Rattle.class_form.specs.Reaches.{DefBefore, IsReachOf}
use Rattle.class_form.proofs.Indices.{index_in, there_at, same_list}
use Rattle.body_form.proofs.Runs.{PlaceBefore, AreInOrder, before_or_same, run, inside, run_defs}

-- a place with one of its definitions
abbrev Fact : Type 0
Fact = (ℕ × ℕ) × Def

abbrev FactBefore : Fact → Fact → Type 0
FactBefore a b = PlaceBefore a.0 b.0 ⊎ ((a.0 ≡ b.0) × DefBefore a.1 b.1)

def_asym : (d e : Def) → DefBefore d e → DefBefore e d → ⊥
def_asym (Formal i) (Formal j) p q = absurd (omega arith)
def_asym (Formal i) (Value j) p q = q
def_asym (Formal i) (Caught j) p q = q
def_asym (Value i) (Formal j) p q = p
def_asym (Value i) (Value j) p q = absurd (omega arith)
def_asym (Value i) (Caught j) p q = q
def_asym (Caught i) (Formal j) p q = p
def_asym (Caught i) (Value j) p q = p
def_asym (Caught i) (Caught j) p q = absurd (omega arith)

places_asym : (x y : ℕ × ℕ) → PlaceBefore x y → PlaceBefore y x → ⊥
places_asym x y (inl p) (inl q) = absurd (omega arith)
places_asym x y (inl p) (inr q) = let e = q.0 in absurd (omega arith)
places_asym x y (inr p) (inl q) = let e = p.0 in absurd (omega arith)
places_asym x y (inr p) (inr q) = let a = p.1 in let b = q.1 in absurd (omega arith)

fact_asym : (a b : Fact) → FactBefore a b → FactBefore b a → ⊥
fact_asym a b (inl p) (inl q) = places_asym a.0 b.0 p q
fact_asym a b (inl p) (inr q) = let r : PlaceBefore a.0 a.0 = subst (PlaceBefore a.0) q.0 p in places_asym a.0 a.0 r r
fact_asym a b (inr p) (inl q) = let r : PlaceBefore b.0 b.0 = subst (PlaceBefore b.0) p.0 q in places_asym b.0 b.0 r r
fact_asym a b (inr p) (inr q) = def_asym a.1 b.1 p.1 q.1

-- PLACES AND DEFINITIONS IN PAIRS

paired : List (ℕ × ℕ) → List Def → List Fact
paired [] ds = []
paired (x ∷ xs) [] = []
paired (x ∷ xs) (d ∷ ds) = (x, d) ∷ paired xs ds

pair_at : (xs : List (ℕ × ℕ)) (ds : List Def) (k : ℕ) (x : ℕ × ℕ) (d : Def) → slice_get xs k ≡ Some x → slice_get ds k ≡ Some d → slice_get (paired xs ds) k ≡ Some (x, d)
unfolding paired
pair_at [] ds k x d e f = absurd cc
pair_at (y ∷ xs) [] k x d e f = absurd cc
pair_at (y ∷ xs) (c ∷ ds) zero x d e f = rw (same_Some y x e, same_Some c d f) refl
pair_at (y ∷ xs) (c ∷ ds) (suc k) x d e f = pair_at xs ds k x d e f

parts_at : (xs : List (ℕ × ℕ)) (ds : List Def) (k : ℕ) (f : Fact) → slice_get (paired xs ds) k ≡ Some f → (slice_get xs k ≡ Some f.0) × (slice_get ds k ≡ Some f.1)
unfolding paired
parts_at [] ds k f e = absurd cc
parts_at (x ∷ xs) [] k f e = absurd cc
parts_at (x ∷ xs) (d ∷ ds) zero f e = let same : (x, d) ≡ f = same_Some (x, d) f e in (ap (λ (g : Fact). Some g.0) same, ap (λ (g : Fact). Some g.1) same)
parts_at (x ∷ xs) (d ∷ ds) (suc k) f e = parts_at xs ds k f e

firsts : (xs : List (ℕ × ℕ)) (ds : List Def) → length ds ≡ length xs → map (λ (f : Fact). f.0) (paired xs ds) ≡ xs
unfolding paired
firsts [] ds e = refl
firsts (x ∷ xs) [] e = absurd (omega (arith, e))
firsts (x ∷ xs) (d ∷ ds) e = ap (λ zs. x ∷ zs) (firsts xs ds (omega (arith, e)))

seconds : (xs : List (ℕ × ℕ)) (ds : List Def) → length ds ≡ length xs → map (λ (f : Fact). f.1) (paired xs ds) ≡ ds
unfolding paired
seconds [] [] e = refl
seconds [] (d ∷ ds) e = absurd (omega (arith, e))
seconds (x ∷ xs) [] e = absurd (omega (arith, e))
seconds (x ∷ xs) (d ∷ ds) e = ap (λ zs. d ∷ zs) (seconds xs ds (omega (arith, e)))

-- WHAT A TABLE SAYS

range_at : (ds : List Def) (low high i : ℕ) (d : Def) → low + i < high → high ≤ length ds → (i < length (slice_range ds low high)) × (get_or (slice_range ds low high) i d ≡ get_or ds (low + i) d)
range_at ds low high i d lt within = (
  omega (arith, length-take (high - low) (drop low ds), length-drop low ds),
  get_or-take (high - low) (drop low ds) i d (omega arith) ∙ get_or-drop low ds i d,
)

range_short : (ds : List Def) (low high : ℕ) → length (slice_range ds low high) ≤ high - low
range_short ds low high = omega (arith, length-take (high - low) (drop low ds))

module _ (s : Shape) (r : Reach) (is : IsReachOf s r) where
  abbrev facts : List Fact
  facts = paired r.places r.defs

  -- two definitions of one place
  one_place : (at : ℕ × ℕ) (j k : ℕ) (d e : Def) → j < k → slice_get r.places j ≡ Some at → slice_get r.places k ≡ Some at → slice_get r.defs j ≡ Some d → slice_get r.defs k ≡ Some e → DefBefore d e
  one_place at j k d e lt pj pk dj dk =
      let u = run r.places r.ordered at in
      let o = is at.0 at.1 (slice_range r.defs u.0 u.1) (run_defs r at.0 at.1 u.0 u.1 u.2) in
      let a = inside r at.0 at.1 u.0 u.1 u.2 j pj in
      let b = inside r at.0 at.1 u.0 u.1 u.2 k pk in
      let within : u.1 ≤ length r.defs = omega (arith, u.2.within, r.even) in
      let ra = range_at r.defs u.0 u.1 (j - u.0) d (omega (arith, a.0, a.1)) within in
      let rb = range_at r.defs u.0 u.1 (k - u.0) d (omega (arith, b.0, b.1)) within in
      let ja : u.0 + (j - u.0) ≡ j = omega (arith, a.0) in
      let kb : u.0 + (k - u.0) ≡ k = omega (arith, b.0) in
      let ea : get_or (slice_range r.defs u.0 u.1) (j - u.0) d ≡ d = ra.1 ∙ ap (λ (n : ℕ). get_or r.defs n d) ja ∙ get_or_from_slice_get r.defs j d d dj in
      let eb : get_or (slice_range r.defs u.0 u.1) (k - u.0) d ≡ e = rb.1 ∙ ap (λ (n : ℕ). get_or r.defs n d) kb ∙ get_or_from_slice_get r.defs k e d dk in
      subst (λ (x : Def). DefBefore x e) ea (subst (DefBefore (get_or (slice_range r.defs u.0 u.1) (j - u.0) d)) eb (o.order (j - u.0) (k - u.0) d (omega (arith, a.0)) rb.0))

  in_order : AllPairs FactBefore facts
  in_order j k d lt within =
      let a = get_or facts j d in
      let b = get_or facts k d in
      let pa = parts_at r.places r.defs j a (slice_get-get_or facts j d (omega arith)) in
      let pb = parts_at r.places r.defs k b (slice_get-get_or facts k d within) in
      elim (before_or_same a.0 b.0 (r.ordered j k a.0 b.0 lt pa.0 pb.0)) [
        | inl before ↦ inl before
        | inr same ↦ inr (same, one_place a.0 j k a.1 b.1 lt pa.0 (pb.0 ∙ ap (λ (x : ℕ × ℕ). Some x) (sym same)) pa.1 pb.1)
      ]

  holds : (f : Fact) → Contains facts f → HoldsAt s f.0.0 f.0.1 f.1
  holds f c =
      let i = index_in facts f c in
      let p = parts_at r.places r.defs i.0 f i.1 in
      let u = run r.places r.ordered f.0 in
      let o = is f.0.0 f.0.1 (slice_range r.defs u.0 u.1) (run_defs r f.0.0 f.0.1 u.0 u.1 u.2) in
      let a = inside r f.0.0 f.0.1 u.0 u.1 u.2 i.0 p.0 in
      let within : u.1 ≤ length r.defs = omega (arith, u.2.within, r.even) in
      let t = range_at r.defs u.0 u.1 (i.0 - u.0) f.1 (omega (arith, a.0, a.1)) within in
      let at : u.0 + (i.0 - u.0) ≡ i.0 = omega (arith, a.0) in
      let e : get_or (slice_range r.defs u.0 u.1) (i.0 - u.0) f.1 ≡ f.1 = t.1 ∙ ap (λ (n : ℕ). get_or r.defs n f.1) at ∙ get_or_from_slice_get r.defs i.0 f.1 f.1 p.1 in
      subst (HoldsAt s f.0.0 f.0.1) e (o.each (i.0 - u.0) f.1 t.0)

  stands : (f : Fact) → HoldsAt s f.0.0 f.0.1 f.1 → Contains facts f
  stands f h =
      let u = run r.places r.ordered f.0 in
      let ds = slice_range r.defs u.0 u.1 in
      let o = is f.0.0 f.0.1 ds (run_defs r f.0.0 f.0.1 u.0 u.1 u.2) in
      let c = o.whole f.1 h in
      let lt : u.0 + c.0 < u.1 = omega (arith, c.1, range_short r.defs u.0 u.1) in
      let within : u.1 ≤ length r.defs = omega (arith, u.2.within, r.even) in
      let t = range_at r.defs u.0 u.1 c.0 f.1 lt within in
      let d : slice_get r.defs (u.0 + c.0) ≡ Some f.1 = slice_get-get_or r.defs (u.0 + c.0) f.1 (omega arith) ∙ ap (λ (x : Def). Some x) (sym t.1 ∙ c.2) in
      there_at facts (u.0 + c.0) f (pair_at r.places r.defs (u.0 + c.0) f.0 f.1 (u.2.here (u.0 + c.0) (omega arith) lt) d)

-- ONE TABLE

abbrev Even : List (ℕ × ℕ) → List Def → Type 0
Even places defs = length defs ≡ length places

even_prop : (places : List (ℕ × ℕ)) (defs : List Def) (a b : Even places defs) → a ≡ b
even_prop places defs = let h : IsProp (length defs ≡ length places) = (hlevel props) in h

order_prop : (places : List (ℕ × ℕ)) (a b : AreInOrder places) → a ≡ b
order_prop places = let h : IsProp (AreInOrder places) = (hlevel props) in h

abbrev table : (places : List (ℕ × ℕ)) (defs : List Def) → Even places defs → AreInOrder places → Reach
table places defs even ordered = record { places = places; defs = defs; even = even; ordered = ordered }

same_table : (xs : List (ℕ × ℕ)) (ds : List Def) (p : Even xs ds) (o : AreInOrder xs) (ys : List (ℕ × ℕ)) (es : List Def) → xs ≡ ys → ds ≡ es → (q : Even ys es) (n : AreInOrder ys) → table xs ds p o ≡ table ys es q n
same_table xs ds p o ys es same too =
    subst (λ (zs : List (ℕ × ℕ)). (q : Even zs es) (n : AreInOrder zs) → table xs ds p o ≡ table zs es q n) same
    (subst (λ (cs : List Def). (q : Even xs cs) (n : AreInOrder xs) → table xs ds p o ≡ table xs cs q n) too
    (λ q n. ap (λ (e : Even xs ds). table xs ds e o) (even_prop xs ds p q) ∙ ap (λ (m : AreInOrder xs). table xs ds q m) (order_prop xs o n)))

pub one_reach : (s : Shape) (a b : Reach) → IsReachOf s a → IsReachOf s b → a ≡ b
one_reach s a b p q =
    let same : paired a.places a.defs ≡ paired b.places b.defs =
    same_list FactBefore fact_asym (facts s a p) (facts s b q) (in_order s a p) (in_order s b q)
    (λ f c. stands s b q f (holds s a p f c)) (λ f c. stands s a p f (holds s b q f c)) in
    same_table a.places a.defs a.even a.ordered b.places b.defs
    (sym (firsts a.places a.defs a.even) ∙ ap (map (λ (f : Fact). f.0)) same ∙ firsts b.places b.defs b.even)
    (sym (seconds a.places a.defs a.even) ∙ ap (map (λ (f : Fact). f.1)) same ∙ seconds b.places b.defs b.even)
    b.even b.ordered

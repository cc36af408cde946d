-- A table of facts in order gives the definitions of each place, in order.
use Rattle.std.proofs.Common.{◌≡◌, ◌<◌, ◌≤◌, ◌+◌, ◌-◌, ℕ, List, [], ◌∷◌, ◌++◌, take, drop, map, length, get_or, AllPairs, Contains, Some, inl, inr, sym, ap, subst, ◌∙◌, arith}
use Rattle.std.specs.Prelude.{slice_get, ◌↔◌}
use Rattle.std.specs.List.{slice_range}
use Rattle.std.specs.Option.{option_map}
use Rattle.std.proofs.lemmas.Option.{slice_get-map, slice_get_within, slice_get-get_or, get_or_from_slice_get}
use Rattle.std.proofs.lemmas.List.{take_more, map-append, length-map, get_or-map, get_or-take, get_or-drop, length-take, length-drop}
use Rattle.std.proofs.lemmas.List.Elements.{Contains-get_or}
use Rattle.slicer_ids.specs.Sets.{IsOrderedListOf}
use Rattle.class_form.specs.declared.reach.Reach.{Reach}
use Rattle.class_form.specs.declared.body.Def.{Def}
use Rattle.class_form.specs.Reaches.{DefBefore}
use Rattle.reaching_defs.specs.declared.spread.Fact.{Fact}
use Rattle.reaching_defs.specs.Frames.{place}
use Rattle.reaching_defs.specs.Facts.{fact, FactBefore, pair_of, def_of}

pub map_more : {A B : Type 0} (f : A → B) (xs : List A) (i : ℕ) (d : A) (ys : List B) → i < length xs → ys ≡ map f (take i xs) → ys ++ f (get_or xs i d) ∷ [] ≡ map f (take (i + 1) xs)
map_more f xs i d ys lt e = ap (λ zs. zs ++ f (get_or xs i d) ∷ []) e ∙ sym (map-append f (take i xs) (get_or xs i d ∷ [])) ∙ ap (map f) (sym (take_more xs i d lt))

-- places in order
pub places_in_order : (all : List Fact) → AllPairs FactBefore all → (j k : ℕ) (x y : ℕ × ℕ) → j < k → slice_get (map pair_of all) j ≡ Some x → slice_get (map pair_of all) k ≡ Some y → (x.0 ≤ y.0) × (x.0 ≡ y.0 → x.1 ≤ y.1)
places_in_order all order j k x y lt ex ey =
    let within : k < length all = omega (arith, slice_get_within (map pair_of all) k y ey, length-map all pair_of) in
    let d : Fact = get_or all k (record { pc = 0; slot = 0; def = def_in all k within }) in
    let h = order j k d lt within in
    let before : j < length all = omega arith in
    let px : pair_of (get_or all j d) ≡ x = sym (get_or-map pair_of all j d (pair_of d) before) ∙ get_or_from_slice_get (map pair_of all) j x (pair_of d) ex in
    let py : pair_of (get_or all k d) ≡ y = sym (get_or-map pair_of all k d (pair_of d) within) ∙ get_or_from_slice_get (map pair_of all) k y (pair_of d) ey in
    subst (λ (p : ℕ × ℕ). (p.0 ≤ y.0) × (p.0 ≡ y.0 → p.1 ≤ y.1)) px (subst (λ (p : ℕ × ℕ). (pair_of (get_or all j d)).0 ≤ p.0 × ((pair_of (get_or all j d)).0 ≡ p.0 → (pair_of (get_or all j d)).1 ≤ p.1)) py (ordered (get_or all j d) (get_or all k d) h))
  where
    def_in : (xs : List Fact) (i : ℕ) → i < length xs → Def
    def_in [] i w = absurd (omega arith)
    def_in (z ∷ zs) i w = z.def

    ordered : (a b : Fact) → FactBefore a b → (a.pc ≤ b.pc) × (a.pc ≡ b.pc → a.slot ≤ b.slot)
    ordered a b (inl less) = (omega arith, λ e. absurd (omega arith))
    ordered a b (inr (e, inl less)) = (omega arith, λ q. omega arith)
    ordered a b (inr (e, inr (f, rest))) = (omega arith, λ q. omega arith)

module _ (r : Reach) (all : List Fact) (order : AllPairs FactBefore all) (places : r.places ≡ map pair_of all) (defs_are : r.defs ≡ map def_of all)
    (pc slot low high : ℕ) (defs : List Def) (are : defs ≡ slice_range r.defs low high)
    (here : (k : ℕ) → ((low ≤ k) × (k < high)) ↔ (slice_get r.places k ≡ Some (pc, slot))) where
  pair_at : (k : ℕ) (d : Fact) → low ≤ k → k < high → (k < length all) × (pair_of (get_or all k d) ≡ (pc, slot))
  pair_at k d from to =
      let e : slice_get (map pair_of all) k ≡ Some (pc, slot) = ap (λ (xs : List (ℕ × ℕ)). slice_get xs k) (sym places) ∙ (here k).0 (from, to) in
      let within : k < length all = omega (arith, slice_get_within (map pair_of all) k (pc, slot) e, length-map all pair_of) in
      (within, sym (get_or-map pair_of all k d (pair_of d) within) ∙ get_or_from_slice_get (map pair_of all) k (pc, slot) (pair_of d) e)

  def_at : (i : ℕ) (d : Fact) → low + i < high → low + i < length all → get_or defs i d.def ≡ (get_or all (low + i) d).def
  def_at i d lt within =
      ap (λ (xs : List Def). get_or xs i d.def) are
      ∙ get_or-take (high - low) (drop low r.defs) i d.def (omega arith)
      ∙ get_or-drop low r.defs i d.def
      ∙ ap (λ (xs : List Def). get_or xs (low + i) d.def) defs_are
      ∙ get_or-map def_of all (low + i) d d.def within

  short : length defs ≤ high - low
  short = omega (arith, ap length are, length-take (high - low) (drop low r.defs))

  at_fact : (i : ℕ) (d : Fact) → i < length defs → (low + i < length all) × (get_or all (low + i) d ≡ fact (place pc slot) (get_or defs i d.def))
  at_fact i d lt =
      let p = pair_at (low + i) d (omega arith) (omega (arith, short)) in
      let e = def_at i d (omega (arith, short)) p.0 in
      (p.0, ap (λ (q : ℕ × ℕ). fact (place q.0 q.1) (get_or all (low + i) d).def) p.1 ∙ ap (λ (x : Def). fact (place pc slot) x) (sym e))

  before_at : (a b : Def) → FactBefore (fact (place pc slot) a) (fact (place pc slot) b) → DefBefore a b
  before_at a b (inl less) = absurd (omega arith)
  before_at a b (inr (e, inl less)) = absurd (omega arith)
  before_at a b (inr (e, inr (f, rest))) = rest

  pub ordered_defs : IsOrderedListOf DefBefore defs (λ d. Contains all (fact (place pc slot) d))
  ordered_defs = record {
    each = λ i d lt.
        let x : Fact = fact (place pc slot) d in
        let h = at_fact i x lt in
        subst (Contains all) h.1 (Contains-get_or all (low + i) x h.0);
    order = λ i j d lt within.
        let x : Fact = fact (place pc slot) d in
        let a = at_fact i x (omega arith) in
        let b = at_fact j x within in
        before_at (get_or defs i d) (get_or defs j d) (subst (λ (y : Fact). FactBefore y (fact (place pc slot) (get_or defs j d))) a.1 (subst (λ (y : Fact). FactBefore (get_or all (low + i) x) y) b.1 (order (low + i) (low + j) x (omega arith) b.0)));
    whole = λ d c.
        let x : Fact = fact (place pc slot) d in
        let k = c.0 in
        let e : slice_get r.places k ≡ Some (pc, slot) =
        ap (λ (xs : List (ℕ × ℕ)). slice_get xs k) places ∙ slice_get-map pair_of all k ∙ ap (option_map pair_of) (slice_get-get_or all k x c.1 ∙ ap (λ (y : Fact). Some y) c.2) in
        let h = (here k).1 e in
        let i = k - low in
        let at : low + i ≡ k = omega arith in
        let q : get_or defs i d ≡ d = def_at i x (omega arith) (omega (arith, c.1)) ∙ ap (λ (n : ℕ). (get_or all n x).def) at ∙ ap (λ (y : Fact). y.def) c.2 in
        (i, within i (omega arith) (omega (arith, c.1)), q);
  }
    where
      within : (i : ℕ) → low + i < high → low + i < length all → i < length defs
      within i lt in' = omega (arith, ap length are, length-take (high - low) (drop low r.defs), length-drop low r.defs, ap length defs_are, length-map all def_of)

-- the same members, named otherwise
pub same_members : (xs ys : List Fact) (pc slot : ℕ) (defs : List Def) → ((x : Fact) → Contains xs x ↔ Contains ys x) → IsOrderedListOf DefBefore defs (λ d. Contains xs (fact (place pc slot) d)) → IsOrderedListOf DefBefore defs (λ d. Contains ys (fact (place pc slot) d))
same_members xs ys pc slot defs same o = record {
  each = λ i d lt. (same (fact (place pc slot) (get_or defs i d))).0 (o.each i d lt);
  order = o.order;
  whole = λ d c. o.whole d ((same (fact (place pc slot) d)).1 c);
}

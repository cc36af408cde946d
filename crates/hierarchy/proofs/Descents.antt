-- What a search in depth visits, and where it goes first.
use Rattle.std.proofs.Common.{◌≡◌, ◌≢◌, ℕ, zero, suc, ◌+◌, ◌<◌, ◌≤◌, ◌⊎◌, inl, inr, cond, eqb, List, [], ◌∷◌, ◌++◌, length, get_or, drop, refl, sym, subst, ◌∙◌, arith, Option, Some, None, Contains}
use Rattle.std.specs.Prelude.{slice_index, All}
use Rattle.std.proofs.lemmas.List.Elements.{Contains-get_or}
use Rattle.std.proofs.lemmas.Bool.{cases_order}
use Rattle.std.proofs.lemmas.Bool.Decides.{nat_tests}
use Rattle.std.proofs.lemmas.Grind.{get_or_default_zero}
use Rattle.std.proofs.lemmas.List.{drop_more, at_drop_all}
use Rattle.std.specs.Global.{Vec}
use Rattle.slicer_ids.specs.Walks.{IsWalk, LeadsBy}
use Rattle.slicer_ids.specs.declared.ids.ClassId.{ClassId}
use Rattle.digraph.specs.Graphs.{targets, HasEdge, IsGraph}
use Rattle.digraph.specs.Orders.{IsOrder}
use Rattle.digraph.proofs.Marks.{node_of_edge, target_within}
use Rattle.hierarchy.specs.Visits.{Visits, visited, VisitsEach, no_node, node_first, IsFirst, in_none, at_head, in_tail, FirstFrom, FirstAmong, IsOneOf, LeadsToOneOf}

-- the first place of a number in a list, or its length
pub place_in : ℕ → List ℕ → ℕ
place_in n [] = 0
place_in n (x ∷ xs) = cond (eqb x n) 0 (place_in n xs + 1)

place_cases : (n x : ℕ) (xs : List ℕ) → ((x ≡ n) × (place_in n (x ∷ xs) ≡ 0)) ⊎ ((x ≢ n) × (place_in n (x ∷ xs) ≡ suc (place_in n xs)))
unfolding place_in
place_cases n x xs = elim (cases_order x n) [
  | inl e ↦ inl (e, grind (arith, nat_tests))
  | inr apart ↦ let ne : x ≢ n = λ e. elim apart [ inl lt ↦ omega arith | inr gt ↦ omega arith ] in inr (ne, grind (arith, nat_tests))
]

-- it is the first, and the number stands there
pub place_least : (n : ℕ) (xs : List ℕ) (j : ℕ) → j < length xs → get_or xs j 0 ≡ n → (place_in n xs ≤ j) × (get_or xs (place_in n xs) 0 ≡ n)
place_least n [] j l e = absurd (omega (arith, l))
place_least n (x ∷ xs) zero l e = elim (place_cases n x xs) [
  | inl c ↦ (omega arith, subst (λ k. get_or (x ∷ xs) k 0 ≡ n) (sym c.1) c.0)
  | inr c ↦ absurd (c.0 e)
]
place_least n (x ∷ xs) (suc j) l e = elim (place_cases n x xs) [
  | inl c ↦ (omega arith, subst (λ k. get_or (x ∷ xs) k 0 ≡ n) (sym c.1) c.0)
  | inr c ↦ let h = place_least n xs j (omega (arith, l)) e in (omega arith, subst (λ k. get_or (x ∷ xs) k 0 ≡ n) (sym c.1) h.1)
]

pub place_below : (g : List (Vec ℕ)) (order : List ℕ) (a : ℕ) → IsOrder g order → a < length g → (place_in a order < length order) × (get_or order (place_in a order) 0 ≡ a)
place_below g order a o l =
    let p = o.whole a l in
    let h = place_least a order p.0 p.1 (sym (get_or_default_zero order p.0 a p.1) ∙ p.2) in
    (omega arith, h.1)

-- edges lead to lesser places
pub place_falls : (g : List (Vec ℕ)) (order : List ℕ) (a b : ℕ) → IsOrder g order → HasEdge g a b → place_in b order < place_in a order
place_falls g order a b o e =
    let p = place_below g order a o (node_of_edge g a b e) in
    let t = o.back (place_in a order) b p.0 (subst (λ n. HasEdge g n b) (sym p.1) e) in
    let h = place_least b order t.0 (omega arith) t.2 in
    omega arith

-- searches

pub append_none : (P : ℕ → Type 0) {xs ys : List ℕ} {found : Option ℕ} → IsFirst P xs None → IsFirst P ys found → IsFirst P (xs ++ ys) found
append_none P in_none f = f
append_none P (in_tail never h) f = in_tail never (append_none P h f)

pub append_some : (P : ℕ → Type 0) {xs : List ℕ} {n : ℕ} (ys : List ℕ) → IsFirst P xs (Some n) → IsFirst P (xs ++ ys) (Some n)
append_some P ys (at_head p) = at_head p
append_some P ys (in_tail never h) = in_tail never (append_some P ys h)

-- P holds for none of a list
pub none_of : (P : ℕ → Type 0) (xs : List ℕ) (x : ℕ) → IsFirst P xs None → Contains xs x → P x → ⊥
none_of P [] x f (j, l, e) p = omega (arith, l)
none_of P (y ∷ ys) x (in_tail never h) (zero, l, e) p = never (subst P (sym e) p)
none_of P (y ∷ ys) x (in_tail never h) (suc j, l, e) p = none_of P ys x h (j, omega (arith, l), e) p

module _ (g : List (Vec ℕ)) (order : List ℕ) (o : IsOrder g order) where
  each_has : (m : ℕ) → ((n : ℕ) → place_in n order < m → (xs : List ℕ) × Visits g n xs) → (ns : List ℕ) → ((n : ℕ) → Contains ns n → place_in n order < m) → (xs : List ℕ) × VisitsEach g ns xs
  each_has m has [] low = ([], no_node)
  each_has m has (n ∷ ns) low =
      let v = has n (low n (0, omega arith, refl)) in
      let vs = each_has m has ns (λ k c. low k (suc c.0, omega (arith, c.1), c.2)) in
      (v.0 ++ vs.0, node_first v.1 vs.1)

  has_below : (m n : ℕ) → place_in n order < m → (xs : List ℕ) × Visits g n xs
  has_below zero n l = absurd (omega arith)
  has_below (suc m) n l =
      let vs = each_has m (λ k h. has_below m k h) (targets g n) (λ k c. let h = place_falls g order n k o c in omega arith) in
      (n ∷ vs.0, visited vs.1)

  -- a search from a node ends
  pub has_visits : (n : ℕ) → (xs : List ℕ) × Visits g n xs
  has_visits n = has_below (suc (place_in n order)) n (omega arith)

  pub have_visits : (ns : List ℕ) → (xs : List ℕ) × VisitsEach g ns xs
  have_visits [] = ([], no_node)
  have_visits (n ∷ ns) = let v = has_visits n in let vs = have_visits ns in (v.0 ++ vs.0, node_first v.1 vs.1)

  -- .. on the way to the first class with one of some members
  module _ (places : List (ClassId × ℕ)) where
    from_itself : (n : ℕ) → IsOneOf places n → LeadsToOneOf g places n
    from_itself n h = (h.0, h.1, h.2, h.3, ([], sym h.4))

    from_edge : (n m : ℕ) → HasEdge g n m → LeadsToOneOf g places m → LeadsToOneOf g places n
    from_edge n m e h = (h.0, h.1, h.2, h.3, (m ∷ h.4.0, (e, h.4.1)))

    mutual
      none_from_one : {n : ℕ} {xs : List ℕ} → Visits g n xs → (LeadsToOneOf g places n → ⊥) → IsFirst (IsOneOf places) xs None
      none_from_one (visited {n} {xs} vs) never = in_tail (λ p. never (from_itself n p)) (none_from_each vs (λ m e l. never (from_edge n m e l)))

      none_from_each : {ns xs : List ℕ} → VisitsEach g ns xs → ((n : ℕ) → Contains ns n → LeadsToOneOf g places n → ⊥) → IsFirst (IsOneOf places) xs None
      none_from_each no_node never = in_none
      none_from_each (node_first {n} {ns} v vs) never =
          append_none (IsOneOf places) (none_from_one v (never n (0, omega arith, refl))) (none_from_each vs (λ m c. never m (suc c.0, omega (arith, c.1), c.2)))

    pub onwards : (ns : List ℕ) (t c : ℕ) → IsFirst (LeadsToOneOf g places) ns (Some t) → FirstFrom g (IsOneOf places) t (Some c) → FirstAmong g (IsOneOf places) ns (Some c)
    onwards [] t c x f = elim x [ ]
    onwards (n ∷ ns) t c (at_head l) f = let r = have_visits ns in (f.0 ++ r.0, node_first f.1 r.1, append_some (IsOneOf places) r.0 f.2)
    onwards (n ∷ ns) t c (in_tail never h) f =
        let v = has_visits n in
        let r = onwards ns t c h f in
        (v.0 ++ r.0, node_first v.1 r.1, append_none (IsOneOf places) (none_from_one v.1 never) r.2)

    pub none_onwards : (ns : List ℕ) → IsFirst (LeadsToOneOf g places) ns None → FirstAmong g (IsOneOf places) ns None
    none_onwards [] f = ([], no_node, in_none)
    none_onwards (n ∷ ns) (in_tail never h) =
        let v = has_visits n in
        let r = none_onwards ns h in
        (v.0 ++ r.0, node_first v.1 r.1, append_none (IsOneOf places) (none_from_one v.1 never) r.2)

    pub found_here : (n : ℕ) → IsOneOf places n → FirstFrom g (IsOneOf places) n (Some n)
    found_here n p = let vs = have_visits (targets g n) in (n ∷ vs.0, visited vs.1, at_head p)

    pub found_below : (n t c : ℕ) → (IsOneOf places n → ⊥) → IsFirst (LeadsToOneOf g places) (targets g n) (Some t) → FirstFrom g (IsOneOf places) t (Some c) → FirstFrom g (IsOneOf places) n (Some c)
    found_below n t c never h f = let r = onwards (targets g n) t c h f in (n ∷ r.0, visited r.1, in_tail never r.2)

    pub found_nowhere : (n : ℕ) → (LeadsToOneOf g places n → ⊥) → FirstFrom g (IsOneOf places) n None
    found_nowhere n never = let v = has_visits n in (v.0, v.1, none_from_one v.1 never)

-- a node that leads to one of some members, and has none itself, has an edge to one that leads there
pub goes_on : (g : List (Vec ℕ)) (places : List (ClassId × ℕ)) (n : ℕ) → LeadsToOneOf g places n → (IsOneOf places n → ⊥) → IsFirst (LeadsToOneOf g places) (targets g n) None → ⊥
goes_on g places n (k, p, l, e, ([], w)) never f = never (k, p, l, e, sym w)
goes_on g places n (k, p, l, e, ((x ∷ xs), w)) never f = none_of (LeadsToOneOf g places) (targets g n) x f w.0 (k, p, l, e, (xs, w.1))

-- the node that was found is one of the list
pub first_among : (P : ℕ → Type 0) (xs : List ℕ) (n : ℕ) → IsFirst P xs (Some n) → Contains xs n × P n
first_among P [] n x = elim x [ ]
first_among P (x ∷ xs) n (at_head p) = ((0, omega arith, refl), p)
first_among P (x ∷ xs) n (in_tail never h) = let r = first_among P xs n h in ((suc r.0.0, omega (arith, r.0.1), r.0.2), r.1)

-- the search goes on behind the first n of a list
pub first_more : (P : ℕ → Type 0) (xs : List ℕ) (i d : ℕ) → i < length xs → (P (get_or xs i d) → ⊥)
    → ((found : Option ℕ) → IsFirst P (drop i xs) found → IsFirst P xs found) → (found : Option ℕ) → IsFirst P (drop (i + 1) xs) found → IsFirst P xs found
first_more P xs i d l never before found h = before found (subst (λ ys. IsFirst P ys found) (sym (drop_more xs i d l)) (in_tail never h))

pub first_stops : (P : ℕ → Type 0) (xs : List ℕ) (i d : ℕ) → i < length xs → P (get_or xs i d)
    → ((found : Option ℕ) → IsFirst P (drop i xs) found → IsFirst P xs found) → IsFirst P xs (Some (get_or xs i d))
first_stops P xs i d l p before = before (Some (get_or xs i d)) (subst (λ ys. IsFirst P ys (Some (get_or xs i d))) (sym (drop_more xs i d l)) (at_head p))

pub first_ends : (P : ℕ → Type 0) (xs : List ℕ) (i : ℕ) → length xs ≤ i
    → ((found : Option ℕ) → IsFirst P (drop i xs) found → IsFirst P xs found) → IsFirst P xs None
first_ends P xs i l before = before None (subst (λ ys. IsFirst P ys None) (sym (at_drop_all (λ (ys : List ℕ). ys) xs i l)) in_none)

-- the node that leads on from a node
pub leads_on : (g : List (Vec ℕ)) (places : List (ClassId × ℕ)) (n m : ℕ) → IsGraph g → IsFirst (LeadsToOneOf g places) (targets g n) (Some m)
    → HasEdge g n m × (m < length g) × LeadsToOneOf g places m
leads_on g places n m graph f =
    let c = first_among (LeadsToOneOf g places) (targets g n) m f in
    (c.0, target_within g n m graph c.0, c.1)

pub all_within : (g : List (Vec ℕ)) (n : ℕ) → IsGraph g → All (λ m. m < length g) (targets g n)
all_within g n graph = λ k d l. target_within g n (get_or (targets g n) k d) graph (Contains-get_or (targets g n) k d l)

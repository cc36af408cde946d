-- The steps of a search in depth.
use Rattle.std.proofs.Common.{◌≡◌, ◌≢◌, ℕ, zero, suc, ◌+◌, ◌-◌, ◌<◌, ◌≤◌, inl, inr, Bool, true, false, List, [], ◌∷◌, ◌++◌, length, set, get_or, All, refl, sym, subst, ◌∙◌, ap, arith, get_or-set_same, get_or-set_other, length-set, length-append}
use Rattle.std.specs.Prelude.{slice_index, map, replicate}
use Rattle.std.specs.Option.{option_map_or}
use Rattle.std.proofs.lemmas.Option.{slice_get_cases}
use Rattle.std.specs.Global.{Vec}
use Rattle.std.proofs.lemmas.Bool.{cases_eq, cases_lt, false≢true}
use Rattle.std.proofs.lemmas.List.{get_or_append_left, get_or_push, get_or_past, length-replicate, length-map, get_or-map}
use Rattle.std.proofs.lemmas.List.Sums.{sum_by-set}
use Rattle.std.proofs.lemmas.List.Elements.{All-push, All-nil, All-cons, Contains-append_left, Contains-push, Contains-push_cases}
use Rattle.std.proofs.lemmas.Grind.{get_or_default_zero}
use Rattle.slicer_ids.specs.Walks.{Leads, stay, more}
use Rattle.slicer_ids.proofs.WalkForms.{by_list}
use Rattle.digraph.specs.Graphs.{targets, HasEdge, IsGraph, is_marked, IsMarked}
use Rattle.digraph.specs.Orders.{IsOrder, IsOnCycle}
use Rattle.digraph.specs.Searches.{IsSearch, steps_left}
use Rattle.digraph.proofs.Marks.{marked_cases, marked_now, marked_stays, unmarked, fewer_unmarked, edge_place, target_within, number_read, edge_read, targets_row}

-- the nodes before the last of a stack
All-front : (P : ℕ → Type 0) (xs : List ℕ) (y : ℕ) → All P (xs ++ y ∷ []) → All P xs
All-front P xs y h = λ k d lt. subst P (get_or_append_left xs (y ∷ []) d k lt) (h k d (omega (arith, length-append xs (y ∷ []))))

pub All-last : (P : ℕ → Type 0) (xs : List ℕ) (y : ℕ) → All P (xs ++ y ∷ []) → P y
All-last P xs y h = subst P (get_or_push xs y 0 (length xs) refl) (h (length xs) 0 (omega (arith, length-append xs (y ∷ []))))

-- a node whose edges were all followed is done
pub finishes : (g : List (Vec ℕ)) (done met : List Bool) (left order stack : List ℕ) (n : ℕ) → IsSearch g done met left order (stack ++ n ∷ []) → slice_index left n ≡ 0
    → IsSearch g (set done n true) met left (order ++ n ∷ []) stack
finishes g done met left order stack n s none =
    let lt : n < length g = All-last (λ m. m < length g) stack n s.stack_nodes in
    let within : n < length done = omega (arith, s.done_len) in
    record {
      done_len = length-set done n true ∙ s.done_len;
      met_len = s.met_len;
      left_len = s.left_len;
      nodes = All-push (λ m. m < length g) order n s.nodes lt;
      stack_nodes = All-front (λ m. m < length g) stack n s.stack_nodes;
      back = λ i b l e. elim (cases_lt i (length order)) [
        | inl low ↦
            let f = s.back i b low (subst (λ m. HasEdge g m b) (get_or_append_left order (n ∷ []) 0 i low) e) in
            (f.0, f.1, get_or_append_left order (n ∷ []) 0 f.0 (omega (arith, f.1)) ∙ f.2)
        | inr high ↦
            let same : length order ≡ i = omega (arith, length-append order (n ∷ [])) in
            let p = edge_place g n b (subst (λ m. HasEdge g m b) (get_or_push order n 0 i same) e) in
            let c = s.listed b (subst (IsMarked done) p.2 (s.passed n p.0 (omega (arith, none)) p.1)) in
            (c.0, omega (arith, c.1), get_or_append_left order (n ∷ []) 0 c.0 c.1 ∙ sym (get_or_default_zero order c.0 b c.1) ∙ c.2)
      ];
      listed = λ m h. elim (marked_cases done n m h) [ inl was ↦ Contains-append_left order (n ∷ []) m (s.listed m was) | inr is ↦ rw is (Contains-push order n) ];
      some_left = s.some_left;
      passed = λ m k l h. marked_stays done n (slice_index (targets g m) k) (s.passed m k l h);
      waits = λ m h. elim (s.waits m h) [
        | inl d ↦ inl (marked_stays done n m d)
        | inr c ↦ elim (Contains-push_cases stack n m c) [ inl w ↦ inr w | inr is ↦ inl (subst (IsMarked (set done n true)) is (marked_now done n within)) ]
      ];
      path = λ i l. subst (λ a. HasEdge g a (slice_index stack (i + 1))) (get_or_append_left stack (n ∷ []) 0 i (omega arith))
          (subst (λ b. HasEdge g (slice_index (stack ++ n ∷ []) i) b) (get_or_append_left stack (n ∷ []) 0 (i + 1) l) (s.path i (omega (arith, length-append stack (n ∷ [])))));
    }

next_passed : (g : List (Vec ℕ)) (done met : List Bool) (left order stack : List ℕ) (n k : ℕ) → IsSearch g done met left order stack → slice_index left n ≡ k + 1
    → IsMarked done (slice_index (targets g n) k) → (j : ℕ) → k ≤ j → j < length (targets g n) → IsMarked done (slice_index (targets g n) j)
next_passed g done met left order stack n k s e d j above h = elim (cases_eq j k) [
  | inl is ↦ subst (λ i. IsMarked done (slice_index (targets g n) i)) (sym is) d
  | inr ne ↦ s.passed n j (omega arith) h
]

-- an edge to a node that is done was followed
pub skips : (g : List (Vec ℕ)) (done met : List Bool) (left order stack : List ℕ) (n k : ℕ) → IsSearch g done met left order stack → n < length g → slice_index left n ≡ k + 1
    → IsMarked done (slice_index (targets g n) k) → IsSearch g done met (set left n k) order stack
skips g done met left order stack n k s lt e d =
    let within : n < length left = omega (arith, s.left_len) in
    let at_node = λ (j : ℕ) (above : k ≤ j) (h : j < length (targets g n)). next_passed g done met left order stack n k s e d j above h in
    record {
      done_len = s.done_len;
      met_len = s.met_len;
      left_len = length-set left n k ∙ s.left_len;
      nodes = s.nodes;
      stack_nodes = s.stack_nodes;
      back = s.back;
      listed = s.listed;
      waits = s.waits;
      path = s.path;
      some_left = λ m. elim (cases_eq m n) [
        | inl is ↦ rw is (omega (arith, get_or-set_same left n k 0 within, s.some_left n))
        | inr ne ↦ omega (arith, get_or-set_other left n m k 0 ne, s.some_left m)
      ];
      passed = λ m j l h. elim (cases_eq m n) [
        | inl is ↦ subst (λ a. IsMarked done (slice_index (targets g a) j)) (sym is)
            (at_node j (omega (arith, ap (slice_index (set left n k)) is, get_or-set_same left n k 0 within)) (subst (λ a. j < length (targets g a)) is h))
        | inr ne ↦ s.passed m j (omega (arith, get_or-set_other left n m k 0 ne)) h
      ];
    }

-- an edge to a node that was not met leads there
pub meets : (g : List (Vec ℕ)) (done met : List Bool) (left order stack : List ℕ) (n b : ℕ) → IsSearch g done met left order (stack ++ n ∷ []) → b < length g → HasEdge g n b
    → IsSearch g done (set met b true) left order ((stack ++ n ∷ []) ++ b ∷ [])
meets g done met left order stack n b s lt e = record {
  done_len = s.done_len;
  met_len = length-set met b true ∙ s.met_len;
  left_len = s.left_len;
  nodes = s.nodes;
  stack_nodes = All-push (λ m. m < length g) (stack ++ n ∷ []) b s.stack_nodes lt;
  back = s.back;
  listed = s.listed;
  some_left = s.some_left;
  passed = s.passed;
  waits = λ m h. elim (marked_cases met b m h) [
    | inl was ↦ elim (s.waits m was) [ inl d ↦ inl d | inr c ↦ inr (Contains-append_left (stack ++ n ∷ []) (b ∷ []) m c) ]
    | inr is ↦ inr (rw is (Contains-push (stack ++ n ∷ []) b))
  ];
  path = λ i l. elim (cases_lt (i + 1) (length (stack ++ n ∷ []))) [
    | inl low ↦
        subst (λ a. HasEdge g a (slice_index ((stack ++ n ∷ []) ++ b ∷ []) (i + 1))) (sym (get_or_append_left (stack ++ n ∷ []) (b ∷ []) 0 i (omega arith)))
        (subst (λ c. HasEdge g (slice_index (stack ++ n ∷ []) i) c) (sym (get_or_append_left (stack ++ n ∷ []) (b ∷ []) 0 (i + 1) low)) (s.path i low))
    | inr high ↦
        let ends : length (stack ++ n ∷ []) ≡ i + 1 = omega (arith, length-append (stack ++ n ∷ []) (b ∷ [])) in
        let here : length stack ≡ i = omega (arith, length-append stack (n ∷ [])) in
        subst (λ a. HasEdge g a (slice_index ((stack ++ n ∷ []) ++ b ∷ []) (i + 1)))
        (sym (get_or_append_left (stack ++ n ∷ []) (b ∷ []) 0 i (omega arith) ∙ get_or_push stack n 0 i here))
        (subst (HasEdge g n) (sym (get_or_push (stack ++ n ∷ []) b 0 (i + 1) ends)) e)
  ];
}

-- along the stack, edges lead from each node to each later one
leads_along : (g : List (Vec ℕ)) (stack : List ℕ) → ((i : ℕ) → i + 1 < length stack → HasEdge g (slice_index stack i) (slice_index stack (i + 1)))
    → (i d : ℕ) → i + d < length stack → Leads (HasEdge g) (slice_index stack i) (slice_index stack (i + d))
leads_along g stack p i zero l = subst (λ j. Leads (HasEdge g) (slice_index stack i) (slice_index stack j)) (omega arith) (stay)
leads_along g stack p i (suc d) l =
    let t = more (leads_along g stack p i d (omega arith)) (p (i + d) (omega arith)) in
    let e : i + d + 1 ≡ i + suc d = omega arith in
    subst (λ j. Leads (HasEdge g) (slice_index stack i) (slice_index stack j)) e t

-- an edge to a node of the stack closes a cycle
pub closes : (g : List (Vec ℕ)) (done met : List Bool) (left order stack : List ℕ) (n b : ℕ) → IsSearch g done met left order (stack ++ n ∷ []) → HasEdge g n b
    → IsMarked met b → is_marked done b ≡ false → IsOnCycle g n
closes g done met left order stack n b s e m d = elim (s.waits b m) [
  | inl was ↦ absurd (false≢true (sym d ∙ was))
  | inr c ↦
      let here = sym (get_or_default_zero (stack ++ n ∷ []) c.0 b c.1) ∙ c.2 in
      let len = length-append stack (n ∷ []) in
      let ends : c.0 + (length stack - c.0) ≡ length stack = omega (arith, c.1) in
      let t = leads_along g (stack ++ n ∷ []) s.path c.0 (length stack - c.0) (omega (arith, c.1)) in
      let last : slice_index (stack ++ n ∷ []) (c.0 + (length stack - c.0)) ≡ n = get_or_push stack n 0 (c.0 + (length stack - c.0)) (sym ends) in
      (b, e, by_list (HasEdge g) b (subst (λ a. Leads (HasEdge g) a n) here (subst (Leads (HasEdge g) (slice_index (stack ++ n ∷ []) c.0)) last t)))
]

pub finish_fewer : (met : List Bool) (left stack : List ℕ) (n : ℕ) → steps_left met left stack < steps_left met left (stack ++ n ∷ [])
finish_fewer met left stack n = omega (arith, length-append stack (n ∷ []))

pub skip_fewer : (met : List Bool) (left stack : List ℕ) (n k : ℕ) → n < length left → slice_index left n ≡ k + 1 → steps_left met (set left n k) (stack ++ n ∷ []) < steps_left met left (stack ++ n ∷ [])
skip_fewer met left stack n k lt e = omega (arith, sum_by-set (λ x. x) left n k 0 lt)

pub meet_fewer : (met : List Bool) (left stack : List ℕ) (n b : ℕ) → b < length met → is_marked met b ≡ false
    → steps_left (set met b true) left ((stack ++ n ∷ []) ++ b ∷ []) < steps_left met left (stack ++ n ∷ [])
meet_fewer met left stack n b lt e = omega (arith, fewer_unmarked met b lt e, length-append (stack ++ n ∷ []) (b ∷ []))

-- the edge of a node that is followed next
pub record IsNext (g : List (Vec ℕ)) (left : List ℕ) (n v b : ℕ) : Type 0 where
  pub node : n < length g
  pub left_is : slice_index left n ≡ v - 1 + 1
  pub target_is : slice_index (targets g n) (v - 1) ≡ b
  pub edge : HasEdge g n b
  pub target : b < length g

-- how many edges are left is within the row
pub within_row : (g : List (Vec ℕ)) (done met : List Bool) (left order stack : List ℕ) (n v : ℕ) (row : Vec ℕ) → IsSearch g done met left order (stack ++ n ∷ [])
    → v ≡ get_or left n v → (v ≢ 0) → row ≡ get_or g n row → v - 1 < length row.items
within_row g done met left order stack n v row s e ne r =
    let lt = All-last (λ m. m < length g) stack n s.stack_nodes in
    let l = number_read left n v (omega (arith, s.left_len)) e in
    let t = targets_row g n row lt r in
    omega (arith, s.some_left n, l, ap length t)

pub next_edge : (g : List (Vec ℕ)) (done met : List Bool) (left order stack : List ℕ) (n v b : ℕ) (row : Vec ℕ) → IsGraph g → IsSearch g done met left order (stack ++ n ∷ [])
    → v ≡ get_or left n v → (v ≢ 0) → row ≡ get_or g n row → b ≡ get_or row.items (v - 1) b → IsNext g left n v b
next_edge g done met left order stack n v b row i s e ne r t =
    let lt = All-last (λ m. m < length g) stack n s.stack_nodes in
    let l = number_read left n v (omega (arith, s.left_len)) e in
    let f = edge_read g n (v - 1) b row lt r (within_row g done met left order stack n v row s e ne r) t in
    record { node = lt; left_is = omega (arith, l); target_is = f.0; edge = f.1; target = target_within g n b i f.1 }

-- before any node was met, each edge is left
left_all : (g : List (Vec ℕ)) (n : ℕ) → slice_index (map (λ row. length row.items) g) n ≡ length (targets g n)
left_all g n = elim (slice_get_cases g n).1 [
  | inl r ↦ get_or-map (λ (row : Vec ℕ). length row.items) g n r.0 0 r.1 ∙ ap (λ (row : Vec ℕ). length row.items) r.3
      ∙ sym (ap length (ap (λ o. option_map_or (λ (x : Vec ℕ). x.items) o []) r.2))
  | inr none ↦ get_or_past (map (λ (row : Vec ℕ). length row.items) g) n 0 (omega (arith, length-map g (λ (row : Vec ℕ). length row.items), none.0))
      ∙ sym (ap length (ap (λ o. option_map_or (λ (x : Vec ℕ). x.items) o []) none.1))
]

pub begins : (g : List (Vec ℕ)) → IsSearch g (replicate (length g) false) (replicate (length g) false) (map (λ row. length row.items) g) [] []
begins g = record {
  done_len = length-replicate (length g) false;
  met_len = length-replicate (length g) false;
  left_len = length-map g (λ (row : Vec ℕ). length row.items);
  nodes = All-nil (λ m. m < length g);
  stack_nodes = All-nil (λ m. m < length g);
  back = λ i b l e. absurd (omega arith);
  listed = λ n h. absurd (unmarked (length g) n h);
  some_left = λ n. omega (arith, left_all g n);
  passed = λ n k l h. absurd (omega (arith, left_all g n));
  waits = λ n h. absurd (unmarked (length g) n h);
  path = λ i l. absurd (omega arith);
}

-- a search begins at a node
pub starts : (g : List (Vec ℕ)) (done met : List Bool) (left order : List ℕ) (n : ℕ) → IsSearch g done met left order [] → n < length g
    → IsSearch g done (set met n true) left order (n ∷ [])
starts g done met left order n s lt = record {
  done_len = s.done_len;
  met_len = length-set met n true ∙ s.met_len;
  left_len = s.left_len;
  nodes = s.nodes;
  stack_nodes = All-cons (λ m. m < length g) n [] lt (All-nil (λ m. m < length g));
  back = s.back;
  listed = s.listed;
  some_left = s.some_left;
  passed = s.passed;
  waits = λ m h. elim (marked_cases met n m h) [
    | inl was ↦ elim (s.waits m was) [ inl d ↦ inl d | inr c ↦ absurd (omega (arith, c.1)) ]
    | inr is ↦ inr (rw is (Contains-push [] n))
  ];
  path = λ i l. absurd (omega arith);
}

-- each node was met: the order is whole
pub whole_order : (g : List (Vec ℕ)) (done met : List Bool) (left order : List ℕ) → IsSearch g done met left order [] → ((n : ℕ) → n < length g → IsMarked met n) → IsOrder g order
whole_order g done met left order s all = record {
  nodes = s.nodes;
  whole = λ n lt. elim (s.waits n (all n lt)) [ inl d ↦ s.listed n d | inr c ↦ absurd (omega (arith, c.1)) ];
  back = s.back;
}

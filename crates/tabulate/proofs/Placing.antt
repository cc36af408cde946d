-- Where nodes and exits stand.
use Rattle.std.proofs.Common.{set, get_or-set_same, get_or-set_other, ◌≡◌, ◌≢◌, ◌<◌, ◌≤◌, ◌+◌, ◌-◌, ◌*◌, ℕ, zero, suc, List, [], ◌∷◌, length, take, get_or, Bool, true, false, cond, Option, Some, None, refl, sym, subst, ap, ◌∙◌, inl, inr, arith, ltb, eqb}
use Rattle.std.specs.Prelude.{slice_get, Contains}
use Rattle.std.specs.Option.{option_map_or}
use Rattle.std.proofs.lemmas.Bool.{cases_eq, cases_lt, ltb-true, ltb-false, lt-ltb, le-ltb}
use Rattle.std.proofs.lemmas.Option.{slice_get_within, slice_get-get_or, slice_get_read, slice_get_past, get_or_from_slice_get, same_Some}
use Rattle.std.proofs.lemmas.List.Sums.{sum_by-cons}
use Rattle.std.proofs.lemmas.List.{take_all, length-set}
use Rattle.std.proofs.lemmas.Nat.{mul-le}
use Rattle.slicer_ids.specs.declared.ids.NodeId.{NodeId}
use Rattle.dep_form.specs.declared.input.MethodInput.{MethodInput}
use Rattle.dep_form.specs.declared.facts.Facts.{Facts}
use Rattle.dep_form.specs.Firsts.{node_count, nodes_in}
use Rattle.slicer_ids.specs.declared.ids.ExitId.{ExitId}
use Rattle.dep_form.specs.Summaries.{IsExitAt}
use Rattle.dep_form.specs.LookUps.{IsSomeNode, IsMethodOfNode, HasNode}
use Rattle.dep_form.specs.Orders.{RiseBy, node_cmp}
use Rattle.std.specs.Ordering.{nat_cmp}
use Rattle.std.specs.List.Sorted.{IsNonDecreasingBy}
use Rattle.std.specs.declared.cmp.Ordering.TheVariants.{Less, Equal, Greater}
use Rattle.bit_rows.proofs.Counting.{front_or}
use Rattle.dep_form.proofs.Firsts.{count_next, count_rises}
use Rattle.tabulate.specs.declared.method.Method.{Method}
use Rattle.tabulate.specs.declared.found.Found.{Found}
use Rattle.tabulate.specs.Methods.{IsMethodOf, AreMethods, IsMet, IsMetAs}
use Rattle.tabulate.specs.Found.{AreFound, IsOpen, waits_of}
use Rattle.tabulate.proofs.Reading.{read_is}
use Rattle.tabulate.specs.Frames.{row, node, count, owner_in, method_of, first, size, width, before, exits_before, IsPlaced, IsOf, IsExit, number_of, exit_count, first_exit}

less_is : (a b : ℕ) → nat_cmp a b ≡ Less → a < b
less_is a b e = go (ltb a b) refl e
  where
    go : (t : Bool) → ltb a b ≡ t → cond t Less (cond (eqb a b) Equal Greater) ≡ Less → a < b
    go true h e = ltb-true a b h
    go false h e = absurd (not_less (eqb a b) e)
      where
        not_less : (t : Bool) → cond t Equal Greater ≡ Less → ⊥
        not_less true e = absurd cc
        not_less false e = absurd cc

-- the owner of a node has it
owner_has : (xs : List (Option MethodInput)) (n : ℕ) → n < node_count xs → (owner_in xs n < length xs) × (node_count (take (owner_in xs n) xs) ≤ n) × (n < node_count (take (owner_in xs n) xs) + option_map_or nodes_in (slice_get xs (owner_in xs n)) 0)
owner_has [] n lt = absurd (omega (arith, lt))
owner_has (o ∷ rest) n lt = go (λ l. owner_has rest (n - nodes_in o) l) (ltb n (nodes_in o)) refl
  where
    go : (n - nodes_in o < node_count rest → (owner_in rest (n - nodes_in o) < length rest) × (node_count (take (owner_in rest (n - nodes_in o)) rest) ≤ n - nodes_in o) × (n - nodes_in o < node_count (take (owner_in rest (n - nodes_in o)) rest) + option_map_or nodes_in (slice_get rest (owner_in rest (n - nodes_in o))) 0))
        → (b : Bool) → ltb n (nodes_in o) ≡ b
        → (cond b 0 (suc (owner_in rest (n - nodes_in o))) < length (o ∷ rest))
        × (node_count (take (cond b 0 (suc (owner_in rest (n - nodes_in o)))) (o ∷ rest)) ≤ n)
        × (n < node_count (take (cond b 0 (suc (owner_in rest (n - nodes_in o)))) (o ∷ rest)) + option_map_or nodes_in (slice_get (o ∷ rest) (cond b 0 (suc (owner_in rest (n - nodes_in o))))) 0)
    go more true e = (omega arith, omega arith, omega (arith, ltb-true n (nodes_in o) e))
    go more false e =
        let ge = ltb-false n (nodes_in o) e in
        let k : ℕ = owner_in rest (n - nodes_in o) in
        let h = more (omega (arith, lt, sum_by-cons nodes_in o rest, ge)) in
        let c = sum_by-cons nodes_in o (take k rest) in
        (omega (arith, h.0), omega (arith, c, h.1, ge), omega (arith, c, h.2, ge))

pub placed : (p : Facts) (n : ℕ) → n < count p → IsPlaced p n
placed p n lt = let h = owner_has p.inputs n lt in record { owned = h.0; above = h.1; below = h.2 }

pub size_at : (p : Facts) (m : ℕ) (o : Option MethodInput) → slice_get p.inputs m ≡ Some o → size p m ≡ nodes_in o
size_at p m o e = ap (λ x. option_map_or nodes_in x 0) e

next_first : (p : Facts) (m : ℕ) → m < length p.inputs → first p (m + 1) ≡ first p m + size p m
next_first p m lt = let e = slice_get-get_or p.inputs m None lt in count_next p.inputs m _ e ∙ ap (λ k. first p m + k) (sym (size_at p m _ e))

-- a method that has the node is its owner
pub owner_is : (p : Facts) (n m : ℕ) → n < count p → m < length p.inputs → first p m ≤ n → n < first p m + size p m → method_of p n ≡ m
owner_is p n m nl ml low high =
    let h = placed p n nl in
    let o : ℕ = method_of p n in
    elim (cases_lt o m) [
      | inl lt ↦ absurd (omega (arith, next_first p o h.owned, count_rises p.inputs (o + 1) m (omega arith), h.below, low))
      | inr ge ↦ elim (cases_lt m o) [
        | inl lt ↦ absurd (omega (arith, next_first p m ml, count_rises p.inputs (m + 1) o (omega arith), high, h.above))
        | inr le ↦ omega (arith, ge, le)
      ]
    ]

pub count_within : (p : Facts) (m : ℕ) → m < length p.inputs → first p m + size p m ≤ count p
count_within p m lt = omega (arith, next_first p m lt, count_rises p.inputs (m + 1) (length p.inputs) (omega arith), ap node_count (take_all (length p.inputs) p.inputs (omega arith)))

-- a node of an input is one of its method
pub of_input : (p : Facts) (n : NodeId) (m : ℕ) (i : MethodInput) → slice_get p.inputs m ≡ Some (Some i) → i.first.0 ≤ n.0 → n.0 < i.first.0 + length i.nodes → IsOf p n.0 m
of_input p n m i e low high =
    let ml = slice_get_within p.inputs m (Some i) e in
    let start : i.first.0 ≡ first p m = (p.follow_on m i e).1 in
    let s : size p m ≡ length i.nodes = size_at p m (Some i) e in
    let nl : n.0 < count p = omega (arith, count_within p m ml, high, start, s) in
    (nl, owner_is p n.0 m nl ml (omega (arith, low, start)) (omega (arith, high, start, s)))

-- a node's row, by what is kept of its method
pub row_is : (p : Facts) (x : Method) → IsMethodOf p x → (n : ℕ) → IsOf p n x.id.0 → n - x.first.0 ≡ row p n
row_is p x h n o = omega (arith, h.first_is, ap (first p) o.1)

pub starts_below : (p : Facts) (x : Method) → IsMethodOf p x → (n : ℕ) → IsOf p n x.id.0 → x.first.0 ≤ n
starts_below p x h n o = omega (arith, h.first_is, ap (first p) o.1, (placed p n o.0).above)

-- the row of a node has room
module _ (p : Facts) (ts : List Found) (x : Method) (n : ℕ) (h : IsMethodOf p x) (o : IsOf p n x.id.0) (found : AreFound p ts) where
  pub id_below : x.id.0 < length ts
  id_below = omega (arith, h.there, found.len)

  row_below : n - x.first.0 < size p x.id.0
  row_below = omega (arith, row_is p x h n o, ap (first p) o.1, ap (size p) o.1, (placed p n o.0).above, (placed p n o.0).below)

  module _ (opened : IsOpen p ts x.id.0) (t : Found) (is : t ≡ get_or ts x.id.0 t) where
    pub fits_waits : n - x.first.0 < length t.waits.items
    fits_waits = omega (arith, row_below, opened, ap length (read_is (λ t. t.waits.items) [] ts x.id.0 t id_below is))

    wide : size p x.id.0 * x.width ≡ size p x.id.0 * width p x.id.0
    wide = ap (λ k. size p x.id.0 * k) h.width_is

    room : (n - x.first.0) * x.width + x.width ≤ size p x.id.0 * width p x.id.0
    room = omega (arith, wide, mul-le (n - x.first.0 + 1) x.width (size p x.id.0) x.width (omega (arith, row_below)) (omega arith), distributes)
      where
        distributes : (n - x.first.0 + 1) * x.width ≡ (n - x.first.0) * x.width + x.width
        distributes = omega arith

    long : (xs : List ℕ) → length xs ≡ length (waits_of ts x.id.0) * width p x.id.0 → (n - x.first.0) * x.width + x.width ≤ length xs
    long xs e = omega (arith, e, room, ap (λ k. k * width p x.id.0) opened)

    pub fits_got : (n - x.first.0) * x.width + x.width ≤ length t.got.items
    fits_got = long t.got.items (ap length (sym (read_is (λ t. t.got.items) [] ts x.id.0 t id_below is)) ∙ found.got x.id.0)

    pub fits_todo : (n - x.first.0) * x.width + x.width ≤ length t.todo.items
    fits_todo = long t.todo.items (ap length (sym (read_is (λ t. t.todo.items) [] ts x.id.0 t id_below is)) ∙ found.todo x.id.0)

-- more exits come before a later node
before_rises : (xs : List NodeId) (a b : ℕ) → a ≤ b → before a xs ≤ before b xs
before_rises [] a b le = omega arith
before_rises (x ∷ xs) a b le =
    let rest = before_rises xs a b le in
    let here : cond (ltb x.0 a) 1 0 ≤ cond (ltb x.0 b) 1 0 = elim (cases_lt x.0 a) [
      | inl lt ↦ rw (lt-ltb x.0 a lt, lt-ltb x.0 b (omega arith)) (omega arith)
      | inr ge ↦ rw (le-ltb x.0 a ge) (omega arith)
    ] in
    omega (arith, rest, here, sum_by-cons (λ (y : NodeId). cond (ltb y.0 a) 1 0) x xs, sum_by-cons (λ (y : NodeId). cond (ltb y.0 b) 1 0) x xs)

-- .. and one more after a node of the list
before_more : (xs : List NodeId) (a b : ℕ) → a < b → Contains xs (node a) → before a xs < before b xs
before_more [] a b lt c = absurd (omega (arith, c.1))
before_more (x ∷ xs) a b lt c =
    let sa = sum_by-cons (λ (y : NodeId). cond (ltb y.0 a) 1 0) x xs in
    let sb = sum_by-cons (λ (y : NodeId). cond (ltb y.0 b) 1 0) x xs in
    elim (front_or x (node a) xs c) [
      | inl e ↦
          let is : x.0 ≡ a = ap (λ (y : NodeId). y.0) e in
          let low : ◌≡◌ {A = ℕ} (cond (ltb x.0 a) 1 0) 0 = rw (le-ltb x.0 a (omega (arith, is))) refl in
          let high : ◌≡◌ {A = ℕ} (cond (ltb x.0 b) 1 0) 1 = rw (lt-ltb x.0 b (omega (arith, is, lt))) refl in
          omega (arith, before_rises xs a b (omega (arith, lt)), low, high, sa, sb)
      | inr d ↦
          let here : cond (ltb x.0 a) 1 0 ≤ cond (ltb x.0 b) 1 0 = elim (cases_lt x.0 a) [
            | inl l ↦ rw (lt-ltb x.0 a l, lt-ltb x.0 b (omega (arith, l, lt))) (omega arith)
            | inr ge ↦ rw (le-ltb x.0 a ge) (omega arith)
          ] in
          omega (arith, before_more xs a b lt d, here, sa, sb)
    ]

-- an exit's number is below the count of its method's exits
pub number_low : (p : Facts) (e : ℕ) → IsExit p e → number_of p e < exit_count p (method_of p e)
number_low p e x =
    let h = placed p e x.0 in
    omega (arith, before_rises p.exits (first p (method_of p e)) e h.above, before_more p.exits e (first p (method_of p e) + size p (method_of p e)) h.below x.1)

-- two exits of a method with one number are one
pub one_exit : (p : Facts) (e d : ℕ) → IsExit p e → IsExit p d → method_of p e ≡ method_of p d → number_of p e ≡ number_of p d → e ≡ d
one_exit p e d x y m n =
    let start = ap (first_exit p) m in
    let lows = before_rises p.exits (first p (method_of p e)) e (placed p e x.0).above in
    let lowd = before_rises p.exits (first p (method_of p d)) d (placed p d y.0).above in
    elim (cases_lt e d) [
      | inl lt ↦ absurd (omega (arith, before_more p.exits e d lt x.1, n, start, lows, lowd))
      | inr ge ↦ elim (cases_lt d e) [
        | inl lt ↦ absurd (omega (arith, before_more p.exits d e lt y.1, n, start, lows, lowd))
        | inr le ↦ omega (arith, ge, le)
      ]
    ]

-- the node is one that look-ups take
pub some_node : (p : Facts) (n : NodeId) → n.0 < count p → IsSomeNode p.inputs n
some_node p n nl = let h = placed p n.0 nl in let e = slice_get-get_or p.inputs (method_of p n.0) None h.owned in (record { 0 = method_of p n.0 }, go (get_or p.inputs (method_of p n.0) None) e h)
  where
    go : (o : Option MethodInput) → slice_get p.inputs (method_of p n.0) ≡ Some o → IsPlaced p n.0 → (x : Option MethodInput) × (slice_get p.inputs (method_of p n.0) ≡ Some x) × HasNode x n
    go None e h = absurd (omega (arith, h.above, h.below, size_at p (method_of p n.0) None e))
    go (Some i) e h = (Some i, e, (omega (arith, h.above, (p.follow_on (method_of p n.0) i e).1), omega (arith, h.below, (p.follow_on (method_of p n.0) i e).1, size_at p (method_of p n.0) (Some i) e)))

pub is_owner : (p : Facts) (n : NodeId) (m : ℕ) → IsMethodOfNode p.inputs n (record { 0 = m }) → method_of p n.0 ≡ m
is_owner p n m (None, e, h) = absurd h
is_owner p n m (Some i, e, h) = (of_input p n m i e h.0 h.1).1

none_before : (xs : List NodeId) (n : ℕ) → ((k : ℕ) (d : NodeId) → k < length xs → n ≤ (get_or xs k d).0) → before n xs ≡ 0
none_before [] n h = refl
none_before (x ∷ xs) n h =
    let low : ◌≡◌ {A = ℕ} (cond (ltb x.0 n) 1 0) 0 = rw (le-ltb x.0 n (h 0 x (omega arith))) refl in
    omega (arith, low, none_before xs n (λ k d lt. h (suc k) d (omega arith)), sum_by-cons (λ (y : NodeId). cond (ltb y.0 n) 1 0) x xs)

place_is : (xs : List NodeId) (k : ℕ) (x : NodeId) → RiseBy node_cmp (λ n. n) xs → slice_get xs k ≡ Some x → before x.0 xs ≡ k
place_is [] k x r e = absurd (omega (arith, slice_get_within [] k x e))
place_is (y ∷ ys) zero x r e =
    let is : y ≡ x = same_Some y x e in
    let low : ◌≡◌ {A = ℕ} (cond (ltb y.0 x.0) 1 0) 0 = rw (le-ltb y.0 x.0 (omega (arith, ap (λ (n : NodeId). n.0) is))) refl in
    let above : (j : ℕ) (d : NodeId) → j < length ys → x.0 ≤ (get_or ys j d).0 = λ j d lt. omega (arith, less_is y.0 (get_or ys j d).0 (r 0 (suc j) d (omega arith) (omega arith)), ap (λ (n : NodeId). n.0) is) in
    omega (arith, low, none_before ys x.0 above, sum_by-cons (λ (z : NodeId). cond (ltb z.0 x.0) 1 0) y ys)
place_is (y ∷ ys) (suc k) x r e =
    let lt : k < length ys = slice_get_within ys k x e in
    let is : get_or ys k x ≡ x = get_or_from_slice_get ys k x x e in
    let first : y.0 < x.0 = omega (arith, less_is y.0 (get_or ys k x).0 (r 0 (suc k) x (omega arith) (omega arith)), ap (λ (n : NodeId). n.0) is) in
    let one : ◌≡◌ {A = ℕ} (cond (ltb y.0 x.0) 1 0) 1 = rw (lt-ltb y.0 x.0 first) refl in
    omega (arith, one, place_is ys k x (λ i j d l within. r (suc i) (suc j) d (omega arith) (omega arith)) e, sum_by-cons (λ (z : NodeId). cond (ltb z.0 x.0) 1 0) y ys)

pub exits_ascend : (p : Facts) → IsNonDecreasingBy (λ (x : NodeId). x.0) p.exits
exits_ascend p = λ i j d le lt. elim (cases_lt i j) [
  | inl below ↦ let h = less_is (get_or p.exits i d).0 (get_or p.exits j d).0 (p.exits_rise i j d below lt) in omega (arith, h)
  | inr ge ↦ let same : i ≡ j = omega (arith, le, ge) in omega (arith, ap (λ k. (get_or p.exits k d).0) same)
]

pub exits_rise_more : (p : Facts) (a b : ℕ) → a ≤ b → exits_before p a ≤ exits_before p b
exits_rise_more p a b le = before_rises p.exits a b le

-- as many exits come before an exit's node as its number says
pub exit_place : (p : Facts) (d : ExitId) (x : NodeId) → IsExitAt p d x → exits_before p x.0 ≡ d.0
exit_place p d x e = place_is p.exits d.0 x p.exits_rise e

pub is_exit : (p : Facts) (d : ExitId) (x : NodeId) → IsExitAt p d x → x.0 < count p → IsExit p x.0
is_exit p d x e nl = (nl, (d.0, slice_get_within p.exits d.0 x e, get_or_from_slice_get p.exits d.0 x x e))

-- an exit's number stands behind that of the first exit of its method
pub behind_first : (p : Facts) (d : ExitId) (x : NodeId) → IsExitAt p d x → x.0 < count p → d.0 ≡ first_exit p (method_of p x.0) + number_of p x.0
behind_first p d x e nl = omega (arith, exit_place p d x e, before_rises p.exits (first p (method_of p x.0)) x.0 (placed p x.0 nl).above)

-- an exit whose number is among those of a method's exits is one of them
pub exit_within : (p : Facts) (d : ExitId) (e : NodeId) (m k : ℕ) → IsExitAt p d e → e.0 < count p → m < length p.inputs → d.0 ≡ first_exit p m + k → k < exit_count p m → (method_of p e.0 ≡ m) × (number_of p e.0 ≡ k)
exit_within p d e m k at nl ml place low =
    let x = is_exit p d e at nl in
    let is = exit_place p d e at in
    let above : first p m ≤ e.0 = elim (cases_lt e.0 (first p m)) [ inl lt ↦ absurd (omega (arith, before_more p.exits e.0 (first p m) lt x.1, is, place)) | inr ge ↦ ge ] in
    let below : e.0 < first p m + size p m = elim (cases_lt e.0 (first p m + size p m)) [ inl lt ↦ lt | inr ge ↦ absurd (omega (arith, before_rises p.exits (first p m + size p m) e.0 ge, is, place, low)) ] in
    let own = owner_is p e.0 m nl ml above below in
    (own, omega (arith, is, place, ap (first_exit p) own))

-- a method in its place
module _ (p : Facts) (ms : List (Option Method)) (are : AreMethods p ms) (m : ℕ) (lt : m < length p.inputs) (o : Option Method) (is : o ≡ get_or ms m o) where
  pub read_method : slice_get ms m ≡ Some o
  read_method = slice_get_read ms (length ms) m o refl (omega (arith, lt, are.len)) is

  pub met_at : (x : Method) → o ≡ Some x → IsMetAs ms m x × IsMethodOf p x × (x.id.0 ≡ m)
  met_at x e = let h : IsMetAs ms m x = read_method ∙ ap (λ y. Some y) e in let r = are.right m x h in (h, r.0, r.1)

  pub not_met : o ≡ None → IsMet ms m → ⊥
  not_met e (x, h) = none (same_Some (Some x) None (sym h ∙ read_method ∙ ap (λ y. Some y) e))
    where
      none : Some x ≡ None → ⊥
      none e = absurd cc

-- an exit has one node
pub same_exit_node : (p : Facts) (d : ExitId) (a b : NodeId) → IsExitAt p d a → IsExitAt p d b → a.0 ≡ b.0
same_exit_node p d a b x y = ap (λ (n : NodeId). n.0) (same_Some a b (sym x ∙ y))

has_input_in : (p : Facts) (n : NodeId) → IsSomeNode p.inputs n → (i : MethodInput) × (slice_get p.inputs (method_of p n.0) ≡ Some (Some i))
has_input_in p n (m, (None, e, h)) = absurd h
has_input_in p n (m, (Some i, e, h)) = (i, subst (λ (k : ℕ). slice_get p.inputs k ≡ Some (Some i)) (sym (of_input p n m.0 i e h.0 h.1).1) e)

-- the method of a node has an input
pub has_input : (p : Facts) (n : NodeId) → n.0 < count p → (i : MethodInput) × (slice_get p.inputs (method_of p n.0) ≡ Some (Some i))
has_input p n nl = has_input_in p n (some_node p n nl)

get_set_same : {X : Type 0} (xs : List X) (m : ℕ) (x : X) → m < length xs → slice_get (set xs m x) m ≡ Some x
get_set_same xs m x lt = slice_get_read (set xs m x) (length (set xs m x)) m x refl (omega (arith, lt, length-set xs m x)) (sym (get_or-set_same xs m x x lt))

get_set_other : {X : Type 0} (xs : List X) (m j : ℕ) (x : X) → j ≢ m → slice_get (set xs m x) j ≡ slice_get xs j
get_set_other xs m j x ne = elim (cases_lt j (length xs)) [
  | inl lt ↦ slice_get-get_or (set xs m x) j x (omega (arith, lt, length-set xs m x)) ∙ ap (λ y. Some y) (get_or-set_other xs m j x x ne) ∙ sym (slice_get-get_or xs j x lt)
  | inr le ↦ slice_get_past (set xs m x) j (omega (arith, le, length-set xs m x)) ∙ sym (slice_get_past xs j le)
]

-- a method is kept in its place
module _ (p : Facts) (ms : List (Option Method)) (are : AreMethods p ms) (m : ℕ) (x : Method) (is : IsMethodOf p x) (id : x.id.0 ≡ m) where
  lt : m < length ms
  lt = omega (arith, is.there, id, are.len)

  pub met_there : IsMetAs (set ms m (Some x)) m x
  met_there = get_set_same ms m (Some x) lt

  pub methods_set : AreMethods p (set ms m (Some x))
  methods_set = record {
    len = length-set ms m (Some x) ∙ are.len;
    right = λ k y at. elim (cases_eq k m) [
      | inl e ↦
          let same : y ≡ x = same_Some y x (same_Some (Some y) (Some x) (sym at ∙ ap (slice_get (set ms m (Some x))) e ∙ met_there)) in
          (subst (λ (z : Method). IsMethodOf p z) (sym same) is, ap (λ (z : Method). z.id.0) same ∙ id ∙ sym e)
      | inr ne ↦ are.right k y (sym (get_set_other ms m k (Some x) ne) ∙ at)
    ];
  }

  pub kept_others : (IsMet ms m → ⊥) → (k : ℕ) (y : Method) → IsMetAs ms k y → IsMetAs (set ms m (Some x)) k y
  kept_others no_method k y at = elim (cases_eq k m) [
    | inl e ↦ absurd (no_method (y, ap (slice_get ms) (sym e) ∙ at))
    | inr ne ↦ get_set_other ms m k (Some x) ne ∙ at
  ]

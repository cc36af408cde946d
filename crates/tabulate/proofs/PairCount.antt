-- How many path edges there are.
use Rattle.std.proofs.Common.{◌≡◌, ℕ, zero, suc, ◌+◌, ◌-◌, ◌*◌, ◌/◌, ◌%◌, ◌<◌, ◌≤◌, List, [], ◌∷◌, ◌++◌, length, get_or, take, ◌⊎◌, inl, inr, refl, sym, subst, ap, ◌∙◌, arith}
use Rattle.std.specs.Prelude.{map, sum_by}
use Rattle.std.proofs.lemmas.Bool.{cases_lt}
use Rattle.std.proofs.lemmas.Nat.{div-add-mod', div-mul-add, mod-mul-add, div_below, mod_below}
use Rattle.std.proofs.lemmas.List.{get_or_append_left, get_or-append_right, get_or-map, length-append, length-map, take_all}
use Rattle.std.proofs.lemmas.List.Elements.{Contains-append_left, Contains-append_right}
use Rattle.std.proofs.lemmas.List.Sums.{sum_by_more}
use Rattle.bit_rows.specs.Words.{IsIn, ones_of}
use Rattle.bit_rows.proofs.Bits.{in_range}
use Rattle.bit_rows.proofs.Counting.{list_of_row}
use Rattle.slicer_ids.specs.declared.ids.NodeId.{NodeId}
use Rattle.slicer_ids.specs.declared.ids.ExitId.{ExitId}
use Rattle.dep_form.specs.declared.facts.Facts.{Facts}
use Rattle.dep_form.specs.Summaries.{HasSize}
use Rattle.tabulate.specs.declared.found.Found.{Found}
use Rattle.tabulate.specs.Frames.{node, count, method_of, first, size, width, first_exit, row, at}
use Rattle.tabulate.specs.Found.{Got, AreFound, got_of, total}
use Rattle.tabulate.proofs.Reading.{field_at}
use Rattle.tabulate.proofs.Placing.{placed, owner_is, count_within}

-- a set has as many members as another has
module _ {A : Type 0} where
  pub size_none : (P : A → Type 0) → ((x : A) → P x → ⊥) → HasSize P 0
  size_none P none = ([], record { each = λ k d lt. absurd (omega (arith, lt)); once = λ i j d lt l. absurd (omega (arith, l)); whole = λ x h. absurd (none x h) }, refl)

  pub size_same : (P Q : A → Type 0) (n : ℕ) → ((x : A) → P x → Q x) → ((x : A) → Q x → P x) → HasSize P n → HasSize Q n
  size_same P Q n to from (xs, l, e) = (xs, record { each = λ k d lt. to (get_or xs k d) (l.each k d lt); once = l.once; whole = λ x h. l.whole x (from x h) }, e)

  -- the members of two sets that have none in common
  pub size_both : (P Q R : A → Type 0) (n m : ℕ) → HasSize P n → HasSize Q m → ((x : A) → P x → Q x → ⊥) → ((x : A) → P x → R x) → ((x : A) → Q x → R x) → ((x : A) → R x → P x ⊎ Q x) → HasSize R (n + m)
  size_both P Q R n m (xs, l, e) (ys, r, f) apart left right cases = (
    xs ++ ys,
    record {
      each = λ k d lt. elim (cases_lt k (length xs)) [
        | inl low ↦ subst R (sym (get_or_append_left xs ys d k low)) (left (get_or xs k d) (l.each k d low))
        | inr high ↦ subst R (sym (get_or-append_right xs ys (length xs) k d refl high)) (right (get_or ys (k - length xs) d) (r.each (k - length xs) d (omega (arith, lt, high, length-append xs ys))))
      ];
      once = λ i j d lt within is. elim (cases_lt j (length xs)) [
        | inl low ↦ l.once i j d lt low (sym (get_or_append_left xs ys d i (omega (arith, lt, low))) ∙ is ∙ get_or_append_left xs ys d j low)
        | inr high ↦
            let jl : j - length xs < length ys = omega (arith, within, high, length-append xs ys) in
            let second = get_or-append_right xs ys (length xs) j d refl high in
            elim (cases_lt i (length xs)) [
              | inl low ↦ apart (get_or xs i d) (l.each i d low) (subst Q (sym (sym (get_or_append_left xs ys d i low) ∙ is ∙ second)) (r.each (j - length xs) d jl))
              | inr above ↦ r.once (i - length xs) (j - length xs) d (omega (arith, lt, above, high)) jl (sym (get_or-append_right xs ys (length xs) i d refl above) ∙ is ∙ second)
            ]
      ];
      whole = λ x h. elim (cases x h) [ inl p ↦ Contains-append_left xs ys x (l.whole x p) | inr q ↦ Contains-append_right xs ys x (r.whole x q) ];
    },
    omega (arith, e, f, length-append xs ys),
  )

-- the images of the members of a set, each of another
pub size_map : {A B : Type 0} (f : A → B) (none : A) (P : A → Type 0) (R : B → Type 0) (n : ℕ) → HasSize P n → ((a : A) → P a → R (f a)) → ((a b : A) → P a → P b → f a ≡ f b → a ≡ b) → ((y : B) → R y → (a : A) × P a × (f a ≡ y)) → HasSize R n
size_map f none P R n (xs, l, e) to one from = (
  map f xs,
  record {
    each = λ k d lt. let low : k < length xs = omega (arith, lt, length-map xs f) in subst R (sym (get_or-map f xs k none d low)) (to (get_or xs k none) (l.each k none low));
    once = λ i j d lt within is.
        let jl : j < length xs = omega (arith, within, length-map xs f) in
        let il : i < length xs = omega (arith, lt, jl) in
        l.once i j none lt jl (one (get_or xs i none) (get_or xs j none) (l.each i none il) (l.each j none jl) (sym (get_or-map f xs i none d il) ∙ is ∙ get_or-map f xs j none d jl));
    whole = λ y h.
        let a = from y h in
        let c = l.whole a.0 a.1 in
        (c.0, omega (arith, c.1, length-map xs f), get_or-map f xs c.0 a.0 y c.1 ∙ ap f c.2 ∙ a.2);
  },
  omega (arith, e, length-map xs f),
)

some_of : {X : Type 0} (xs : List X) → 0 < length xs → X
some_of [] lt = absurd (omega (arith, lt))
some_of (x ∷ xs) lt = x

module _ (p : Facts) (ts : List Found) (found : AreFound p ts) (R : NodeId × ExitId → Type 0)
    (each : (n x : ℕ) → Got p ts (n, x) → R (node n, record { 0 = first_exit p (method_of p n) + x }))
    (whole : (n : NodeId) (d : ExitId) → R (n, d) → (x : ℕ) × Got p ts (n.0, x) × (d.0 ≡ first_exit p (method_of p n.0) + x)) where
  -- the pairs of one method, and those of the methods before one
  Here : ℕ → NodeId × ExitId → Type 0
  Here m q = R q × (method_of p q.0.0 ≡ m)

  Below : ℕ → NodeId × ExitId → Type 0
  Below k q = R q × (method_of p q.0.0 < k)

  module _ (m : ℕ) (ml : m < length p.inputs) where
    abbrev w : ℕ
    w = 64 * width p m

    pair : ℕ → NodeId × ExitId
    pair i = (node (first p m + i / w), record { 0 = first_exit p m + i % w })

    -- the bit is that of a node of the method
    wide : (i : ℕ) → IsIn (got_of ts m) i → (0 < w) × (i / w < size p m)
    wide i b =
        let low = in_range (got_of ts m) i b in
        elim (found.shape m) [
          | inl z ↦ absurd (omega (arith, low, found.got m, ap (λ k. k * width p m) z))
          | inr o ↦
              let len : length (got_of ts m) ≡ size p m * width p m = found.got m ∙ ap (λ k. k * width p m) o in
              let fits : i < size p m * w = omega (arith, low, len) in
              let some : 0 < w = elim (cases_lt 0 w) [ inl l ↦ l | inr g ↦ absurd (omega (arith, fits, ap (λ k. size p m * k) (none_wide g))) ] in
              (some, div_below i w (size p m) some fits)
        ]
      where
        none_wide : w ≤ 0 → w ≡ 0
        none_wide g = omega (arith, g)

    owned : (i : ℕ) → IsIn (got_of ts m) i → (first p m + i / w < count p) × (method_of p (first p m + i / w) ≡ m)
    owned i b =
        let s = (wide i b).1 in
        let nl : first p m + i / w < count p = omega (arith, s, count_within p m ml) in
        (nl, owner_is p (first p m + i / w) m nl ml (omega arith) (omega (arith, s)))

    parts : (i : ℕ) → 64 * (i / w * width p m) + i % w ≡ i
    parts i = omega (arith, div-add-mod' i w)

    is_got : (i : ℕ) → IsIn (got_of ts m) i → Got p ts (first p m + i / w, i % w)
    is_got i b =
        let s = wide i b in
        let o = owned i b in
        let n : ℕ = first p m + i / w in
        let r : row p n ≡ i / w = omega (arith, ap (first p) o.1) in
        let place : 64 * at p n + i % w ≡ i = ap (λ k. 64 * (row p n * k) + i % w) (ap (width p) o.1) ∙ ap (λ k. 64 * (k * width p m) + i % w) r ∙ parts i in
        (o.0, omega (arith, mod_below i w s.0, ap (width p) o.1), subst (λ (k : ℕ). IsIn (got_of ts k) (64 * at p n + i % w)) (sym o.1) (subst (λ (j : ℕ). IsIn (got_of ts m) j) (sym place) b))

    here_to : (i : ℕ) → IsIn (got_of ts m) i → Here m (pair i)
    unfolding Here pair
    here_to i b = let o = owned i b in (subst (λ (k : ℕ). R (node (first p m + i / w), record { 0 = first_exit p k + i % w })) o.1 (each (first p m + i / w) (i % w) (is_got i b)), o.1)

    here_one : (i j : ℕ) → IsIn (got_of ts m) i → IsIn (got_of ts m) j → pair i ≡ pair j → i ≡ j
    unfolding pair
    here_one i j a b is =
        let n : first p m + i / w ≡ first p m + j / w = ap (λ (q : NodeId × ExitId). q.0.0) is in
        let x : first_exit p m + i % w ≡ first_exit p m + j % w = ap (λ (q : NodeId × ExitId). q.1.0) is in
        let same_row : i / w ≡ j / w = omega (arith, n) in
        let same_bit : i % w ≡ j % w = omega (arith, x) in
        sym (parts i) ∙ ap (λ k. 64 * (k * width p m) + i % w) same_row ∙ ap (λ k. 64 * (j / w * width p m) + k) same_bit ∙ parts j

    here_from : (q : NodeId × ExitId) → Here m q → (i : ℕ) × IsIn (got_of ts m) i × (pair i ≡ q)
    unfolding Here pair
    here_from q (r, own) =
        let g = whole q.0 q.1 r in
        let n : ℕ = q.0.0 in
        let x : ℕ = g.0 in
        let i : ℕ = row p n * w + x in
        let low : x < w = omega (arith, g.1.1, ap (width p) own) in
        let place : 64 * at p n + x ≡ i = ap (λ k. 64 * (row p n * k) + x) (ap (width p) own) ∙ omega arith in
        let node_is : first p m + i / w ≡ n = omega (arith, div-mul-add (row p n) w x low, ap (first p) own, (placed p n g.1.0).above) in
        let exit_is : first_exit p m + i % w ≡ q.1.0 = omega (arith, mod-mul-add (row p n) w x low, g.2, ap (first_exit p) own) in
        (i, subst (λ (j : ℕ). IsIn (got_of ts m) j) place (subst (λ (k : ℕ). IsIn (got_of ts k) (64 * at p n + x)) own g.1.2), same_pair (first p m + i / w) (first_exit p m + i % w) n q.1.0 node_is exit_is)
      where
        same_pair : (a b c d : ℕ) → a ≡ c → b ≡ d → ◌≡◌ {A = NodeId × ExitId} (node a, record { 0 = b }) (node c, record { 0 = d })
        same_pair a b c d e f = ap (λ (k : ℕ). (node k, record { 0 = b })) e ∙ ap (λ (k : ℕ). (node c, record { 0 = k })) f

    size_here : HasSize (Here m) (ones_of (got_of ts m))
    size_here = let l = list_of_row (got_of ts m) (found.words m) in size_map pair 0 (IsIn (got_of ts m)) (Here m) (ones_of (got_of ts m)) (l.0, l.1, l.2) here_to here_one here_from

  size_below : (k : ℕ) → k ≤ length p.inputs → HasSize (Below k) (sum_by (λ (t : Found). ones_of t.got.items) (take k ts))
  unfolding Below Here
  size_below zero le = size_none (Below 0) (λ q h. omega (arith, h.1))
  size_below (suc k) le =
      let kl : k < length ts = omega (arith, le, found.len) in
      let some : Found = some_of ts (omega (arith, kl)) in
      let both = size_both (Below k) (Here k) (Below (suc k)) (sum_by (λ (t : Found). ones_of t.got.items) (take k ts)) (ones_of (got_of ts k)) (size_below k (omega (arith, le))) (size_here k (omega (arith, le)))
      (λ q a b. omega (arith, a.1, b.1)) (λ q a. (a.0, omega (arith, a.1))) (λ q b. (b.0, omega (arith, b.1))) (λ q h. elim (cases_lt (method_of p q.0.0) k) [ inl low ↦ inl (h.0, low) | inr high ↦ inr (h.0, omega (arith, h.1, high)) ]) in
      let here_is : ones_of (got_of ts k) ≡ ones_of (get_or ts k some).got.items = ap ones_of (field_at (λ t. t.got.items) [] ts k some kl) in
      let next : k + 1 ≡ suc k = omega arith in
      let more = sum_by_more (λ (t : Found). ones_of t.got.items) ts k some kl in
      subst (HasSize (Below (suc k))) (ap (λ j. sum_by (λ (t : Found). ones_of t.got.items) (take k ts) + j) here_is ∙ sym more ∙ ap (λ j. sum_by (λ (t : Found). ones_of t.got.items) (take j ts)) next) both

  -- as many as there are bits
  pub size_all : HasSize R (total ts)
  unfolding Below
  size_all = subst (HasSize R) (ap (sum_by (λ (t : Found). ones_of t.got.items)) (take_all (length p.inputs) ts (omega (arith, found.len))))
      (size_same (Below (length p.inputs)) R (sum_by (λ (t : Found). ones_of t.got.items) (take (length p.inputs) ts)) (λ q h. h.0) (λ q r. (r, (placed p q.0.0 (whole q.0 q.1 r).1.0).owned)) (size_below (length p.inputs) (omega arith)))

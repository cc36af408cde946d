-- Marks, and rows of a graph.
use Rattle.std.proofs.Common.{◌≡◌, ℕ, ◌+◌, ◌<◌, ◌⊎◌, inl, inr, Bool, true, false, cond, List, [], length, set, get_or, All, Contains, refl, sym, subst, ◌∙◌, ap, arith, get_or-set_same, get_or-set_other, replicate}
use Rattle.std.specs.Prelude.{count_by, not, slice_index, slice_get, Some}
use Rattle.std.specs.Option.{option_map_or}
use Rattle.std.specs.Global.{Vec}
use Rattle.std.proofs.lemmas.Bool.{cases_eq, cases_lt, false≢true}
use Rattle.std.proofs.lemmas.List.{get_or_past, get_or-replicate, length-replicate, get_or_read}
use Rattle.std.proofs.lemmas.List.Sums.{sum_by-set}
use Rattle.std.proofs.lemmas.List.Elements.{All-contains, Contains-get_or}
use Rattle.std.proofs.lemmas.Option.{slice_get_read, slice_get_cases}
use Rattle.std.proofs.lemmas.Grind.{get_or_default_zero}
use Rattle.digraph.specs.Graphs.{targets, HasEdge, IsGraph, is_marked, IsMarked}

pub marked_cases : (marks : List Bool) (n a : ℕ) → IsMarked (set marks n true) a → IsMarked marks a ⊎ (a ≡ n)
marked_cases marks n a h = elim (cases_eq a n) [ inl e ↦ inr e | inr ne ↦ inl (sym (get_or-set_other marks n a true false ne) ∙ h) ]

pub marked_now : (marks : List Bool) (n : ℕ) → n < length marks → IsMarked (set marks n true) n
marked_now marks n lt = get_or-set_same marks n true false lt

pub marked_within : (marks : List Bool) (n : ℕ) → IsMarked marks n → n < length marks
marked_within marks n h = elim (cases_lt n (length marks)) [ inl lt ↦ lt | inr le ↦ absurd (false≢true (sym (get_or_past marks n false le) ∙ h)) ]

pub marked_stays : (marks : List Bool) (n a : ℕ) → IsMarked marks a → IsMarked (set marks n true) a
marked_stays marks n a h = elim (cases_eq a n) [
  | inl e ↦ rw e (get_or-set_same marks n true false (marked_within marks n (subst (λ (k : ℕ). IsMarked marks k) e h)))
  | inr ne ↦ get_or-set_other marks n a true false ne ∙ h
]

pub unmarked : (size a : ℕ) → IsMarked (replicate size false) a → ⊥
unmarked size a h = elim (cases_lt a size) [
  | inl lt ↦ absurd (false≢true (sym (get_or-replicate size a false false lt) ∙ h))
  | inr le ↦ absurd (false≢true (sym (get_or_past (replicate size false) a false (omega (arith, length-replicate size false))) ∙ h))
]

-- one mark less is unset
pub fewer_unmarked : (marks : List Bool) (n : ℕ) → n < length marks → is_marked marks n ≡ false → count_by not (set marks n true) + 1 ≡ count_by not marks
fewer_unmarked marks n lt e =
    let s = sum_by-set (λ x. cond (not x) 1 0) marks n true false lt in
    let one : ℕ = 1 in
    let o : cond (not (get_or marks n false)) one 0 ≡ one = rw e refl in
    omega (arith, s, o)

-- the edges of a node are its row's
pub targets_row : (g : List (Vec ℕ)) (n : ℕ) (row : Vec ℕ) → n < length g → row ≡ get_or g n row → targets g n ≡ row.items
targets_row g n row lt e = ap (λ o. option_map_or (λ (r : Vec ℕ). r.items) o []) (slice_get_read g (length g) n row refl lt e)

pub target_edge : (g : List (Vec ℕ)) (n k : ℕ) → k < length (targets g n) → HasEdge g n (slice_index (targets g n) k)
target_edge g n k lt = Contains-get_or (targets g n) k 0 lt

pub edge_place : (g : List (Vec ℕ)) (n b : ℕ) → HasEdge g n b → (k : ℕ) × (k < length (targets g n)) × (slice_index (targets g n) k ≡ b)
edge_place g n b h = (h.0, h.1, sym (get_or_default_zero (targets g n) h.0 b h.1) ∙ h.2)

-- a node of an edge has a row
row_of : (g : List (Vec ℕ)) (n b : ℕ) → HasEdge g n b → (row : Vec ℕ) × (n < length g) × (slice_get g n ≡ Some row) × (get_or g n row ≡ row)
row_of g n b h = elim (slice_get_cases g n).1 [
  | inl r ↦ r
  | inr none ↦ absurd (no_row (ap (λ o. option_map_or (λ (r : Vec ℕ). r.items) o []) none.1))
]
  where
    no_row : targets g n ≡ [] → ⊥
    no_row e = omega (arith, ap length e, h.1)

pub node_of_edge : (g : List (Vec ℕ)) (n b : ℕ) → HasEdge g n b → n < length g
node_of_edge g n b h = (row_of g n b h).1

pub target_within : (g : List (Vec ℕ)) (n b : ℕ) → IsGraph g → HasEdge g n b → b < length g
target_within g n b h e =
    let r = row_of g n b e in
    let t : targets g n ≡ (r.0).items = ap (λ o. option_map_or (λ (x : Vec ℕ). x.items) o []) r.2 in
    All-contains (λ b. b < length g) (r.0).items b (subst (λ (x : Vec ℕ). All (λ b. b < length g) x.items) r.3 (h n r.0 r.1)) (subst (λ (xs : List ℕ). Contains xs b) t e)

-- what a read of a list of numbers gave
pub number_read : (xs : List ℕ) (i x : ℕ) → i < length xs → x ≡ get_or xs i x → slice_index xs i ≡ x
number_read xs i x lt e = sym (get_or_default_zero xs i x lt) ∙ sym e

-- what a read of a row gave
pub edge_read : (g : List (Vec ℕ)) (n k t : ℕ) (row : Vec ℕ) → n < length g → row ≡ get_or g n row → k < length row.items → t ≡ get_or row.items k t
    → (slice_index (targets g n) k ≡ t) × HasEdge g n t
edge_read g n k t row lt e l r =
    let same = targets_row g n row lt e in
    let at : slice_index (targets g n) k ≡ t = ap (λ xs. slice_index xs k) same ∙ number_read row.items k t l r in
    (at, subst (HasEdge g n) at (target_edge g n k (omega (arith, ap length same))))

-- what a read of marks gave
pub mark_read : (marks : List Bool) (i : ℕ) (b c : Bool) → i < length marks → b ≡ get_or marks i b → b ≡ c → is_marked marks i ≡ c
mark_read marks i b c lt e h = sym (get_or_read marks i b lt e false) ∙ h

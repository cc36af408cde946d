-- Points by their pc, and the numbers of places.
use Rattle.std.proofs.Common.{◌≡◌, ◌≢◌, ◌<◌, ◌+◌, ◌-◌, ◌*◌, ◌/◌, ◌%◌, ℕ, List, length, get_or, set, AllPairs, Contains, Some, inl, inr, sym, ap, subst, ◌∙◌, arith, get_or-set_same, get_or-set_other, length-set}
use Rattle.std.specs.Prelude.{slice_get}
use Rattle.std.specs.Option.{option_map_or}
use Rattle.std.proofs.lemmas.Bool.{cases_lt}
use Rattle.std.proofs.lemmas.Nat.{div-mul-add, mod-mul-add, mul-add-lt, div-add-mod', div_below}
use Rattle.std.proofs.lemmas.Option.{slice_get_within, slice_get-get_or, get_or_from_slice_get, same_Some}
use Rattle.class_form.specs.declared.body.Point.{Point}
use Rattle.class_form.specs.Reaching.{Place, IsPoint}
use Rattle.worklists.specs.Growth.{Grows}
use Rattle.worklists.proofs.Growing.{Grows-same}
use Rattle.reaching_defs.specs.declared.frame.Frame.{Frame}
use Rattle.reaching_defs.specs.Points.{IsIndex}
use Rattle.reaching_defs.specs.Frames.{place, pc_at, count, place_in, IsIn, IsNumberOf}

-- an element and its index
pub index_in : {A : Type 0} (xs : List A) (x : A) → Contains xs x → (k : ℕ) × (slice_get xs k ≡ Some x)
index_in {A} xs x c = (c.0, slice_get-get_or xs c.0 x c.1 ∙ ap (λ (y : A). Some y) c.2)

pub there_at : {A : Type 0} (xs : List A) (k : ℕ) (x : A) → slice_get xs k ≡ Some x → Contains xs x
there_at xs k x e = (k, slice_get_within xs k x e, get_or_from_slice_get xs k x x e)

pub read_at : {A : Type 0} (xs : List A) (k : ℕ) (x : A) → k < length xs → x ≡ get_or xs k x → slice_get xs k ≡ Some x
read_at {A} xs k x lt e = slice_get-get_or xs k x lt ∙ ap (λ (y : A). Some y) (sym e)

-- points in order of pc: the earlier has the lesser
pub lesser_pc : (points : List Point) (i j : ℕ) (p q : Point) → AllPairs (λ (a b : Point). a.pc < b.pc) points → i < j → slice_get points i ≡ Some p → slice_get points j ≡ Some q → p.pc < q.pc
lesser_pc points i j p q order lt a b =
    let h = order i j p lt (slice_get_within points j q b) in
    subst (λ (x : Point). x.pc < q.pc) (get_or_from_slice_get points i p p a) (subst (λ (x : Point). (get_or points i p).pc < x.pc) (get_or_from_slice_get points j q p b) h)

-- one more point is in the index
pub index_more : (points : List Point) (index : List ℕ) (k : ℕ) (q : Point) → AllPairs (λ (a b : Point). a.pc < b.pc) points → slice_get points k ≡ Some q → q.pc < length index
    → ((j : ℕ) (p : Point) → j < k → slice_get points j ≡ Some p → (p.pc < length index) × (get_or index p.pc 0 ≡ j))
    → (j : ℕ) (p : Point) → j < k + 1 → slice_get points j ≡ Some p → (p.pc < length (set index q.pc k)) × (get_or (set index q.pc k) p.pc 0 ≡ j)
index_more points index k q order is within before j p lt e = elim (cases_lt j k) [
  | inl earlier ↦
      let less = lesser_pc points j k p q order earlier e is in
      let other : p.pc ≢ q.pc = omega arith in
      (omega (arith, length-set index q.pc k, (before j p earlier e).0), get_or-set_other index q.pc p.pc k 0 other ∙ (before j p earlier e).1)
  | inr le ↦
      let same : j ≡ k = omega arith in
      let one : p ≡ q = same_Some p q (sym e ∙ ap (slice_get points) same ∙ is) in
      subst (λ (x : Point). (x.pc < length (set index q.pc k)) × (get_or (set index q.pc k) x.pc 0 ≡ j)) (sym one) (omega (arith, length-set index q.pc k), get_or-set_same index q.pc k 0 within ∙ sym same)
]

-- the point at a pc, by the index
pub point_by_index : (points : List Point) (index : List ℕ) (pc : ℕ) (p : Point) → IsIndex points index → Contains points p → p.pc ≡ pc
    → (pc < length index) × (slice_get points (get_or index pc 0) ≡ Some p)
point_by_index points index pc p is c e =
    let k = index_in points p c in
    let h = is k.0 p k.1 in
    (subst (λ n. n < length index) e h.0, ap (slice_get points) (subst (λ n. get_or index n 0 ≡ k.0) e h.1) ∙ k.1)

-- there is one point at a pc
pub one_point : (points : List Point) (index : List ℕ) (pc : ℕ) (p q : Point) → IsIndex points index → Contains points p → p.pc ≡ pc → Contains points q → q.pc ≡ pc → p ≡ q
one_point points index pc p q is c e d f =
    same_Some p q (sym (point_by_index points index pc p is c e).1 ∙ (point_by_index points index pc q is d f).1)

pub pc_of : (points : List Point) (k : ℕ) (p : Point) → slice_get points k ≡ Some p → pc_at points k ≡ p.pc
pc_of points k p e = ap (λ o. option_map_or (λ (x : Point). x.pc) o 0) e

module _ (f : Frame) (index : IsIndex f.shape.now.points f.index.now) (pc slot : ℕ) (p : Point) (there : IsPoint f.shape.now pc p) (within : IsIn f slot) where
  points : List Point
  points = f.shape.now.points

  abbrev pub number : ℕ
  number = get_or f.index.now pc 0 * f.width + (slot - f.first)

  abbrev pub found : (pc < length f.index.now) × (slice_get f.shape.now.points (get_or f.index.now pc 0) ≡ Some p)
  found = point_by_index f.shape.now.points f.index.now pc p index there.0 there.1

  pub index-lt : get_or f.index.now pc 0 < length f.shape.now.points
  index-lt = slice_get_within f.shape.now.points (get_or f.index.now pc 0) p found.1

  column : slot - f.first < f.width
  column = omega (arith, within.0, within.1)

  pub number-lt : number < count f
  number-lt = omega (arith, mul-add-lt (get_or f.index.now pc 0) f.width (slot - f.first) (length f.shape.now.points) index-lt column)

  pub number_is : place_in f number ≡ place pc slot
  number_is =
      let row : number / f.width ≡ get_or f.index.now pc 0 = div-mul-add (get_or f.index.now pc 0) f.width (slot - f.first) column in
      let rest : number % f.width ≡ slot - f.first = mod-mul-add (get_or f.index.now pc 0) f.width (slot - f.first) column in
      let first : pc_at f.shape.now.points (number / f.width) ≡ pc = ap (pc_at f.shape.now.points) row ∙ pc_of f.shape.now.points (get_or f.index.now pc 0) p found.1 ∙ there.1 in
      let second : f.first + number % f.width ≡ slot = omega (arith, rest, within.0) in
      ap (λ (n : ℕ). place n (f.first + number % f.width)) first ∙ ap (λ (n : ℕ). place pc n) second

  pub only_number : (m : ℕ) → IsNumberOf f (place pc slot) m → m ≡ number
  only_number m is =
      let pos : 0 < f.width = omega (arith, within.0, within.1) in
      let lt : m / f.width < length f.shape.now.points = div_below m f.width (length f.shape.now.points) pos is.0 in
      let q = get_or f.shape.now.points (m / f.width) p in
      let at : slice_get f.shape.now.points (m / f.width) ≡ Some q = slice_get-get_or f.shape.now.points (m / f.width) p lt in
      let same_pc : q.pc ≡ pc = sym (pc_of f.shape.now.points (m / f.width) q at) ∙ ap (λ (a : Place). a.pc) is.1 in
      let row : get_or f.index.now pc 0 ≡ m / f.width = subst (λ n. get_or f.index.now n 0 ≡ m / f.width) same_pc (index (m / f.width) q at).1 in
      let column_is : f.first + m % f.width ≡ slot = ap (λ (a : Place). a.slot) is.1 in
      let whole = div-add-mod' m f.width in
      sym whole ∙ ap (λ n. n * f.width + m % f.width) (sym row) ∙ ap (λ n. get_or f.index.now pc 0 * f.width + n) (omega (arith, column_is))

  pub grows_number : (old new : List ℕ) → Grows old new (λ n. n ≡ number) → Grows old new (IsNumberOf f (place pc slot))
  grows_number old new g = Grows-same old new (λ n. n ≡ number) (IsNumberOf f (place pc slot)) (λ n e. subst (IsNumberOf f (place pc slot)) (sym e) (number-lt, number_is)) (λ n is. only_number n is) g

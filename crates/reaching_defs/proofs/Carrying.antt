-- Where one step of control leads.
use Rattle.std.proofs.Common.{◌≡◌, ◌<◌, ◌≤◌, ◌+◌, ◌*◌, ◌/◌, ◌%◌, ℕ, List, length, Contains, Some, ◌⊎◌, inl, inr, refl, sym, ap, subst, ◌∙◌, arith}
use Rattle.std.specs.Prelude.{slice_get}
use Rattle.std.proofs.Math.Nat.{mul-zero}
use Rattle.std.proofs.lemmas.Bool.{cases_lt}
use Rattle.std.proofs.lemmas.Nat.{mod_below}
use Rattle.class_form.specs.declared.body.Point.{Point}
use Rattle.class_form.specs.Reaching.{Place, IsPoint, Keeps, Carries}
use Rattle.worklists.specs.Growth.{Grows, FromOne}
use Rattle.worklists.proofs.Growing.{Grows-same, Grows-none, Grows-then}
use Rattle.reaching_defs.specs.declared.frame.Frame.{Frame}
use Rattle.reaching_defs.specs.Frames.{place, count, place_in, IsIn, IsNumberOf, IsFrame, CarriesOn, IsKept, IsMoved, GoesOn, IsThrown, Steps}
use Rattle.reaching_defs.proofs.Places.{one_point, pc_of, there_at}

-- kept, where that was tested
pub grows_kept : (f : Frame) (p : Point) (slot pc : ℕ) (old new : List ℕ) → ((q : Point) × IsPoint f.shape.now pc q × Keeps f.shape.now p q slot)
    → Grows old new (IsNumberOf f (place pc slot)) → Grows old new (IsKept f p slot pc)
grows_kept f p slot pc old new h g = Grows-same old new (IsNumberOf f (place pc slot)) (IsKept f p slot pc) (λ n is. (h.0, h.1, h.2, is)) (λ n k. k.3) g

pub never_kept : (f : Frame) (p : Point) (slot pc : ℕ) (old : List ℕ) → (((q : Point) × IsPoint f.shape.now pc q × Keeps f.shape.now p q slot) → ⊥) → Grows old old (IsKept f p slot pc)
never_kept f p slot pc old never = Grows-none old (IsKept f p slot pc) (λ n k. never (k.0, k.1, k.2))

pub grows_moved : (f : Frame) (slot pc from to : ℕ) (old new : List ℕ) → from ≡ slot → Grows old new (IsNumberOf f (place pc to)) → Grows old new (IsMoved f slot pc (from, to))
grows_moved f slot pc from to old new e g = Grows-same old new (IsNumberOf f (place pc to)) (IsMoved f slot pc (from, to)) (λ n is. (e, is)) (λ n m. m.1) g

pub never_moved : (f : Frame) (slot pc from to : ℕ) (old : List ℕ) → (from ≡ slot → ⊥) → Grows old old (IsMoved f slot pc (from, to))
never_moved f slot pc from to old never = Grows-none old (IsMoved f slot pc (from, to)) (λ n m. never m.0)

pub grows_on : (f : Frame) (p : Point) (slot pc : ℕ) (old mid new : List ℕ) → Grows old mid (IsKept f p slot pc) → Grows mid new (FromOne (IsMoved f slot pc) p.moves) → Grows old new (GoesOn f p slot pc)
grows_on f p slot pc old mid new g h = Grows-then old mid new (IsKept f p slot pc) (FromOne (IsMoved f slot pc) p.moves) (GoesOn f p slot pc) (λ n x. x) (λ n x. x) g h

pub grows_thrown : (f : Frame) (slot h : ℕ) (old new : List ℕ) → slot < f.shape.now.max_locals → Grows old new (IsNumberOf f (place h slot)) → Grows old new (IsThrown f slot h)
grows_thrown f slot h old new lt g = Grows-same old new (IsNumberOf f (place h slot)) (IsThrown f slot h) (λ n is. (lt, is)) (λ n t. t.1) g

pub never_thrown : (f : Frame) (slot : ℕ) (handlers old : List ℕ) → f.shape.now.max_locals ≤ slot → Grows old old (FromOne (IsThrown f slot) handlers)
never_thrown f slot handlers old le = Grows-none old (FromOne (IsThrown f slot) handlers) (λ n t. absurd (omega (arith, t.2.0)))

-- what a move leads to is in the frame
pub moved_in : (f : Frame) (p : Point) (pc slot to : ℕ) → IsFrame f → Contains f.shape.now.points p → Contains p.next pc → Contains p.moves (slot, to) → IsIn f slot → IsIn f to
moved_in f p pc slot to frame c next moves within =
    let q = frame.flow.goes p.pc pc (p, (c, refl), inl next) in
    frame.closed (place p.pc slot) (place pc to) (p, q.0, (c, refl), q.1, inl (next, inr moves)) within

pub width_pos : (f : Frame) (n : ℕ) → n < count f → 0 < f.width
width_pos f n lt = elim (cases_lt 0 f.width) [
  | inl pos ↦ pos
  | inr le ↦ let none : length f.shape.now.points * f.width ≡ 0 = ap (λ (w : ℕ). length f.shape.now.points * w) (omega arith) ∙ mul-zero (length f.shape.now.points) in absurd (omega arith)
]

module _ (f : Frame) (frame : IsFrame f) (n : ℕ) (p : Point) (at : slice_get f.shape.now.points (n / f.width) ≡ Some p) where
  abbrev pub slot_of : ℕ
  slot_of = f.first + n % f.width

  here : IsPoint f.shape.now (place_in f n).pc p
  here = (there_at f.shape.now.points (n / f.width) p at, sym (pc_of f.shape.now.points (n / f.width) p at))

  to : (m : ℕ) → Steps f n m → FromOne (GoesOn f p slot_of) p.next m ⊎ FromOne (IsThrown f slot_of) p.handlers m
  to m h =
      let s = f.shape.now in
      let b = place_in f m in
      let r = h.1 in
      let is : r.0 ≡ p = one_point s.points f.index.now (place_in f n).pc r.0 p frame.index r.2.0 r.2.1 here.0 here.1 in
      let on = subst (λ (x : Point). CarriesOn s x r.1 slot_of b) is r.4 in
      elim on [
        | inl next ↦ elim next.1 [
          | inl kept ↦ inl (b.pc, next.0, inl (r.1, r.3, kept.1, (h.0, ap (λ (x : ℕ). place b.pc x) (sym kept.0))))
          | inr moved ↦ inl (b.pc, next.0, inr ((slot_of, b.slot), moved, (refl, (h.0, refl))))
        ]
        | inr thrown ↦ inr (b.pc, thrown.0, (thrown.2, (h.0, ap (λ (x : ℕ). place b.pc x) (sym thrown.1))))
      ]

  steps_to : (m : ℕ) (b : Place) (q : Point) → IsNumberOf f b m → IsPoint f.shape.now b.pc q → CarriesOn f.shape.now p q slot_of b → Steps f n m
  steps_to m b q is point on = (is.0, subst (λ (x : Place). Carries f.shape.now (place_in f n) x) (sym is.1) (p, q, here, point, on))

  from : (m : ℕ) → FromOne (GoesOn f p slot_of) p.next m ⊎ FromOne (IsThrown f slot_of) p.handlers m → Steps f n m
  from m (inl (pc, next, inl (q, point, keeps, is))) = steps_to m (place pc slot_of) q is point (inl (next, inl (refl, keeps)))
  from m (inl (pc, next, inr (move, c, (e, is)))) =
      let q = frame.flow.goes p.pc pc (p, (here.0, refl), inl next) in
      let c2 : Contains p.moves (slot_of, move.1) = subst (λ (x : ℕ). Contains p.moves (x, move.1)) e c in
      steps_to m (place pc move.1) q.0 is q.1 (inl (next, inr c2))
  from m (inr (pc, handler, (lt, is))) =
      let q = frame.flow.goes p.pc pc (p, (here.0, refl), inr handler) in
      steps_to m (place pc slot_of) q.0 is q.1 (inr (handler, refl, lt))

  pub grows_steps : (old mid new : List ℕ) → Grows old mid (FromOne (GoesOn f p slot_of) p.next) → Grows mid new (FromOne (IsThrown f slot_of) p.handlers) → Grows old new (Steps f n)
  grows_steps old mid new g h = Grows-then old mid new (FromOne (GoesOn f p slot_of) p.next) (FromOne (IsThrown f slot_of) p.handlers) (Steps f n) to from g h

  -- the number's own slot is in the frame
  pub slot_in : n < count f → IsIn f slot_of
  slot_in lt = let m = mod_below n f.width (width_pos f n lt) in (omega arith, omega arith)

pub that_move : (moves : List (ℕ × ℕ)) (m : ℕ × ℕ) (slot : ℕ) → Contains moves m → m.0 ≡ slot → Contains moves (slot, m.1)
that_move moves m slot c e = subst (λ (x : ℕ). Contains moves (x, m.1)) e c

-- A local alone, and the whole stack, are frames that nothing leaves.
use Rattle.std.proofs.Common.{◌≡◌, ◌<◌, ◌≤◌, ◌+◌, ℕ, List, All, Contains, inl, inr, refl, sym, ap, subst, ◌∙◌, arith}
use Rattle.std.proofs.lemmas.List.Sums.{sum_by_more_le}
use Rattle.std.proofs.lemmas.List.Elements.{All-contains}
use Rattle.std.proofs.lemmas.Option.{slice_get_within, get_or_from_slice_get}
use Rattle.class_form.specs.declared.body.Point.{Point}
use Rattle.class_form.specs.declared.body.Shape.{Shape}
use Rattle.class_form.specs.declared.body.Def.{Def}
use Rattle.class_form.specs.declared.body.Def.TheVariants.{Formal, Value, Caught}
use Rattle.class_form.specs.Reaching.{Place, IsFlow, Carries, Begins}
use Rattle.worklists.specs.Growth.{Grows, FromOne}
use Rattle.worklists.proofs.Growing.{Grows-same, Grows-none}
use Rattle.reaching_defs.specs.declared.frame.Frame.{Frame}
use Rattle.reaching_defs.specs.declared.spread.Fact.{Fact}
use Rattle.reaching_defs.specs.Points.{IsIndex}
use Rattle.reaching_defs.specs.Frames.{place, count, place_in, IsIn, IsNumberOf, IsFrame, Comes}
use Rattle.reaching_defs.specs.Facts.{fact, IsFactAt, IsFactFrom}

pub local_frame : (f : Frame) → IsFlow f.shape.now → IsIndex f.shape.now.points f.index.now → f.first < f.shape.now.max_locals → f.width ≡ 1 → f.first + 1 ≤ 4294967296 → IsFrame f
local_frame f flow index lt one fits = record { fits = omega arith; flow = flow; index = index; closed = closed }
  where
    same : (a b : ℕ) → a ≡ b → IsIn f a → IsIn f b
    same a b e h = subst (IsIn f) e h

    closed : (a b : Place) → Carries f.shape.now a b → IsIn f a.slot → IsIn f b.slot
    closed a b r within = elim r.4 [
      | inl next ↦ elim next.1 [
        | inl kept ↦ same a.slot b.slot kept.0 within
        | inr moved ↦ absurd (omega (arith, (flow.moved r.0 a.slot b.slot r.2.0 moved).0, within.1, one))
      ]
      | inr thrown ↦ same a.slot b.slot thrown.1 within
    ]

pub stack_frame : (f : Frame) → IsFlow f.shape.now → IsIndex f.shape.now.points f.index.now → f.first ≡ f.shape.now.max_locals → All (λ p. p.depth ≤ f.width) f.shape.now.points → f.first + f.width ≤ 4294967296 → IsFrame f
stack_frame f flow index first deep fits = record { fits = fits; flow = flow; index = index; closed = closed }
  where
    depth_le : (q : Point) → Contains f.shape.now.points q → q.depth ≤ f.width
    depth_le q c = All-contains (λ (p : Point). p.depth ≤ f.width) f.shape.now.points q deep c

    closed : (a b : Place) → Carries f.shape.now a b → IsIn f a.slot → IsIn f b.slot
    closed a b r within =
        let q = r.1 in
        let le = depth_le q r.3.0 in
        elim r.4 [
          | inl next ↦ elim next.1 [
            | inl kept ↦ subst (IsIn f) kept.0 within
            | inr moved ↦
                let low = (flow.moved r.0 a.slot b.slot r.2.0 moved).1 in
                let high = flow.moved_to r.0 q a.slot b.slot r.2.0 (r.3.0, subst (Contains r.0.next) (sym r.3.1) next.0) moved in
                (omega arith, omega arith)
          ]
          | inr thrown ↦ absurd (omega (arith, thrown.2, within.0, first))
        ]

-- a definition begins in the locals, or within the depth
pub begins_within : (s : Shape) (depth : ℕ) (def : Def) (pc slot : ℕ) → IsFlow s → All (λ p. p.depth ≤ depth) s.points → Begins s def (place pc slot) → slot < s.max_locals + depth
begins_within s depth (Formal i) pc slot flow deep b =
    let width = b.1.0 in
    let within = slice_get_within s.arguments i width b.1.1 in
    let is = get_or_from_slice_get s.arguments i width 0 b.1.1 in
    omega (arith, b.1.3, sum_by_more_le (λ (n : ℕ). n) s.arguments i 0 within, is, flow.formals)
begins_within s depth (Value p) pc slot flow deep b =
    let q = flow.goes p pc (b.0, b.1, inl b.2) in
    let lt = flow.made b.0 q.0 slot b.1.0 (q.1.0, subst (Contains b.0.next) (sym q.1.1) b.2) b.3 in
    omega (arith, lt, All-contains (λ (x : Point). x.depth ≤ depth) s.points q.0 deep q.1.0)
begins_within s depth (Caught h) pc slot flow deep b =
    let q = flow.goes b.0.pc h (b.0, (b.1, refl), inr b.2) in
    let lt = flow.caught b.0 q.0 b.1 q.1.0 (subst (Contains b.0.handlers) (sym q.1.1) b.2) in
    omega (arith, lt, b.4, All-contains (λ (x : Point). x.depth ≤ depth) s.points q.0 deep q.1.0)

pub no_facts : (s : Shape) (depth slot : ℕ) (def : Def) (old : List Fact) → IsFlow s → All (λ p. p.depth ≤ depth) s.points → s.max_locals + depth ≤ slot → Grows old old (IsFactFrom s slot def)
no_facts s depth slot def old flow deep le = Grows-none old (IsFactFrom s slot def) (λ x f. absurd (omega (arith, begins_within s depth def f.1.0 slot flow deep f.1.1)))

pub grows_facts : (f : Frame) (slot : ℕ) (def : Def) (items : List ℕ) (old new : List Fact)
    → ((n : ℕ) → Contains items n → (n < count f) × Comes f.shape.now slot def (place_in f n))
    → ((b : Place) → Comes f.shape.now slot def b → (n : ℕ) × IsNumberOf f b n × Contains items n)
    → Grows old new (FromOne (IsFactAt f def) items) → Grows old new (IsFactFrom f.shape.now slot def)
grows_facts f slot def items old new each whole g = Grows-same old new (FromOne (IsFactAt f def) items) (IsFactFrom f.shape.now slot def) to from g
  where
    to : (x : Fact) → FromOne (IsFactAt f def) items x → IsFactFrom f.shape.now slot def x
    to x (n, c, e) = subst (λ (y : Fact). IsFactFrom f.shape.now slot def y) (sym e) (refl, (each n c).1)

    from : (x : Fact) → IsFactFrom f.shape.now slot def x → FromOne (IsFactAt f def) items x
    from x (d, comes) =
        let n = whole (place x.pc x.slot) comes in
        (n.0, n.2, ap (λ (e : Def). fact (place x.pc x.slot) e) d ∙ ap (λ (a : Place). fact a def) (sym n.1.1))

-- A definition comes to exactly the places that the search finds.
use Rattle.std.proofs.Common.{◌≡◌, ◌<◌, ◌≤◌, ℕ, List, length, Contains, inl, inr, refl, sym, subst, arith}
use Rattle.slicer_ids.specs.Walks.{Leads, stay, more}
use Rattle.std.proofs.lemmas.Nat.{mod_below}
use Rattle.class_form.specs.declared.body.Point.{Point}
use Rattle.class_form.specs.declared.body.Shape.{Shape}
use Rattle.class_form.specs.declared.body.Def.{Def}
use Rattle.class_form.specs.declared.body.Def.TheVariants.{Formal, Value, Caught}
use Rattle.class_form.specs.Reaching.{Place, IsPoint, IsFlow, IsSlotOf, Carries, Begins}
use Rattle.worklists.specs.Growth.{Grows, FromOne}
use Rattle.worklists.proofs.Growing.{Grows-same}
use Rattle.worklists.proofs.ClosingOne.{Closing, taken_all}
use Rattle.reaching_defs.specs.declared.frame.Frame.{Frame}
use Rattle.reaching_defs.specs.Frames.{place, count, place_in, IsIn, IsNumberOf, IsFrame, Steps, IsBegun, Comes}
use Rattle.reaching_defs.proofs.Places.{one_point, number, number-lt, number_is}
use Rattle.reaching_defs.proofs.Carrying.{width_pos}

pub grows_formal : (f : Frame) (i slot : ℕ) (old new : List ℕ) → IsSlotOf f.shape.now i slot → Grows old new (IsNumberOf f (place 0 slot)) → Grows old new (IsBegun f slot (Formal i))
grows_formal f i slot old new start g = Grows-same old new (IsNumberOf f (place 0 slot)) (IsBegun f slot (Formal i)) (λ n is. (0, (refl, start), is)) (λ n b. subst (λ (pc : ℕ). IsNumberOf f (place pc slot) n) b.1.0 b.2) g

pub grows_value : (f : Frame) (pc slot : ℕ) (p : Point) (old new : List ℕ) → IsFrame f → IsPoint f.shape.now pc p → Contains p.makes slot
    → Grows old new (FromOne (λ q n. IsNumberOf f (place q slot) n) p.next) → Grows old new (IsBegun f slot (Value pc))
grows_value f pc slot p old new frame point makes g =
    Grows-same old new (FromOne (λ q n. IsNumberOf f (place q slot) n) p.next) (IsBegun f slot (Value pc))
    (λ n h. (h.0, (p, point, h.1, makes), h.2))
    (λ n b.
    let is = one_point f.shape.now.points f.index.now pc b.1.0 p frame.index b.1.1.0 b.1.1.1 point.0 point.1 in
    (b.0, subst (λ (x : Point). Contains x.next b.0) is b.1.2, b.2))
    g

pub grows_caught : (f : Frame) (h slot : ℕ) (p : Point) (old new : List ℕ) → Contains f.shape.now.points p → Contains p.handlers h → slot ≡ f.shape.now.max_locals
    → Grows old new (IsNumberOf f (place h slot)) → Grows old new (IsBegun f slot (Caught h))
grows_caught f h slot p old new c d e g = Grows-same old new (IsNumberOf f (place h slot)) (IsBegun f slot (Caught h)) (λ n is. (h, (p, c, d, refl, e), is)) (λ n b. subst (λ (pc : ℕ). IsNumberOf f (place pc slot) n) b.1.3 b.2) g

-- a definition begins where there is a point
begins_at : (s : Shape) (def : Def) (pc slot : ℕ) → IsFlow s → Begins s def (place pc slot) → (q : Point) × IsPoint s pc q
begins_at s (Formal i) pc slot flow b = subst (λ (n : ℕ). (q : Point) × IsPoint s n q) (sym b.0) flow.start
begins_at s (Value p) pc slot flow b = flow.goes p pc (b.0, b.1, inl b.2)
begins_at s (Caught h) pc slot flow b = flow.goes b.0.pc pc (b.0, (b.1, refl), inr (subst (Contains b.0.handlers) (sym b.3) b.2))

abbrev pub Good : Frame → ℕ → Def → ℕ → Type 0
Good f slot def n = (n < count f) × Comes f.shape.now slot def (place_in f n)

pub by_one : (f : Frame) (slot : ℕ) (def : Def) (n m : ℕ) → Good f slot def n → Steps f n m → Good f slot def m
by_one f slot def n m g h = (h.0, (g.1.0, g.1.1, more g.1.2 h.1))

pub begun_good : (f : Frame) (slot : ℕ) (def : Def) (n : ℕ) → IsBegun f slot def n → Good f slot def n
begun_good f slot def n b = (b.2.0, (b.0, b.1, subst (λ (a : Place). Leads (Carries f.shape.now) (place b.0 slot) a) (sym b.2.1) stay))

module _ (f : Frame) (frame : IsFrame f) (slot : ℕ) (def : Def) (within : IsIn f slot) (next : ℕ) (items : List ℕ) (le : length items ≤ next)
    (t : Closing (Good f slot def) (Steps f) next items) (begun : (n : ℕ) → IsBegun f slot def n → Contains items n) where
  abbrev pub IsFound : Place → Type 0
  IsFound b = (n : ℕ) × IsNumberOf f b n × Contains items n

  number_in : (n : ℕ) → n < count f → IsIn f (place_in f n).slot
  number_in n lt = let pos = width_pos f n lt in (omega arith, omega (arith, mod_below n f.width pos))

  comes_found : (pc : ℕ) {b : Place} → Begins f.shape.now def (place pc slot) → Leads (Carries f.shape.now) (place pc slot) b → IsFound b
  comes_found pc begins stay =
      let q = begins_at f.shape.now def pc slot frame.flow begins in
      let n = number f frame.index pc slot q.0 q.1 within in
      let is : IsNumberOf f (place pc slot) n = (number-lt f frame.index pc slot q.0 q.1 within, number_is f frame.index pc slot q.0 q.1 within) in
      (n, is, begun n (pc, begins, is))
  comes_found pc begins (more {b} {c} r e) =
      let before = comes_found pc begins r in
      let n = before.0 in
      let at : place_in f n ≡ b = before.1.1 in
      let e2 : Carries f.shape.now (place_in f n) c = subst (λ (x : Place). Carries f.shape.now x c) (sym at) e in
      let in2 : IsIn f c.slot = frame.closed (place_in f n) c e2 (number_in n before.1.0) in
      let m = number f frame.index c.pc c.slot e.1 e.3 in2 in
      let is : IsNumberOf f c m = (number-lt f frame.index c.pc c.slot e.1 e.3 in2, number_is f frame.index c.pc c.slot e.1 e.3 in2) in
      let steps : Steps f n m = (is.0, subst (λ (x : Place). Carries f.shape.now (place_in f n) x) (sym is.1) e2) in
      (m, is, t.one n m (taken_all next items le n before.2) steps)

  pub all_found : (b : Place) → Comes f.shape.now slot def b → IsFound b
  all_found b h = comes_found h.0 h.1 h.2

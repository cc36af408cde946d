-- More edges, more paths.
use Rattle.std.proofs.Common.{◌≡◌, ℕ, List, Contains, Option, ◌⊎◌, inl, inr, refl}
use Rattle.slicer_ids.specs.declared.ids.NodeId.{NodeId}
use Rattle.slicer_ids.specs.declared.ids.CallId.{CallId}
use Rattle.slicer_ids.specs.declared.ids.ExitId.{ExitId}
use Rattle.slicer_ids.specs.declared.ids.Statement.{Statement}
use Rattle.dep_form.specs.declared.facts.Facts.{Facts}
use Rattle.dep_form.specs.declared.node.Edge.{Edge}
use Rattle.dep_form.specs.declared.node.Label.{Label}
use Rattle.dep_form.specs.declared.node.Label.TheVariants.{Thin, Base, Call, Return}
use Rattle.dep_form.specs.Slices.{NodesOf}
use Rattle.dep_form.specs.Phases.{edge, Level, stay, thin, base, call, Down as GoesDown, level, enter, GoesUpThenDown, down, leave}
use Rattle.dep_form.proofs.Monotone.{slice-wider}
use Rattle.thin_slice.specs.declared.needs.Phase.{Phase}
use Rattle.thin_slice.specs.declared.needs.Phase.TheVariants.{Up, Down}
use Rattle.thin_slice.specs.Steps.{Flows, Moves}
use Rattle.tabulate.specs.declared.method.Method.{Method}
use Rattle.widening.specs.declared.expansions.Expansions.{Expansions}
use Rattle.widening.specs.Edges.{Widened, IsOpened}
use Rattle.widening.specs.Pairs.{IsGood, IsDone, AreNeeded, AtNodes}
use Rattle.widening.specs.Marks.{Leads, IsAsked, IsMarking, IsBegun}

module _ (E F : Edge → Type 0) (w : (e : Edge) → E e → F e) where
  pub level_wider : {a b : NodeId} → Level E a b → Level F a b
  level_wider stay = stay
  level_wider (thin e x) = thin (w _ e) (level_wider x)
  level_wider (base e x) = base (w _ e) (level_wider x)
  level_wider (call e x r y) = call (w _ e) (level_wider x) (w _ r) (level_wider y)

  down_wider : {a b : NodeId} → GoesDown E a b → GoesDown F a b
  down_wider (level x) = level (level_wider x)
  down_wider (enter x e y) = enter (level_wider x) (w _ e) (down_wider y)

  up_wider : {a b : NodeId} → GoesUpThenDown E a b → GoesUpThenDown F a b
  up_wider (down x) = down (down_wider x)
  up_wider (leave x e y) = leave (level_wider x) (w _ e) (up_wider y)

  pub leads_wider : (seeds : List NodeId) (phase : Phase) (n : NodeId) → Leads E seeds phase n → Leads F seeds phase n
  leads_wider seeds Up n h = (h.0, h.1, down_wider h.2)
  leads_wider seeds Down n h = (h.0, h.1, up_wider h.2)

  pub good_wider : (f : Facts) (asked : List ExitId) (q : ℕ × ℕ) → IsGood f E asked q → IsGood f F asked q
  good_wider f asked q g = record { to = g.to; end = g.end; exit = g.exit; number = g.number; was_asked = g.was_asked; level = λ from is. level_wider (g.level from is) }

  pub needed_wider : (f : Facts) (seeds : List NodeId) (asked : List ExitId) → AreNeeded f E seeds asked → AreNeeded f F seeds asked
  needed_wider f seeds asked need d x c at = slice-wider E F w (Contains seeds) (Contains seeds) (λ n s. s) x (need d x c at)

-- more accesses were expanded
module _ (f : Facts) (x y : Expansions) (again : List NodeId) (more : (s : Statement) → IsOpened x s → IsOpened y s) (cases : (n : NodeId) → NodesOf f.inputs (IsOpened y) n → NodesOf f.inputs (IsOpened x) n ⊎ Contains again n) where
  abbrev E : Edge → Type 0
  E = Widened f x

  abbrev F : Edge → Type 0
  F = Widened f y

  pub widens : (e : Edge) → E e → F e
  widens e h = (h.0, λ b. let s = h.1 b in (s.0, more s.0 s.1, s.2))

  not_base : (l : Label) (a n : NodeId) → (l ≡ Base → ⊥) → F (edge a l n) → E (edge a l n)
  not_base l a n no_base h = (h.0, λ b. absurd (no_base b))

  thin_back : (a n : NodeId) → F (edge a Thin n) → E (edge a Thin n)
  thin_back a n h = not_base Thin a n apart h
    where
      apart : Thin ≡ Base → ⊥
      apart e = absurd cc

  call_back : (a n : NodeId) (k : CallId) → F (edge a (Call k) n) → E (edge a (Call k) n)
  call_back a n k h = not_base (Call k) a n apart h
    where
      apart : Call k ≡ Base → ⊥
      apart e = absurd cc

  return_back : (a n : NodeId) (k : CallId) → F (edge a (Return k) n) → E (edge a (Return k) n)
  return_back a n k h = not_base (Return k) a n apart h
    where
      apart : Return k ≡ Base → ⊥
      apart e = absurd cc

  base_back : (a n : NodeId) → F (edge a Base n) → E (edge a Base n) ⊎ Contains again n
  base_back a n h = elim (cases n (h.1 refl)) [ inl o ↦ inl (h.0, λ b. o) | inr c ↦ inr c ]

  flow_back : (n q : NodeId) → Flows F n q → Flows E n q ⊎ Contains again n
  flow_back n q (inl e) = inl (inl (thin_back q n e))
  flow_back n q (inr e) = elim (base_back q n e) [ inl o ↦ inl (inr o) | inr c ↦ inr c ]

  moves_back : (phase : Phase) (n q : NodeId) → Moves F phase n q → Moves E phase n q ⊎ Contains again n
  moves_back Up n q (inl m) = elim (flow_back n q m) [ inl o ↦ inl (inl o) | inr c ↦ inr c ]
  moves_back Up n q (inr s) = inl (inr (s.0, call_back q n s.0 s.1))
  moves_back Down n q (inl m) = elim (flow_back n q m) [ inl o ↦ inl (inl o) | inr c ↦ inr c ]
  moves_back Down n q (inr s) = inl (inr (s.0, return_back q n s.0 s.1))

  pub done_wider : (got : ℕ × ℕ → Type 0) → IsDone f E got (λ _. ⊥) → IsDone f F got (AtNodes again)
  done_wider got d = record {
    flows = λ n a k u h. elim (flow_back n a h) [ inr c ↦ inl (n, c, refl) | inl o ↦ elim (d.flows n a k u o) [ inl w ↦ absurd w | inr b ↦ inr b ] ];
    asks = λ n e k c u h. elim (d.asks n e k c u (return_back e n c h)) [ inl w ↦ absurd w | inr b ↦ inr b ];
    calls = λ n a g e k c u v r h own. elim (d.calls n a g e k c u v (return_back e n c r) (call_back a g c h) own) [ inl w ↦ absurd w | inr b ↦ elim b [ inl w ↦ absurd w | inr z ↦ inr (inr z) ] ];
  }

  pub asked_wider : (ms : List (Option Method)) (asked : List ExitId) (n : NodeId) → IsAsked f E ms asked n → IsAsked f F ms asked n
  asked_wider ms asked n s = record { met = s.met; returns = λ e d k r at. s.returns e d k (return_back e n k r) at; own = s.own }

  pub begun_wider : (phase : Phase) (ms : List (Option Method)) (asked : List ExitId) (taken : ℕ) (nodes : List NodeId) → IsMarking f E phase ms asked taken nodes → IsBegun f F phase again ms asked taken nodes
  begun_wider phase ms asked taken nodes t = record {
    moves = λ n q c m. elim (moves_back phase n q m) [ inl o ↦ inl (t.moves n q c o) | inr h ↦ inr h ];
    served = λ n c. asked_wider ms asked n (t.served n c);
    within = t.within;
  }

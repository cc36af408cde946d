-- What follows from pairs: they stay good, and all that follows is found.
use Rattle.std.proofs.Common.{◌≡◌, ℕ, List, Option, None, ◌⊎◌, inl, inr, refl, sym, subst, ap, ◌∙◌}
use Rattle.bit_rows.specs.Words.{IsIn}
use Rattle.bit_rows.specs.Adds.{Adds, Taken}
use Rattle.slicer_ids.specs.declared.ids.NodeId.{NodeId}
use Rattle.slicer_ids.specs.declared.ids.CallId.{CallId}
use Rattle.slicer_ids.specs.declared.ids.ExitId.{ExitId}
use Rattle.slicer_ids.specs.declared.ids.Mode.TheVariants.{Full}
use Rattle.dep_form.specs.declared.facts.Facts.{Facts}
use Rattle.dep_form.specs.declared.node.Edge.{Edge}
use Rattle.dep_form.specs.declared.node.Label.{Label}
use Rattle.dep_form.specs.declared.node.Label.TheVariants.{Thin, Base, Call, Return}
use Rattle.dep_form.specs.Phases.{edge, Level, stay, thin, base, call}
use Rattle.dep_form.specs.Summaries.{IsExitAt}
use Rattle.thin_slice.specs.Steps.{Flows}
use Rattle.tabulate.specs.declared.found.Found.{Found}
use Rattle.tabulate.specs.declared.hands.Hands.{Hands}
use Rattle.tabulate.specs.Frames.{method_of, number_of, row, exits_before}
use Rattle.tabulate.specs.Hands.{hand_of}
use Rattle.tabulate.specs.Found.{Got, Todo, Takes}
use Rattle.tabulate.specs.Rules.{FromOne, Reaches, Follows, FollowsBy, hand_at}
use Rattle.tabulate.proofs.Placing.{is_exit, one_exit}
use Rattle.tabulate.proofs.Fitting.{return_exit}
use Rattle.tabulate.proofs.ModeEdges.{exit_low}
use Rattle.widening.specs.Edges.{AreEdges, AreInto}
use Rattle.widening.specs.Pairs.{IsGood, IsDone, Either, AtNode}
use Rattle.widening.proofs.EdgeSets.{level_home}
use Rattle.widening.proofs.Deciding.{decide}

pub same_node : (a b : NodeId) → a.0 ≡ b.0 → a ≡ b
same_node a b e = ap (λ (n : ℕ). record { 0 = n }) e

module _ (f : Facts) (E : Edge → Type 0) (edges : AreEdges f E) where
  -- others are loose
  pub done_open : (got loose loose' : ℕ × ℕ → Type 0) → ((q : ℕ × ℕ) → got q → loose q → loose' q) → IsDone f E got loose → IsDone f E got loose'
  done_open got loose loose' more d = record {
    flows = λ n a x u h. elim (d.flows n a x u h) [ inl w ↦ inl (more (n.0, x) u w) | inr b ↦ inr b ];
    asks = λ n e x k u h. elim (d.asks n e x k u h) [ inl w ↦ inl (more (n.0, x) u w) | inr b ↦ inr b ];
    calls = λ n a g e x k u v r c own. elim (d.calls n a g e x k u v r c own) [ inl w ↦ inl (more (n.0, x) u w) | inr b ↦ inr (elim b [ inl w ↦ inl (more (g.0, number_of f e.0) v w) | inr h ↦ inr h ]) ];
  }

  -- each that was found since is loose
  pub done_more : (got todo got' todo' rest : ℕ × ℕ → Type 0) → ((q : ℕ × ℕ) → got q → got' q) → ((q : ℕ × ℕ) → got' q → got q ⊎ todo' q) → ((q : ℕ × ℕ) → todo q → todo' q) → IsDone f E got (Either todo rest) → IsDone f E got' (Either todo' rest)
  done_more got todo got' todo' rest kept fresh still d = record {
    flows = λ n a x u h. elim (fresh (n.0, x) u) [ inr w ↦ inl (inl w) | inl o ↦ elim (d.flows n a x o h) [ inl w ↦ inl (on (n.0, x) w) | inr b ↦ inr (kept (a.0, x) b) ] ];
    asks = λ n e x k u h. elim (fresh (n.0, x) u) [ inr w ↦ inl (inl w) | inl o ↦ elim (d.asks n e x k o h) [ inl w ↦ inl (on (n.0, x) w) | inr b ↦ inr (kept (e.0, number_of f e.0) b) ] ];
    calls = λ n a g e x k u v r c own. elim (fresh (n.0, x) u) [
      | inr w ↦ inl (inl w)
      | inl o ↦ elim (fresh (g.0, number_of f e.0) v) [
        | inr w ↦ inr (inl (inl w))
        | inl i ↦ elim (d.calls n a g e x k o i r c own) [ inl w ↦ inl (on (n.0, x) w) | inr b ↦ inr (elim b [ inl w ↦ inl (on (g.0, number_of f e.0) w) | inr h ↦ inr (kept (a.0, x) h) ]) ]
      ]
    ];
  }
    where
      on : (q : ℕ × ℕ) → Either todo rest q → Either todo' rest q
      on q (inl w) = inl (still q w)
      on q (inr r) = inr r

  -- ---- good pairs
  module _ (asked : List ExitId) where
    good_at : (q : ℕ × ℕ) (n : NodeId) → q.0 ≡ n.0 → IsGood f E asked (n.0, q.1) → IsGood f E asked q
    good_at q n e g = record { to = g.to; end = g.end; exit = g.exit; number = g.number; was_asked = g.was_asked; level = λ from is. g.level from (is ∙ e) }

    before : (a n : NodeId) (x : ℕ) → ((end : NodeId) → Level E n end → Level E a end) → IsGood f E asked (n.0, x) → IsGood f E asked (a.0, x)
    before a n x h g = record { to = g.to; end = g.end; exit = g.exit; number = g.number; was_asked = g.was_asked; level = λ from is. subst (λ (k : NodeId). Level E k g.end) (sym (same_node from a is)) (h g.end (g.level n refl)) }

    -- a pair with the number of an exit of the node's method leads to that exit
    pub to_exit : (g e : NodeId) (d : ExitId) → IsExitAt f d e → method_of f g.0 ≡ method_of f e.0 → IsGood f E asked (g.0, number_of f e.0) → Level E g e
    to_exit g e d at own x =
        let l = x.level g refl in
        let here = is_exit f d e at (exit_low f d e at) in
        let there = is_exit f x.to x.end x.exit (exit_low f x.to x.end x.exit) in
        subst (λ (k : NodeId). Level E g k) (sym (same_node e x.end (one_exit f e.0 x.end.0 here there (sym own ∙ level_home f E edges l) x.number))) l

    module _ (h : Hands) (none : (e : ℕ) → hand_of h e ≡ None) where
      reached : (e : NodeId) (i : ℕ) (K : Type 0) → Reaches (hand_at f h e) i K → K
      reached e i K r = subst (λ (o : Option (List ℕ)). Reaches o i K) (none (exits_before f e.0)) r

      follow_good : (n : NodeId) (delta : List ℕ) (a : NodeId) (l : Label) (K : ℕ × ℕ → Type 0) → ((x : ℕ) → IsIn delta x → IsGood f E asked (n.0, x)) → ((q : ℕ × ℕ) → K q → IsGood f E asked q) → E (edge a l n) → (q : ℕ × ℕ) → FollowsBy f Full h n delta a l K q → IsGood f E asked q
      follow_good n delta a Thin K new old e q w = good_at q a w.0 (before a n q.1 (λ end x. thin e x) (new q.1 w.1))
      follow_good n delta a Base K new old e q w = good_at q a w.1.0 (before a n q.1 (λ end x. base e x) (new q.1 w.1.1))
      follow_good n delta a (Call k) K new old e q (x, d, r, own, bit, to, at) =
          let exit = return_exit f x d k r in
          let inner = to_exit n x exit.0 exit.1 (sym own) (new (number_of f x.0) bit) in
          good_at q a to (before a d q.1 (λ end y. call e inner (edges.returns x d k r) y) (old (d.0, q.1) at))
      follow_good n delta a (Return k) K new old e q (s, g, c, own, reaches, w) =
          let exit = return_exit f a n k (edges.sub (edge a (Return k) n) e) in
          let inner = to_exit g a exit.0 exit.1 own (old (g.0, number_of f a.0) (reached a (row f g.0) (K (g.0, number_of f a.0)) reaches)) in
          good_at q s w.0 (before s n q.1 (λ end y. call (edges.calls s g k c) inner e y) (new q.1 w.1))

      pub follows_good : (n : NodeId) (delta : List ℕ) (es : List Edge) (K : ℕ × ℕ → Type 0) → ((x : ℕ) → IsIn delta x → IsGood f E asked (n.0, x)) → ((q : ℕ × ℕ) → K q → IsGood f E asked q) → AreInto E n es → (q : ℕ × ℕ) → FromOne (Follows f Full h n delta) es K q → IsGood f E asked q
      follows_good n delta es K new old into q (e, c, w) =
          let is = (into e).0 c in
          follow_good n delta e.from e.label K new old (subst (λ (k : NodeId). E (edge e.from e.label k)) is.1 is.0) q w

  -- ---- the pairs of a node were followed
  module _ (h : Hands) (none : (e : ℕ) → hand_of h e ≡ None) (ts ts' : List Found) (n : NodeId) (delta : List ℕ) (es : List Edge) (into : AreInto E n es)
      (a : Adds (Got f ts) (Todo f ts) (Got f ts') (Todo f ts') (FromOne (Follows f Full h n delta) es))
      (known : (e : NodeId) (k : CallId) → E (edge e (Return k) n) → (x : ℕ) → IsIn delta x → Got f ts (e.0, number_of f e.0))
      (rest : ℕ × ℕ → Type 0) (d : IsDone f E (Got f ts) (Either (Todo f ts) (Either (AtNode n delta) rest))) where
    abbrev Open : ℕ × ℕ → Type 0
    Open = Either (Todo f ts') rest

    old_or_new : (q : ℕ × ℕ) → Got f ts' q → Todo f ts' q ⊎ Got f ts q
    old_or_new q g = elim (a.fresh q g) [ inl o ↦ inr o | inr w ↦ inl w ]

    -- what an edge gives
    gives : (s : NodeId) (l : Label) (q : ℕ × ℕ) → E (edge s l n) → FollowsBy f Full h n delta s l (Taken (Got f ts) (Todo f ts)) q → Got f ts' q
    gives s l q e w = a.all q (edge s l n, (into (edge s l n)).1 (e, refl), w)

    here : (m s : NodeId) (l : Label) → m.0 ≡ n.0 → E (edge s l m) → E (edge s l n)
    here m s l e i = subst (λ (k : NodeId). E (edge s l k)) (same_node m n e) i

    by_flow : (m s : NodeId) (x : ℕ) → m.0 ≡ n.0 → Flows E m s → IsIn delta x → Got f ts' (s.0, x)
    by_flow m s x is (inl e) b = gives s Thin (s.0, x) (here m s Thin is e) (refl, b)
    by_flow m s x is (inr e) b = gives s Base (s.0, x) (here m s Base is e) (refl, (refl, b))

    reaches : (e : NodeId) (i : ℕ) (K : Type 0) → K → Reaches (hand_at f h e) i K
    reaches e i K r = subst (λ (o : Option (List ℕ)). Reaches o i K) (sym (none (exits_before f e.0))) r

    pub done_follows : IsDone f E (Got f ts') Open
    done_follows = record {
      flows = λ m s x u e. elim (old_or_new (m.0, x) u) [
        | inl w ↦ inl (inl w)
        | inr o ↦ elim (d.flows m s x o e) [
          | inr b ↦ inr (a.kept (s.0, x) b)
          | inl w ↦ elim w [ inl t ↦ inl (inl (a.still (m.0, x) t)) | inr z ↦ elim z [ inl b ↦ inr (by_flow m s x b.0 e b.1) | inr r ↦ inl (inr r) ] ]
        ]
      ];
      asks = λ m e x k u r. elim (old_or_new (m.0, x) u) [
        | inl w ↦ inl (inl w)
        | inr o ↦ elim (d.asks m e x k o r) [
          | inr b ↦ inr (a.kept (e.0, number_of f e.0) b)
          | inl w ↦ elim w [ inl t ↦ inl (inl (a.still (m.0, x) t)) | inr z ↦ elim z [ inl b ↦ inr (a.kept (e.0, number_of f e.0) (known e k (here m e (Return k) b.0 r) x b.1)) | inr y ↦ inl (inr y) ] ]
        ]
      ];
      calls = λ m s g e x k u v r c own. elim (old_or_new (m.0, x) u) [
        | inl w ↦ inl (inl w)
        | inr o ↦ elim (old_or_new (g.0, number_of f e.0) v) [
          | inl w ↦ inr (inl (inl w))
          | inr i ↦ elim (d.calls m s g e x k o i r c own) [
            | inl w ↦ elim w [
              | inl t ↦ inl (inl (a.still (m.0, x) t))
              | inr z ↦ elim z [
                | inr y ↦ inl (inr y)
                | inl b ↦ elim (decide f ts (g.0, number_of f e.0)) [
                  | inl waits ↦ inr (inl (inl (a.still (g.0, number_of f e.0) waits)))
                  | inr taken ↦ inr (inr (gives e (Return k) (s.0, x) (here m e (Return k) b.0 r) (s, g, edges.sub (edge s (Call k) g) c, own, reaches e (row f g.0) _ (i, taken), (refl, b.1))))
                ]
              ]
            ]
            | inr w ↦ elim w [
              | inr b ↦ inr (inr (a.kept (s.0, x) b))
              | inl w ↦ elim w [
                | inl t ↦ inr (inl (inl (a.still (g.0, number_of f e.0) t)))
                | inr z ↦ elim z [
                  | inr y ↦ inr (inl (inr y))
                  | inl b ↦ elim (decide f ts (m.0, x)) [
                    | inl waits ↦ inl (inl (a.still (m.0, x) waits))
                    | inr taken ↦ inr (inr (gives s (Call k) (s.0, x) (here g s (Call k) b.0 c) (e, m, edges.sub (edge e (Return k) m) r, sym own ∙ ap (method_of f) b.0, b.1, refl, (o, taken))))
                  ]
                ]
              ]
            ]
          ]
        ]
      ];
    }

  -- what waited at a node was taken up
  pub done_taken : (ts ts' : List Found) (n : NodeId) (delta : List ℕ) → Takes f ts ts' n.0 delta → IsDone f E (Got f ts) (Todo f ts) → IsDone f E (Got f ts') (Either (Todo f ts') (AtNode n delta))
  done_taken ts ts' n delta tk d = record {
    flows = λ m a x u e. elim (d.flows m a x (tk.back (m.0, x) u) e) [ inl w ↦ inl (tk.split (m.0, x) w) | inr b ↦ inr (tk.got (a.0, x) b) ];
    asks = λ m e x k u r. elim (d.asks m e x k (tk.back (m.0, x) u) r) [ inl w ↦ inl (tk.split (m.0, x) w) | inr b ↦ inr (tk.got (e.0, number_of f e.0) b) ];
    calls = λ m a g e x k u v r c own. elim (d.calls m a g e x k (tk.back (m.0, x) u) (tk.back (g.0, number_of f e.0) v) r c own) [
      | inl w ↦ inl (tk.split (m.0, x) w)
      | inr b ↦ inr (elim b [ inl w ↦ inl (tk.split (g.0, number_of f e.0) w) | inr h ↦ inr (tk.got (a.0, x) h) ])
    ];
  }

  -- ---- nothing is loose any more
  module _ (got : ℕ × ℕ → Type 0) (done : IsDone f E got (λ _. ⊥)) where
    and_not : (B : Type 0) → ⊥ ⊎ B → B
    and_not B (inl w) = absurd w
    and_not B (inr b) = b

    pub whole : {n e : NodeId} (x : ℕ) → Level E n e → got (e.0, x) → got (n.0, x)
    whole x stay g = g
    whole x (thin {a} {b} {c} e l) g = and_not (got (a.0, x)) (done.flows b a x (whole x l g) (inl e))
    whole x (base {a} {b} {c} e l) g = and_not (got (a.0, x)) (done.flows b a x (whole x l g) (inr e))
    whole x (call {a} {b} {c} {d} {e} {k} g l r y) h =
        let outer = whole x y h in
        let asked = and_not (got (c.0, number_of f c.0)) (done.asks d c x k outer r) in
        let inner = whole (number_of f c.0) l asked in
        and_not (got (a.0, x)) (and_not (⊥ ⊎ got (a.0, x)) (done.calls d a b c x k outer inner r g (level_home f E edges l)))

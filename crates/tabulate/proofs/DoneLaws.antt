-- What was found stays done while the search goes on.
use Rattle.std.proofs.Common.{◌≡◌, ℕ, ◌+◌, ◌*◌, ◌/◌, ◌%◌, List, get_or, Contains, Option, Some, None, ◌⊎◌, inl, inr, refl, sym, subst, ap, ◌∙◌, arith}
use Rattle.std.specs.Int.{bit_at}
use Rattle.std.proofs.lemmas.Bool.{cases_eq, cases_lt}
use Rattle.std.proofs.lemmas.Option.{same_Some}
use Rattle.bit_rows.specs.Words.{IsIn}
use Rattle.bit_rows.specs.Adds.{Adds, Taken}
use Rattle.slicer_ids.specs.declared.ids.NodeId.{NodeId}
use Rattle.slicer_ids.specs.declared.ids.CallId.{CallId}
use Rattle.slicer_ids.specs.declared.ids.ExitId.{ExitId}
use Rattle.slicer_ids.specs.declared.ids.Mode.{Mode}
use Rattle.dep_form.specs.declared.facts.Facts.{Facts}
use Rattle.dep_form.specs.declared.node.Edge.{Edge}
use Rattle.dep_form.specs.declared.node.Label.{Label}
use Rattle.dep_form.specs.declared.node.Label.TheVariants.{Thin, Base, Call, Return}
use Rattle.dep_form.specs.Inputs.{IsEdge}
use Rattle.dep_form.specs.Phases.{edge}
use Rattle.dep_form.specs.Summaries.{IsExitAt}
use Rattle.tabulate.specs.declared.found.Found.{Found}
use Rattle.tabulate.specs.declared.hands.Hands.{Hands}
use Rattle.tabulate.specs.Frames.{count, method_of, number_of, row, width, at}
use Rattle.tabulate.specs.Modes.{IsFlow}
use Rattle.tabulate.specs.Hands.{hand_of}
use Rattle.tabulate.specs.Found.{Got, Todo, Takes, todo_of}
use Rattle.tabulate.specs.Rules.{FromOne, Reaches, Follows, FollowsBy, hand_at}
use Rattle.tabulate.specs.States.{IsDone, Meets, Open, OfNode}
use Rattle.tabulate.proofs.Placing.{exit_place}
use Rattle.tabulate.proofs.Fitting.{return_exit}

pub same_node : (a b : NodeId) → a.0 ≡ b.0 → a ≡ b
same_node a b e = ap (λ (n : ℕ). record { 0 = n }) e

pub none_or_some : (o : Option (List ℕ)) → (o ≡ None) ⊎ ((bits : List ℕ) × (o ≡ Some bits))
none_or_some None = inl refl
none_or_some (Some bits) = inr (bits, refl)

pub not_both : (bits : List ℕ) → Some bits ≡ None → ⊥
not_both bits e = absurd cc

module _ (p : Facts) (mode : Mode) where
  -- more exits were asked for, or more rows came to hand
  module _ (h h' : Hands) (asked asked' : List ExitId) (ts ts' : List Found) (pending : ℕ × ℕ → Type 0) (m : Meets p h h' asked asked' ts ts')
      (apart : (d : ExitId) (x : NodeId) (bits : List ℕ) → IsExitAt p d x → Got p ts (x.0, number_of p x.0) → hand_of h' d.0 ≡ Some bits → ⊥)
      (d : IsDone p mode h (Got p ts) (Open (Todo p ts) pending)) where
    new_or_old : (q : ℕ × ℕ) → Got p ts' q → Open (Todo p ts') pending q ⊎ Got p ts q
    new_or_old q g = elim (m.adds.fresh q g) [ inl o ↦ inr o | inr w ↦ inl (inl w) ]

    still : (q : ℕ × ℕ) → Open (Todo p ts) pending q → Open (Todo p ts') pending q
    still q (inl w) = inl (m.adds.still q w)
    still q (inr b) = inr b

    hand_on : (e n : NodeId) (k : CallId) (bits : List ℕ) → IsEdge p.inputs (edge e (Return k) n) → hand_at p h e ≡ Some bits → hand_at p h' e ≡ Some bits
    hand_on e n k bits r o = let x = return_exit p e n k r in let place = exit_place p x.0 e x.1 in ap (hand_of h') place ∙ m.hands x.0 bits (sym (ap (hand_of h) place) ∙ o)

    hand_none : (e n : NodeId) (k : CallId) → IsEdge p.inputs (edge e (Return k) n) → hand_at p h' e ≡ None → hand_at p h e ≡ None
    hand_none e n k r o = elim (none_or_some (hand_at p h e)) [ inl missing ↦ missing | inr there ↦ absurd (not_both there.0 (sym (hand_on e n k there.0 r there.1) ∙ o)) ]

    pub done_meets : IsDone p mode h' (Got p ts') (Open (Todo p ts') pending)
    done_meets = record {
      sub = λ q w. elim w [
        | inl t ↦ elim (m.adds.within q t) [ inl o ↦ m.adds.kept q (d.sub q (inl o)) | inr u ↦ u.0 ]
        | inr b ↦ m.adds.kept q (d.sub q (inr b))
      ];
      flows = λ n a x l g e f. elim (new_or_old (n.0, x) g) [ inl w ↦ inl w | inr o ↦ elim (d.flows n a x l o e f) [ inl w ↦ inl (still (n.0, x) w) | inr b ↦ inr (m.adds.kept (a.0, x) b) ] ];
      asks = λ n e x k g r. elim (new_or_old (n.0, x) g) [
        | inl w ↦ inl w
        | inr o ↦ elim (d.asks n e x k o r) [ inl w ↦ inl (still (n.0, x) w) | inr b ↦ inr (elim b [ inl f ↦ inl (m.adds.kept (e.0, number_of p e.0) f) | inr t ↦ inr (t.0, hand_on e n k t.0 r t.1) ]) ]
      ];
      calls = λ n a g e x k u v none r c own. elim (new_or_old (n.0, x) u) [
        | inl w ↦ inl w
        | inr o ↦ elim (m.adds.fresh (g.0, number_of p e.0) v) [
          | inr w ↦ inr (inl (inl w))
          | inl i ↦ elim (d.calls n a g e x k o i (hand_none e n k r none) r c own) [ inl w ↦ inl (still (n.0, x) w) | inr b ↦ inr (elim b [ inl w ↦ inl (still (g.0, number_of p e.0) w) | inr f ↦ inr (m.adds.kept (a.0, x) f) ]) ]
        ]
      ];
      hands = λ n a g e x k bits u some bit r c own. elim (new_or_old (n.0, x) u) [
        | inl w ↦ inl w
        | inr o ↦
            let found = return_exit p e n k r in
            let place = exit_place p found.0 e found.1 in
            elim (d.asks n e x k o r) [
              | inl w ↦ inl (still (n.0, x) w)
              | inr b ↦ elim b [
                | inl f ↦ absurd (apart found.0 e bits found.1 f (sym (ap (hand_of h') place) ∙ some))
                | inr t ↦
                    let same : t.0 ≡ bits = same_Some t.0 bits (sym (hand_on e n k t.0 r t.1) ∙ some) in
                    elim (d.hands n a g e x k t.0 o t.1 (subst (λ (xs : List ℕ). IsIn xs (row p g.0)) (sym same) bit) r c own) [ inl w ↦ inl (still (n.0, x) w) | inr f ↦ inr (m.adds.kept (a.0, x) f) ]
              ]
            ]
      ];
    }

  -- what waited at a node was taken up
  pub done_taken : (h : Hands) (ts ts' : List Found) (n : NodeId) (delta : List ℕ) → Takes p ts ts' n.0 delta → IsDone p mode h (Got p ts) (Todo p ts) → IsDone p mode h (Got p ts') (Open (Todo p ts') (OfNode n delta))
  done_taken h ts ts' n delta tk d = record {
    sub = λ q w. elim w [ inl t ↦ tk.got q (d.sub q (tk.less q t)) | inr b ↦ subst (λ (k : ℕ). Got p ts' (k, q.1)) (sym b.0) (tk.got (n.0, q.1) (d.sub (n.0, q.1) (tk.found q.1 b.1))) ];
    flows = λ m a x l g e f. elim (d.flows m a x l (tk.back (m.0, x) g) e f) [ inl w ↦ inl (tk.split (m.0, x) w) | inr b ↦ inr (tk.got (a.0, x) b) ];
    asks = λ m e x k g r. elim (d.asks m e x k (tk.back (m.0, x) g) r) [ inl w ↦ inl (tk.split (m.0, x) w) | inr b ↦ inr (elim b [ inl f ↦ inl (tk.got (e.0, number_of p e.0) f) | inr t ↦ inr t ]) ];
    calls = λ m a g e x k u v none r c own. elim (d.calls m a g e x k (tk.back (m.0, x) u) (tk.back (g.0, number_of p e.0) v) none r c own) [
      | inl w ↦ inl (tk.split (m.0, x) w)
      | inr b ↦ inr (elim b [ inl w ↦ inl (tk.split (g.0, number_of p e.0) w) | inr f ↦ inr (tk.got (a.0, x) f) ])
    ];
    hands = λ m a g e x k bits u some bit r c own. elim (d.hands m a g e x k bits (tk.back (m.0, x) u) some bit r c own) [ inl w ↦ inl (tk.split (m.0, x) w) | inr f ↦ inr (tk.got (a.0, x) f) ];
  }

  -- the new bits of a node were followed
  module _ (h : Hands) (ts ts' : List Found) (n : NodeId) (delta : List ℕ) (es : List Edge) (whole : (e : Edge) → IsEdge p.inputs e → e.to ≡ n → Contains es e)
      (a : Adds (Got p ts) (Todo p ts) (Got p ts') (Todo p ts') (FromOne (Follows p mode h n delta) es))
      (known : (e : NodeId) (k : CallId) → IsEdge p.inputs (edge e (Return k) n) → (x : ℕ) → IsIn delta x → Got p ts (e.0, number_of p e.0) ⊎ ((bits : List ℕ) × (hand_at p h e ≡ Some bits)))
      (d : IsDone p mode h (Got p ts) (Open (Todo p ts) (OfNode n delta))) where
    decide : (q : ℕ × ℕ) → Todo p ts q ⊎ (Todo p ts q → ⊥)
    decide q = elim (cases_lt q.0 (count p)) [
      | inr no_node ↦ inr (λ t. omega (arith, t.0, no_node))
      | inl nl ↦ elim (cases_lt q.1 (64 * width p (method_of p q.0))) [
        | inr too_high ↦ inr (λ t. omega (arith, t.1, too_high))
        | inl low ↦ elim (cases_eq (bit_at (get_or (todo_of ts (method_of p q.0)) ((64 * at p q.0 + q.1) / 64) 0) ((64 * at p q.0 + q.1) % 64)) 1) [ inl is ↦ inl (nl, low, is) | inr is_not ↦ inr (λ t. is_not t.2) ]
      ]
    ]

    old_or_new : (q : ℕ × ℕ) → Got p ts' q → Todo p ts' q ⊎ Got p ts q
    old_or_new q g = elim (a.fresh q g) [ inl o ↦ inr o | inr w ↦ inl w ]

    -- what an edge gives
    gives : (s : NodeId) (l : Label) (q : ℕ × ℕ) → IsEdge p.inputs (edge s l n) → FollowsBy p mode h n delta s l (Taken (Got p ts) (Todo p ts)) q → Got p ts' q
    gives s l q e f = a.all q (edge s l n, whole (edge s l n) e refl, f)

    here : (m s : NodeId) (l : Label) → m.0 ≡ n.0 → IsEdge p.inputs (edge s l m) → IsEdge p.inputs (edge s l n)
    here m s l e i = subst (λ (k : NodeId). IsEdge p.inputs (edge s l k)) (same_node m n e) i

    by_flow : (s : NodeId) (x : ℕ) (l : Label) → IsEdge p.inputs (edge s l n) → IsFlow mode l → IsIn delta x → Got p ts' (s.0, x)
    by_flow s x Thin e f b = gives s Thin (s.0, x) e (refl, b)
    by_flow s x Base e f b = gives s Base (s.0, x) e (f, (refl, b))
    by_flow s x (Call k) e f b = absurd f
    by_flow s x (Return k) e f b = absurd f

    reaches_none : (o : Option (List ℕ)) (i : ℕ) (A : Type 0) → o ≡ None → A → Reaches o i A
    reaches_none o i A e r = subst (λ (y : Option (List ℕ)). Reaches y i A) (sym e) r

    reaches_some : (o : Option (List ℕ)) (i : ℕ) (A : Type 0) (bits : List ℕ) → o ≡ Some bits → IsIn bits i → Reaches o i A
    reaches_some o i A bits e r = subst (λ (y : Option (List ℕ)). Reaches y i A) (sym e) r

    pub done_follows : IsDone p mode h (Got p ts') (Todo p ts')
    done_follows = record {
      sub = λ q w. elim (a.within q w) [ inl o ↦ a.kept q (d.sub q (inl o)) | inr u ↦ u.0 ];
      flows = λ m s x l g e f. elim (old_or_new (m.0, x) g) [
        | inl w ↦ inl w
        | inr o ↦ elim (d.flows m s x l o e f) [
          | inr b ↦ inr (a.kept (s.0, x) b)
          | inl w ↦ elim w [ inl t ↦ inl (a.still (m.0, x) t) | inr b ↦ inr (by_flow s x l (here m s l b.0 e) f b.1) ]
        ]
      ];
      asks = λ m e x k g r. elim (old_or_new (m.0, x) g) [
        | inl w ↦ inl w
        | inr o ↦ elim (d.asks m e x k o r) [
          | inr b ↦ inr (elim b [ inl f ↦ inl (a.kept (e.0, number_of p e.0) f) | inr t ↦ inr t ])
          | inl w ↦ elim w [ inl t ↦ inl (a.still (m.0, x) t) | inr b ↦ inr (elim (known e k (here m e (Return k) b.0 r) x b.1) [ inl f ↦ inl (a.kept (e.0, number_of p e.0) f) | inr t ↦ inr t ]) ]
        ]
      ];
      calls = λ m s g e x k u v none r c own. elim (old_or_new (m.0, x) u) [
        | inl w ↦ inl w
        | inr o ↦ elim (old_or_new (g.0, number_of p e.0) v) [
          | inl w ↦ inr (inl w)
          | inr i ↦ elim (d.calls m s g e x k o i none r c own) [
            | inl w ↦ elim w [
              | inl t ↦ inl (a.still (m.0, x) t)
              | inr b ↦ elim (decide (g.0, number_of p e.0)) [
                | inl waits ↦ inr (inl (a.still (g.0, number_of p e.0) waits))
                | inr taken ↦ inr (inr (gives e (Return k) (s.0, x) (here m e (Return k) b.0 r) (s, g, c, own, reaches_none (hand_at p h e) (row p g.0) _ none (i, taken), (refl, b.1))))
              ]
            ]
            | inr w ↦ elim w [
              | inr b ↦ inr (inr (a.kept (s.0, x) b))
              | inl w ↦ elim w [
                | inl t ↦ inr (inl (a.still (g.0, number_of p e.0) t))
                | inr b ↦ elim (decide (m.0, x)) [
                  | inl waits ↦ inl (a.still (m.0, x) waits)
                  | inr taken ↦ inr (inr (gives s (Call k) (s.0, x) (here g s (Call k) b.0 c) (e, m, r, sym own ∙ ap (method_of p) b.0, b.1, refl, (o, taken))))
                ]
              ]
            ]
          ]
        ]
      ];
      hands = λ m s g e x k bits u some bit r c own. elim (old_or_new (m.0, x) u) [
        | inl w ↦ inl w
        | inr o ↦ elim (d.hands m s g e x k bits o some bit r c own) [
          | inr b ↦ inr (a.kept (s.0, x) b)
          | inl w ↦ elim w [ inl t ↦ inl (a.still (m.0, x) t) | inr b ↦ inr (gives e (Return k) (s.0, x) (here m e (Return k) b.0 r) (s, g, c, own, reaches_some (hand_at p h e) (row p g.0) _ bits some bit, (refl, b.1))) ]
        ]
      ];
    }

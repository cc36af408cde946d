-- The pairs that are found are the path edges.
use Rattle.std.proofs.Common.{◌≡◌, ◌<◌, ◌+◌, ◌-◌, ◌*◌, ◌/◌, ◌%◌, ℕ, List, length, get_or, Contains, Option, Some, None, ◌⊎◌, inl, inr, refl, sym, subst, ap, ◌∙◌, arith}
use Rattle.std.proofs.Props.{props}
use Rattle.std.proofs.lemmas.Option.{same_Some, slice_get-get_or}
use Rattle.bit_rows.specs.Words.{IsIn}
use Rattle.bit_rows.proofs.Bits.{in_range}
use Rattle.slicer_ids.specs.declared.ids.NodeId.{NodeId}
use Rattle.slicer_ids.specs.declared.ids.CallId.{CallId}
use Rattle.slicer_ids.specs.declared.ids.ExitId.{ExitId}
use Rattle.slicer_ids.specs.declared.ids.Mode.{Mode}
use Rattle.dep_form.specs.declared.facts.Facts.{Facts}
use Rattle.dep_form.specs.declared.node.Edge.{Edge}
use Rattle.dep_form.specs.declared.node.Node.{Node}
use Rattle.dep_form.specs.declared.node.Node.TheVariants.{Return as ReturnNode}
use Rattle.dep_form.specs.declared.node.Label.{Label}
use Rattle.dep_form.specs.declared.node.Label.TheVariants.{Thin, Base, Call, Return}
use Rattle.dep_form.specs.Inputs.{IsEdge, IsNodeOf}
use Rattle.dep_form.specs.Phases.{edge, Level, stay, thin, base, call}
use Rattle.dep_form.specs.Slices.{ModeEdges}
use Rattle.dep_form.specs.Summaries.{IsExitAt, IsRow, Summary}
use Rattle.tabulate.specs.declared.hands.Hands.{Hands}
use Rattle.tabulate.specs.Frames.{count, method_of, number_of, row, first, size}
use Rattle.tabulate.specs.Hands.{hand_of}
use Rattle.tabulate.specs.Rules.{FromOne, Reaches, Follows, FollowsBy, hand_at}
use Rattle.tabulate.specs.States.{IsDone, IsGood}
use Rattle.tabulate.proofs.Placing.{one_exit, exit_place, is_exit, placed, size_at}
use Rattle.tabulate.proofs.Fitting.{return_exit, call_ends, for_formal, IsFormalOf, of_node}
use Rattle.tabulate.proofs.HandRows.{formal_within}
use Rattle.tabulate.proofs.ModeEdges.{to_call, to_return, to_level, call_of, return_of, thin_of, base_of, level_method, path_of, level_of, exit_low}
use Rattle.tabulate.proofs.DoneLaws.{same_node, none_or_some, not_both}

module _ (p : Facts) (mode : Mode) where
  abbrev E : Edge → Type 0
  E = ModeEdges p.inputs mode

  row_split : (bits : List ℕ) (i : ℕ) → IsIn bits i → i / 64 < length bits
  row_split bits i b = omega (arith, in_range bits i b)

  -- a bit of a row to hand: the formal leads to the exit
  pub hand_level : (d : ExitId) (e g : NodeId) (bits : List ℕ) → IsRow p mode d bits → IsExitAt p d e → g.0 < count p → method_of p g.0 ≡ method_of p e.0 → IsIn bits (row p g.0) → Level E g e
  hand_level d e g bits r at gl own b =
      let k : ℕ = row p g.0 / 64 in
      let o : ℕ = row p g.0 % 64 in
      let s : Summary p mode d (64 * k + o) = (r.masks k (row_split bits (row p g.0) b) o (omega arith)).0 b in
      let node_is : s.2 ≡ e = same_Some s.2 e (sym s.5 ∙ at) in
      let there = of_node p s.2 s.0 s.4 (s.1, s.6, s.7) in
      let own' : method_of p g.0 ≡ s.0.0 = own ∙ sym (ap (λ (n : NodeId). method_of p n.0) node_is) ∙ there.1 in
      let starts : s.1.first.0 ≡ first p s.0.0 = (p.follow_on s.0.0 s.1 s.6).1 in
      let same : s.3.0 ≡ g.0 = omega (arith, s.8.0, starts, ap (first p) own', (placed p g.0 gl).above) in
      subst (λ (n : NodeId). Level E n e) (same_node s.3 g same) (subst (λ (n : NodeId). Level E s.3 n) node_is (level_of p mode s.3 s.2 s.9))

  -- .. and the other way round
  pub hand_bit : (d : ExitId) (e g a : NodeId) (k : CallId) (bits : List ℕ) → IsRow p mode d bits → IsExitAt p d e → IsEdge p.inputs (edge a (Call k) g) → method_of p g.0 ≡ method_of p e.0 → Level E g e → IsIn bits (row p g.0)
  hand_bit d e g a k bits r at c own l = for_formal p a g k (IsIn bits (row p g.0)) (hlevel props) c set
    where
      el : e.0 < count p
      el = exit_low p d e at

      set : IsFormalOf p g → IsIn bits (row p g.0)
      set f =
          let i : ℕ = row p g.0 in
          let low : i / 64 < length bits = omega (arith, formal_within p mode d e bits r at el a g k c own) in
          let home : method_of p e.0 ≡ f.method.0 = sym own ∙ f.owned in
          let h = placed p e.0 el in
          let start : f.input.first.0 ≡ first p (method_of p e.0) = sym f.starts ∙ ap (first p) (sym home) in
          let tall = size_at p f.method.0 (Some f.input) f.there in
          let kind : Node = get_or f.input.nodes (e.0 - f.input.first.0) ReturnNode in
          let here : IsNodeOf f.input e kind = (omega (arith, h.above, start), slice_get-get_or f.input.nodes (e.0 - f.input.first.0) ReturnNode (omega (arith, h.above, h.below, start, tall, ap (size p) home))) in
          let whole : 64 * (i / 64) + i % 64 ≡ i = omega arith in
          let s : Summary p mode d (64 * (i / 64) + i % 64) = subst (λ (j : ℕ). Summary p mode d j) (sym whole) (f.method, f.input, e, g, kind, at, f.there, here, f.formal, path_of p mode g e l) in
          (r.masks (i / 64) low (i % 64) (omega arith)).1 s

  module _ (h : Hands) (asked : List ExitId) (rows : (d : ExitId) (bits : List ℕ) → hand_of h d.0 ≡ Some bits → IsRow p mode d bits) where
    good_at : (q : ℕ × ℕ) (n : NodeId) (x : ℕ) → q.0 ≡ n.0 → IsGood p mode asked (n.0, q.1) → IsGood p mode asked q
    good_at q n x e g = record { to = g.to; end = g.end; exit = g.exit; number = g.number; was_asked = g.was_asked; level = λ from is. g.level from (is ∙ e) }

    before : (a n : NodeId) (x : ℕ) → ((end : NodeId) → Level E n end → Level E a end) → IsGood p mode asked (n.0, x) → IsGood p mode asked (a.0, x)
    before a n x f g = record { to = g.to; end = g.end; exit = g.exit; number = g.number; was_asked = g.was_asked; level = λ from is. subst (λ (k : NodeId). Level E k g.end) (sym (same_node from a is)) (f g.end (g.level n refl)) }

    -- a pair with the number of an exit of the node's method leads to that exit
    pub to_exit : (g e : NodeId) (d : ExitId) → IsExitAt p d e → method_of p g.0 ≡ method_of p e.0 → IsGood p mode asked (g.0, number_of p e.0) → Level E g e
    to_exit g e d at own x =
        let l = x.level g refl in
        let here = is_exit p d e at (exit_low p d e at) in
        let there = is_exit p x.to x.end x.exit (exit_low p x.to x.end x.exit) in
        subst (λ (k : NodeId). Level E g k) (sym (same_node e x.end (one_exit p e.0 x.end.0 here there (sym own ∙ level_method p mode l) x.number))) l

    reach_level : (o : Option (List ℕ)) (e g : NodeId) (d : ExitId) (K : Type 0) → IsExitAt p d e → hand_of h d.0 ≡ o → g.0 < count p → method_of p g.0 ≡ method_of p e.0 → (K → Level E g e) → Reaches o (row p g.0) K → Level E g e
    reach_level None e g d K at is gl own f r = f r
    reach_level (Some bits) e g d K at is gl own f r = hand_level d e g bits (rows d bits is) at gl own r

    follow_good : (n : NodeId) (delta : List ℕ) (a : NodeId) (l : Label) (K : ℕ × ℕ → Type 0) → ((x : ℕ) → IsIn delta x → IsGood p mode asked (n.0, x)) → ((q : ℕ × ℕ) → K q → IsGood p mode asked q) → IsEdge p.inputs (edge a l n) → (q : ℕ × ℕ) → FollowsBy p mode h n delta a l K q → IsGood p mode asked q
    follow_good n delta a Thin K new old e q f = good_at q a q.1 f.0 (before a n q.1 (λ end x. to_level p mode a n end Thin e tt x) (new q.1 f.1))
    follow_good n delta a Base K new old e q f = good_at q a q.1 f.1.0 (before a n q.1 (λ end x. to_level p mode a n end Base e f.0 x) (new q.1 f.1.1))
    follow_good n delta a (Call k) K new old e q (x, d, r, own, bit, to, at) =
        let exit = return_exit p x d k r in
        let inner = to_exit n x exit.0 exit.1 (sym own) (new (number_of p x.0) bit) in
        good_at q a q.1 to (before a d q.1 (λ end y. call (to_call p mode a n k e) inner (to_return p mode x d k r) y) (old (d.0, q.1) at))
    follow_good n delta a (Return k) K new old e q (s, g, c, own, reaches, w) =
        let exit = return_exit p a n k e in
        let place = exit_place p exit.0 a exit.1 in
        let inner = reach_level (hand_at p h a) a g exit.0 (K (g.0, number_of p a.0)) exit.1 (sym (ap (hand_of h) place)) (call_ends p s g k c) own (λ at. to_exit g a exit.0 exit.1 own (old (g.0, number_of p a.0) at)) reaches in
        good_at q s q.1 w.0 (before s n q.1 (λ end y. call (to_call p mode s g k c) inner (to_return p mode a n k e) y) (new q.1 w.1))

    pub follows_good : (n : NodeId) (delta : List ℕ) (es : List Edge) (K : ℕ × ℕ → Type 0) → ((x : ℕ) → IsIn delta x → IsGood p mode asked (n.0, x)) → ((q : ℕ × ℕ) → K q → IsGood p mode asked q) → ((e : Edge) → Contains es e → IsEdge p.inputs e × (e.to ≡ n)) → (q : ℕ × ℕ) → FromOne (Follows p mode h n delta) es K q → IsGood p mode asked q
    follows_good n delta es K new old edges q (e, c, f) =
        let is = edges e c in
        follow_good n delta e.from e.label K new old (subst (λ (k : NodeId). IsEdge p.inputs (edge e.from e.label k)) is.1 is.0) q f

    -- nothing waits any more
    module _ (got todo : ℕ × ℕ → Type 0) (done : IsDone p mode h got todo) (idle : (q : ℕ × ℕ) → todo q → ⊥) where
      and_not : (q : ℕ × ℕ) (B : Type 0) → todo q ⊎ B → B
      and_not q B (inl w) = absurd (idle q w)
      and_not q B (inr b) = b

      over_call : (a b c d : NodeId) (k : CallId) (x : ℕ) (exit : ExitId) → IsExitAt p exit c → IsEdge p.inputs (edge a (Call k) b) → IsEdge p.inputs (edge c (Return k) d) → Level E b c → (got (c.0, number_of p c.0) → got (b.0, number_of p c.0)) → got (d.0, x) → got (a.0, x)
      over_call a b c d k x exit at f r l inner outer = elim (none_or_some (hand_at p h c)) [
        | inl none ↦ elim (and_not (d.0, x) (got (c.0, number_of p c.0) ⊎ ((bits : List ℕ) × (hand_at p h c ≡ Some bits))) (done.asks d c x k outer r)) [
          | inl g ↦ and_not (b.0, number_of p c.0) (got (a.0, x)) (and_not (d.0, x) (todo (b.0, number_of p c.0) ⊎ got (a.0, x)) (done.calls d a b c x k outer (inner g) none r f (level_method p mode l)))
          | inr t ↦ absurd (not_both t.0 (sym t.1 ∙ none))
        ]
        | inr t ↦
            let r' = rows exit t.0 (sym (ap (hand_of h) (exit_place p exit c at)) ∙ t.1) in
            and_not (d.0, x) (got (a.0, x)) (done.hands d a b c x k t.0 outer t.1 (hand_bit exit c b a k t.0 r' at f (level_method p mode l) l) r f (level_method p mode l))
      ]

      pub whole : {n e : NodeId} (x : ℕ) → Level E n e → got (e.0, x) → got (n.0, x)
      whole x stay g = g
      whole x (thin {a} {b} {c} f l) g = let t = thin_of p mode a b f in and_not (b.0, x) (got (a.0, x)) (done.flows b a x t.0 (whole x l g) t.1 t.2)
      whole x (base {a} {b} {c} f l) g = let t = base_of p mode a b f in and_not (b.0, x) (got (a.0, x)) (done.flows b a x t.0 (whole x l g) t.1 t.2)
      whole x (call {a} {b} {c} {d} {e} {k} f l r y) g =
          let r' = return_of p mode c d k r in
          let exit = return_exit p c d k r' in
          over_call a b c d k x exit.0 exit.1 (call_of p mode a b k f) r' l (λ i. whole (number_of p c.0) l i) (whole x y g)

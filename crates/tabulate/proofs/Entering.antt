-- The rules for calls and returns, by the lists that are kept of a method.
use Rattle.std.proofs.Common.{◌≡◌, ◌<◌, ◌+◌, ℕ, List, Option, Some, None, Contains, refl, sym, subst, ap, ◌∙◌, arith}
use Rattle.bit_rows.specs.Words.{IsIn}
use Rattle.slicer_ids.specs.declared.ids.NodeId.{NodeId}
use Rattle.slicer_ids.specs.declared.ids.CallId.{CallId}
use Rattle.slicer_ids.specs.declared.ids.Mode.{Mode}
use Rattle.dep_form.specs.declared.facts.Facts.{Facts}
use Rattle.dep_form.specs.declared.node.Label.TheVariants.{Call, Return}
use Rattle.dep_form.specs.Inputs.{IsEdge}
use Rattle.dep_form.specs.Phases.{edge}
use Rattle.tabulate.specs.declared.method.Method.{Method}
use Rattle.tabulate.specs.declared.method.Argument.{Argument}
use Rattle.tabulate.specs.declared.method.Back.{Back}
use Rattle.tabulate.specs.declared.hands.Hands.{Hands}
use Rattle.tabulate.specs.Frames.{count, method_of, number_of, row, first_exit, exit_count, IsOf}
use Rattle.tabulate.specs.Methods.{IsMethodOf, IsArgument}
use Rattle.tabulate.specs.Rules.{FromOne, Reaches, Passes, PassesByHand, Comes, FollowsBy, hand_at}
use Rattle.tabulate.proofs.Placing.{placed, behind_first, exit_within, number_low, is_exit}
use Rattle.tabulate.proofs.Fitting.{one_home, call_starts, call_ends, return_starts, return_ends, return_exit}

called : (p : Facts) (a g : NodeId) (k l : CallId) → k ≡ l → IsEdge p.inputs (edge a (Call k) g) → IsEdge p.inputs (edge a (Call l) g)
called p a g k l e h = subst (λ (j : CallId). IsEdge p.inputs (edge a (Call j) g)) e h

returned : (p : Facts) (a g : NodeId) (k l : CallId) → k ≡ l → IsEdge p.inputs (edge a (Return k) g) → IsEdge p.inputs (edge a (Return l) g)
returned p a g k l e h = subst (λ (j : CallId). IsEdge p.inputs (edge a (Return j) g)) e h

-- over a call, from a formal of a method to an argument of the caller x
module _ (p : Facts) (mode : Mode) (h : Hands) (x : Method) (is : IsMethodOf p x) (n a : NodeId) (nl : n.0 < count p) (k : CallId) (delta : List ℕ) (e : IsEdge p.inputs (edge a (Call k) n)) (home : method_of p a.0 ≡ x.id.0) where
  pub comes_to : (K : ℕ × ℕ → Type 0) (q : ℕ × ℕ) → FollowsBy p mode h n delta a (Call k) K q → FromOne (Comes p n k delta a) x.returns.items K q
  comes_to K q (c, d, r, own, bit, to, at) =
      let exit = return_exit p c d k r in
      let cl = return_starts p c d k r in
      let back : Back = record { call = k; exit = exit.0; to = d } in
      let member = is.backs.whole back (c, exit.1, r, (return_ends p c d k r, sym (one_home p a n c d k e r) ∙ home)) in
      (back, member, (refl, (number_of p c.0, behind_first p exit.0 c exit.1 cl ∙ ap (λ m. first_exit p m + number_of p c.0) own, omega (arith, number_low p c.0 (is_exit p exit.0 c exit.1 cl), ap (exit_count p) own), bit), to, at))

  pub comes_from : (K : ℕ × ℕ → Type 0) (q : ℕ × ℕ) → FromOne (Comes p n k delta a) x.returns.items K q → FollowsBy p mode h n delta a (Call k) K q
  comes_from K q (b, member, (same, (number, place, low, bit), to, at)) =
      let i = is.backs.each b member in
      let r = returned p i.0 b.to b.call k same i.2 in
      let within = exit_within p b.exit i.0 (method_of p n.0) number i.1 (return_starts p i.0 b.to k r) (placed p n.0 nl).owned place low in
      (i.0, b.to, r, within.0, subst (λ (j : ℕ). IsIn delta j) (sym within.1) bit, to, at)

-- over a call, from the end of a return, whose exit e is one of the callee x, to the arguments
module _ (p : Facts) (mode : Mode) (h : Hands) (x : Method) (is : IsMethodOf p x) (n e : NodeId) (k : CallId) (delta : List ℕ) (own : IsOf p e.0 x.id.0) where
  argument : (s g : NodeId) → IsEdge p.inputs (edge s (Call k) g) → method_of p g.0 ≡ method_of p e.0 → Contains x.arguments.items (record { call = k; from = s; formal = g })
  argument s g c m = is.arguments.whole (record { call = k; from = s; formal = g }) (c, (call_ends p s g k c, m ∙ own.1))

  module _ (bits : List ℕ) (to_hand : hand_at p h e ≡ Some bits) where
    pub hand_to : (K : ℕ × ℕ → Type 0) (q : ℕ × ℕ) → FollowsBy p mode h n delta e (Return k) K q → FromOne (PassesByHand p bits k delta) x.arguments.items K q
    hand_to K q (s, g, c, m, reaches, w) = (record { call = k; from = s; formal = g }, argument s g c m, (refl, subst (λ (o : Option (List ℕ)). Reaches o (row p g.0) (K (g.0, number_of p e.0))) to_hand reaches, w))

    pub hand_from : (K : ℕ × ℕ → Type 0) (q : ℕ × ℕ) → FromOne (PassesByHand p bits k delta) x.arguments.items K q → FollowsBy p mode h n delta e (Return k) K q
    hand_from K q (a, member, (same, bit, w)) =
        let i = is.arguments.each a member in
        (a.from, a.formal, called p a.from a.formal a.call k same i.0, i.1.1 ∙ sym own.1, subst (λ (o : Option (List ℕ)). Reaches o (row p a.formal.0) (K (a.formal.0, number_of p e.0))) (sym to_hand) bit, w)

  module _ (no_hand : hand_at p h e ≡ None) where
    pub pass_to : (K : ℕ × ℕ → Type 0) (q : ℕ × ℕ) → FollowsBy p mode h n delta e (Return k) K q → FromOne (Passes p e k delta) x.arguments.items K q
    pass_to K q (s, g, c, m, reaches, w) = (record { call = k; from = s; formal = g }, argument s g c m, (refl, subst (λ (o : Option (List ℕ)). Reaches o (row p g.0) (K (g.0, number_of p e.0))) no_hand reaches, w))

    pub pass_from : (K : ℕ × ℕ → Type 0) (q : ℕ × ℕ) → FromOne (Passes p e k delta) x.arguments.items K q → FollowsBy p mode h n delta e (Return k) K q
    pass_from K q (a, member, (same, at, w)) =
        let i = is.arguments.each a member in
        (a.from, a.formal, called p a.from a.formal a.call k same i.0, i.1.1 ∙ sym own.1, subst (λ (o : Option (List ℕ)). Reaches o (row p a.formal.0) (K (a.formal.0, number_of p e.0))) (sym no_hand) at, w)

  -- an argument of the call is a node of the method to which the call returns
  pub argument_home : (a : Argument) → IsArgument p x.id.0 a → IsEdge p.inputs (edge e (Return k) n) → a.call ≡ k → IsOf p a.from.0 (method_of p n.0)
  argument_home a i r same =
      let c = called p a.from a.formal a.call k same i.0 in
      (call_starts p a.from a.formal k c, one_home p a.from a.formal e n k c r)

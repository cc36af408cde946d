-- What a call that goes outside gives and writes, as the program has it, by numbers.
use Rattle.std.proofs.Common.{◌≡◌, ◌<◌, ℕ, Bool, List, length, Some, sym, ap, subst, ◌∙◌, inl, inr, arith}
use Rattle.std.specs.Prelude.{slice_get, Contains}
use Rattle.std.proofs.lemmas.Option.{slice_get_within}
use Rattle.std.proofs.lemmas.List.Elements.{All-contains}
use Rattle.slicer_ids.specs.declared.ids.SiteId.{SiteId}
use Rattle.slicer_ids.specs.declared.ids.FieldId.{FieldId}
use Rattle.slicer_ids.specs.declared.ids.CallId.{CallId}
use Rattle.slicer_ids.specs.declared.ids.Statement.{Statement}
use Rattle.class_form.proofs.Indices.{index_at}
use Rattle.slicer_ids.specs.Sets.{IsOrderedListOf}
use Rattle.dep_form.specs.declared.rules.OutsideRule.{OutsideRule}
use Rattle.dep_form.specs.declared.call_site.CallSite.{CallSite}
use Rattle.dep_form.specs.declared.system.System.{System}
use Rattle.dep_form.specs.Outside.{IsReceiver, IsOutsideRule, IsReferenceArgument, IsWritten, IsChanged, IsFilled}
use Rattle.dep_form.specs.PointsTo.{Fact, Reached, OutsideArgument, OneMayBe, Gives, Writes}
use Rattle.dep_form.specs.Constraints.{ArgumentHas, IsState as IsSystemState, IsElements as IsSystemElements}
use Rattle.program_form.specs.Programs.{Program, references_of}
use Rattle.program_form.specs.Sites.{Site}
use Rattle.program_form.specs.Facts.{Variable, FieldName, OperandHas, IsState, IsElements, OutsideRuleOf}
use Rattle.program_form.specs.Systems.{SiteNumber, FieldNumber, CallNumber, IsCallOf}
use Rattle.program_form.specs.Systems as tied
use Rattle.constraint_form.specs.Asked.{IsReadProgram}
use Rattle.constraint_form.specs.Variables.{Meaning}
use Rattle.constraint_form.specs.ConstraintSystems.{AreTables}
use Rattle.constraint_form.proofs.Instructions.{one_instance, one_call_type}
use Rattle.constraint_form.proofs.SitePassing.{to_state, to_elements}
use Rattle.constraint_form.proofs.SystemAdds.{Known}
use Rattle.constraint_form.proofs.Upwards.{Up, at, up_cell, up_outside, outside_site, operand_site, up_argument, state_number}

-- two lists of the members of one set
pub shared : (P Q : ℕ → Type 0) (xs ys : List ℕ) → ((i : ℕ) → P i → Q i) → IsOrderedListOf (λ i j. i < j) xs P → IsOrderedListOf (λ i j. i < j) ys Q →
    (i : ℕ) → Contains xs i → Contains ys i
shared P Q xs ys f a b i c = b.whole i (f i (All-contains P xs i a.each c))

-- the rule of a call is the one that the program has of it
pub record AreSameRules (r q : OutsideRule) : Type 0 where
  pub reads : (i : ℕ) → Contains r.reads i → Contains q.reads i
  pub written : (i : ℕ) → Contains r.written i → Contains q.written i
  pub states : (i : ℕ) → Contains r.states i → Contains q.states i
  pub arrays : (i : ℕ) → Contains r.arrays i → Contains q.arrays i

pub same_rules : (b c : Bool) (xs ys : List Bool) (r q : OutsideRule) → b ≡ c → xs ≡ ys → IsOutsideRule b xs r → IsOutsideRule c ys q → AreSameRules r q
same_rules b c xs ys r q e f x y = record {
  reads = shared (IsReferenceArgument xs) (IsReferenceArgument ys) r.reads q.reads (λ i h. subst (λ zs. IsReferenceArgument zs i) f h) x.reads y.reads;
  written = shared (IsWritten b xs) (IsWritten c ys) r.written q.written (λ i h. subst (λ z. IsWritten z ys i) e (subst (λ zs. IsWritten b zs i) f h)) x.written y.written;
  states = shared (IsChanged b xs) (IsChanged c ys) r.states q.states (λ i h. subst (λ z. IsChanged z ys i) e (subst (λ zs. IsChanged b zs i) f h)) x.states y.states;
  arrays = shared (IsFilled b xs) (IsFilled c ys) r.arrays q.arrays (λ i h. subst (λ z. IsFilled z ys i) e (subst (λ zs. IsFilled b zs i) f h)) x.arrays y.arrays;
}

module _ (p : Program) (s : System) (names : List Meaning) (asked : IsReadProgram p) (tables : AreTables p s names) where
  -- each call has a rule, and it is what the program says
  pub rule_of : (c : CallId) (k : CallSite) → slice_get s.calls c.0 ≡ Some k → (q : OutsideRule) × (slice_get s.outside_rules c.0 ≡ Some q)
  rule_of c k is = index_at s.outside_rules c.0 (omega (arith, s.rule_each, below))
    where
      below : c.0 < length s.calls
      below = slice_get_within s.calls c.0 k is

  pub rules_agree : (t : Statement) (c : CallId) (k : CallSite) (q : OutsideRule) (instance : Bool) (r : OutsideRule) → IsCallOf s t c k →
      slice_get s.outside_rules c.0 ≡ Some q → OutsideRuleOf p t instance r → AreSameRules r q
  rules_agree t c k q instance r of is (m, type, has, rule) =
      let (n, its, b, refs) = tables.calls.types t c k of in
      let e = one_instance p asked t instance k.instance has b in
      let types = one_call_type p asked t m n type its in
      let lists : references_of instance m ≡ k.references = ap (λ z. references_of z m) e ∙ ap (λ z. references_of k.instance z) types ∙ sym refs in
      same_rules instance k.instance (references_of instance m) k.references r q e lists rule (tables.calls.rules c k q of.0 is)

  module _ (t : Statement) (c : CallId) (k : CallSite) (of : IsCallOf s t c k) (reached : Up p s names asked tables (Reached t.method)) (instance : Bool) (same : k.instance ≡ instance) (r q : OutsideRule) (rules : AreSameRules r q) where
    abbrev UpHere : Fact Variable Site FieldName Statement → Type 0
    UpHere = Up p s names asked tables

    number : CallNumber s t c
    number = (k, of.0, of.1)

    no_receiver : (i : ℕ) → (IsReceiver instance i → ⊥) → IsReceiver k.instance i → ⊥
    no_receiver i never x = never (sym same ∙ x.0, x.1)

    argument_site : (i : ℕ) (h : Site) → OutsideArgument UpHere t instance r (OperandHas p UpHere t) (IsState p) i h → (n : SiteId) × SiteNumber p n h
    argument_site i h (inl (x, u)) = outside_site p s names asked tables u
    argument_site i h (inr (x, u, o)) = operand_site p s names asked tables t i h o

    argument_up : (i : ℕ) (h : Site) (n : SiteId) → SiteNumber p n h → OutsideArgument UpHere t instance r (OperandHas p UpHere t) (IsState p) i h →
        OutsideArgument (Known s) c k.instance q (ArgumentHas s (Known s) k) (IsSystemState s) i n
    argument_up i h n sn (inl (x, u)) = inl ((same ∙ x.0, x.1), at p s names asked tables u (tied.outside number sn))
    argument_up i h n sn (inr (x, (o, u), a)) = inr (no_receiver i x, up_outside p s names asked tables c number u, up_argument p s names asked tables t c k i of reached h n sn a)

    one_up : (is js : List ℕ) → ((i : ℕ) → Contains is i → Contains js i) → (h : Site) (n : SiteId) → SiteNumber p n h →
        OneMayBe UpHere t instance r (OperandHas p UpHere t) (IsState p) is h → OneMayBe (Known s) c k.instance q (ArgumentHas s (Known s) k) (IsSystemState s) js n
    one_up is js among h n sn (i, x, a) = (i, among i x, argument_up i h n sn a)

    -- what its arguments give
    pub gives_up : (is js : List ℕ) → ((i : ℕ) → Contains is i → Contains js i) → (h : Site) → Gives UpHere t instance r (OperandHas p UpHere t) (IsState p) is h →
        (n : SiteId) × SiteNumber p n h × Gives (Known s) c k.instance q (ArgumentHas s (Known s) k) (IsSystemState s) js n
    gives_up is js among h (inl (i, x, a)) =
        let (n, sn) = argument_site i h a in
        (n, sn, inl (one_up is js among h n sn (i, x, a)))
    gives_up is js among h (inr (b, f, one, st, u)) =
        let (a, g, n, sa, fg, sn, holds) = up_cell p s names asked tables u in
        (n, sn, inr (a, g, one_up is js among b a sa one, to_state p s names asked tables a b sa f g fg st, holds))

    -- what it writes
    pub writes_up : (b : Site) (f : FieldName) → Writes UpHere t instance r (OperandHas p UpHere t) (IsState p) (IsElements p) b f →
        (a : SiteId) × (g : FieldId) × SiteNumber p a b × FieldNumber s f g
        × Writes (Known s) c k.instance q (ArgumentHas s (Known s) k) (IsSystemState s) (IsSystemElements s) a g
    writes_up b f (inl ((i, x, a), st)) =
        let (n, sn) = argument_site i b a in
        let (g, fg) = state_number p s names asked tables b f st in
        (n, g, sn, fg, inl (one_up r.states q.states rules.states b n sn (i, x, a), to_state p s names asked tables n b sn f g fg st))
    writes_up b f (inr ((i, x, a), el)) =
        let (n, sn) = argument_site i b a in
        let (g, fg) = state_number p s names asked tables b f (inl el) in
        (n, g, sn, fg, inr (one_up r.arrays q.arrays rules.arrays b n sn (i, x, a), to_elements p s names asked tables n b sn f g fg el))

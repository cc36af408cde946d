-- An outside call in a program, and the same call in a system of it.
use Rattle.std.proofs.Common.{◌≡◌, ℕ, Bool, true, false, List, Option, Some, None, inl, inr, refl, sym, ap, subst, ◌∙◌, arith}
use Rattle.std.specs.Prelude.{slice_get}
use Rattle.std.proofs.lemmas.Bool.{true≢false}
use Rattle.std.proofs.lemmas.Option.{slice_get_within}
use Rattle.std.proofs.lemmas.List.Elements.{All-contains}
use Rattle.slicer_ids.specs.declared.ids.MethodId.{MethodId}
use Rattle.slicer_ids.specs.declared.ids.SiteId.{SiteId}
use Rattle.slicer_ids.specs.declared.ids.FieldId.{FieldId}
use Rattle.slicer_ids.specs.declared.ids.CallId.{CallId}
use Rattle.slicer_ids.specs.declared.ids.Statement.{Statement}
use Rattle.class_form.specs.Opcodes.{IsCall}
use Rattle.class_form.specs.declared.types.FieldType.{FieldType}
use Rattle.class_form.proofs.Indices.{index_in, index_at, there_at}
use Rattle.dep_form.specs.declared.rules.OutsideRule.{OutsideRule}
use Rattle.dep_form.specs.declared.rules.SiteInfo.{SiteInfo}
use Rattle.dep_form.specs.declared.call_site.CallSite.{CallSite}
use Rattle.dep_form.specs.declared.system.System.{System}
use Rattle.dep_form.specs.PointsTo.{Reached, Has, Calls, OutsideAt, OutsideArgument, OneMayBe, Writes}
use Rattle.dep_form.specs.Constraints.{SystemFact, SystemHolds, ArgumentHas, IsSite, IsElements as IsSystemElements, IsState as IsSystemState}
use Rattle.program_form.specs.Programs.{Program}
use Rattle.program_form.specs.Statements.{HasOpcode}
use Rattle.program_form.specs.Sites.{Site, HasType, IsObjectOf}
use Rattle.program_form.specs.Facts.{Variable, FieldName, ProgramFact, Holds, OutsideRuleOf, IsElements, IsState}
use Rattle.program_form.specs.Effects.{OperandMayBe}
use Rattle.program_form.specs.Systems.{SiteNumber, FieldNumber, CallNumber, Counterpart, reached, has, calls, static_outside, outside, IsCallOf, IsSystemOf}
use Rattle.program_code.specs.Codes.{IsProgramOfCode}
use Rattle.program_code.proofs.Naming.{one_outside}
use Rattle.program_code.proofs.Numbers.{elements_named, state_named}
use Rattle.program_code.proofs.SiteTypes.{one_kind, kinds_of_sites}

-- COUNTERPARTS

module _ (p : Program) (s : System) where
  pub outside_number : (t : Statement) (h : Site) (g : SystemFact) → Counterpart p s (OutsideAt t (Some h)) g → (n : SiteId) × SiteNumber p n h
  outside_number t h g (outside call site) = (_, site)

  pub outside_site : (f : ProgramFact) (c : CallId) (n : SiteId) → Counterpart p s f (OutsideAt c (Some n)) → (h : Site) × SiteNumber p n h
  outside_site f c n (outside call site) = (_, site)

  pub has_number : (v : Variable) (h : Site) (g : SystemFact) → Counterpart p s (Has v h) g → (n : SiteId) × SiteNumber p n h
  has_number v h g (has variable site) = (_, site)

  call_number : (t : Statement) (m : MethodId) (g : SystemFact) → Counterpart p s (Calls t m) g → (c : CallId) × CallNumber s t c
  call_number t m g (calls call) = (_, call)

-- what a site's number says of it
pub site_type : (p : Program) (n : SiteId) (h : Site) → SiteNumber p n h → (t : FieldType) × HasType p h t
site_type p n h x = All-contains (λ g. (t : FieldType) × HasType p g t) x.0 h x.1.each (there_at x.0 n.0 h x.2)

-- another site has a number too
pub number_of_site : (p : Program) (n : SiteId) (h g : Site) → SiteNumber p n h → (t : FieldType) × HasType p g t → (k : SiteId) × SiteNumber p k g
number_of_site p n h g x typed =
    let i = index_in x.0 g (x.1.whole g typed) in
    let k : SiteId = record { 0 = i.0 } in
    (k, (x.0, x.1, i.1))

module _ (p : Program) (s : System) (coded : IsProgramOfCode p) (tie : IsSystemOf p s) where
  pub reached_there : (m : MethodId) → Holds p (Reached m) → SystemHolds s (Reached m)
  reached_there m h = (tie.facts (Reached m) (Reached m) reached).0 h

  pub reached_back : (m : MethodId) → SystemHolds s (Reached m) → Holds p (Reached m)
  reached_back m h = (tie.facts (Reached m) (Reached m) reached).1 h

  pub calls_there : (t : Statement) (m : MethodId) → Holds p (Calls t m) → (c : CallId) × CallNumber s t c × SystemHolds s (Calls c m)
  calls_there t m h =
      let g = tie.numbered (Calls t m) h in
      let c = call_number p s t m g.0 g.1 in
      (c.0, c.1, (tie.facts (Calls t m) (Calls c.0 m) (calls c.1)).0 h)

  pub calls_back : (t : Statement) (c : CallId) (m : MethodId) → CallNumber s t c → SystemHolds s (Calls c m) → Holds p (Calls t m)
  calls_back t c m number h = (tie.facts (Calls t m) (Calls c m) (calls number)).1 h

  -- SITES

  pub info_of : (n : SiteId) (h : Site) → SiteNumber p n h → (info : SiteInfo) × IsSite s n info
  info_of n h x = index_at s.sites n.0 ((tie.sites n).1 (h, x))

  pub elements_there : (n : SiteId) (h : Site) (f : FieldName) (g : FieldId) → SiteNumber p n h → FieldNumber s f g → IsElements p h f → IsSystemElements s n g
  elements_there n h f g x y e =
      let i = info_of n h x in
      (i.0, i.1, (tie.arrays n h i.0 x i.1).1 e.0, subst (λ (z : FieldName). FieldNumber s z g) e.1 y)

  pub elements_back : (n : SiteId) (h : Site) (f : FieldName) (g : FieldId) → SiteNumber p n h → FieldNumber s f g → IsSystemElements s n g → IsElements p h f
  elements_back n h f g x y e = ((tie.arrays n h e.0 x e.1).0 e.2, elements_named s f (subst (λ (z : FieldId). FieldNumber s f z) e.3 y))

  no_array : (n : SiteId) (h : Site) (info : SiteInfo) (name : List ℕ) → SiteNumber p n h → IsSite s n info → IsObjectOf p h name → (b : Bool) → info.array ≡ b → info.array ≡ false
  no_array n h info name x is object false e = e
  no_array n h info name x is object true e =
      let array = (tie.arrays n h info x is).0 e in
      absurd (one_kind p coded h object.0 array.0 object.1 array.1 object.2 array.2)

  pub state_there : (n : SiteId) (h : Site) (f : FieldName) (g : FieldId) → SiteNumber p n h → FieldNumber s f g → IsState p h f → IsSystemState s n g
  state_there n h f g x y (inl e) = inl (elements_there n h f g x y e)
  state_there n h f g x y (inr e) =
      let i = info_of n h x in
      inr (i.0, i.1, no_array n h i.0 e.0 x i.1 e.1 i.0.array refl, subst (λ (z : FieldName). FieldNumber s z g) e.2 y)

  object_of : (n : SiteId) (h : Site) (info : SiteInfo) → SiteNumber p n h → IsSite s n info → info.array ≡ false → (name : List ℕ) × IsObjectOf p h name
  object_of n h info x is none =
      let t = site_type p n h x in
      elim (kinds_of_sites p coded h t.0 t.1) [
        | inl lt ↦ absurd (true≢false (sym ((tie.arrays n h info x is).1 (t.0, t.1, lt)) ∙ none))
        | inr class ↦ (class.1, (t.0, t.1, class.0, class.2))
      ]

  pub state_back : (n : SiteId) (h : Site) (f : FieldName) (g : FieldId) → SiteNumber p n h → FieldNumber s f g → IsSystemState s n g → IsState p h f
  state_back n h f g x y (inl e) = inl (elements_back n h f g x y e)
  state_back n h f g x y (inr e) =
      let object = object_of n h e.0 x e.1 e.2 in
      inr (object.0, object.1, state_named s f (subst (λ (z : FieldId). FieldNumber s f z) e.3 y))

  -- CALLS

  module _ (t : Statement) (c : CallId) (k : CallSite) (is : IsCallOf s t c k) where
    number : CallNumber s t c
    number = (k, is.0, is.1)

    pub goes_there : (o : Option Site) → Holds p (OutsideAt t o) → (q : Option SiteId) × SystemHolds s (OutsideAt c q)
    goes_there None h = (None, (tie.facts (OutsideAt t None) (OutsideAt c None) (static_outside number)).0 h)
    goes_there (Some b) h =
        let g = tie.numbered (OutsideAt t (Some b)) h in
        let n = outside_number p s t b g.0 g.1 in
        (Some n.0, (tie.facts (OutsideAt t (Some b)) (OutsideAt c (Some n.0)) (outside number n.1)).0 h)

    pub goes_back : (q : Option SiteId) → SystemHolds s (OutsideAt c q) → (o : Option Site) × Holds p (OutsideAt t o)
    goes_back None h = (None, (tie.facts (OutsideAt t None) (OutsideAt c None) (static_outside number)).1 h)
    goes_back (Some n) h =
        let f = tie.outside_named c (Some n) h in
        let b = outside_site p s f.0 c n f.1 in
        (Some b.0, (tie.facts (OutsideAt t (Some b.0)) (OutsideAt c (Some n)) (outside number b.1)).1 h)

    module _ (r : OutsideRule) where
      argument_there : (i : ℕ) (n : SiteId) (b : Site) → SiteNumber p n b → OutsideArgument (Holds p) t k.instance r (OperandMayBe p t) (IsState p) i b
          → OutsideArgument (SystemHolds s) c k.instance r (ArgumentHas s (SystemHolds s) k) (IsSystemState s) i n
      argument_there i n b x (inl h) = inl (h.0, (tie.facts (OutsideAt t (Some b)) (OutsideAt c (Some n)) (outside number x)).0 h.1)
      argument_there i n b x (inr h) = inr (h.0, goes_there h.1.0 h.1.1, (tie.arguments t c k i n b is x).0 h.2)

      argument_back : (i : ℕ) (n : SiteId) (b : Site) → SiteNumber p n b → OutsideArgument (SystemHolds s) c k.instance r (ArgumentHas s (SystemHolds s) k) (IsSystemState s) i n
          → OutsideArgument (Holds p) t k.instance r (OperandMayBe p t) (IsState p) i b
      argument_back i n b x (inl h) = inl (h.0, (tie.facts (OutsideAt t (Some b)) (OutsideAt c (Some n)) (outside number x)).1 h.1)
      argument_back i n b x (inr h) = inr (h.0, goes_back h.1.0 h.1.1, (tie.arguments t c k i n b is x).1 h.2)

      pub one_there : (js : List ℕ) (n : SiteId) (b : Site) → SiteNumber p n b → OneMayBe (Holds p) t k.instance r (OperandMayBe p t) (IsState p) js b
          → OneMayBe (SystemHolds s) c k.instance r (ArgumentHas s (SystemHolds s) k) (IsSystemState s) js n
      one_there js n b x h = (h.0, h.1, argument_there h.0 n b x h.2)

      pub one_back : (js : List ℕ) (n : SiteId) (b : Site) → SiteNumber p n b → OneMayBe (SystemHolds s) c k.instance r (ArgumentHas s (SystemHolds s) k) (IsSystemState s) js n
          → OneMayBe (Holds p) t k.instance r (OperandMayBe p t) (IsState p) js b
      one_back js n b x h = (h.0, h.1, argument_back h.0 n b x h.2)

      pub writes_there : (n : SiteId) (b : Site) (f : FieldName) (g : FieldId) → SiteNumber p n b → FieldNumber s f g
          → Writes (Holds p) t k.instance r (OperandMayBe p t) (IsState p) (IsElements p) b f
          → Writes (SystemHolds s) c k.instance r (ArgumentHas s (SystemHolds s) k) (IsSystemState s) (IsSystemElements s) n g
      writes_there n b f g x y (inl h) = inl (one_there r.states n b x h.0, state_there n b f g x y h.1)
      writes_there n b f g x y (inr h) = inr (one_there r.arrays n b x h.0, elements_there n b f g x y h.1)

      pub writes_back : (n : SiteId) (b : Site) (f : FieldName) (g : FieldId) → SiteNumber p n b → FieldNumber s f g
          → Writes (SystemHolds s) c k.instance r (ArgumentHas s (SystemHolds s) k) (IsSystemState s) (IsSystemElements s) n g
          → Writes (Holds p) t k.instance r (OperandMayBe p t) (IsState p) (IsElements p) b f
      writes_back n b f g x y (inl h) = inl (one_back r.states n b x h.0, state_back n b f g x y h.1)
      writes_back n b f g x y (inr h) = inr (one_back r.arrays n b x h.0, elements_back n b f g x y h.1)

  -- the call of the system that stands for an outside call, with its rule
  pub record Answering (t : Statement) (instance : Bool) (r : OutsideRule) : Type 0 where
    pub call : CallId
    pub site : CallSite
    pub is : IsCallOf s t call site
    pub rule : slice_get s.outside_rules call.0 ≡ Some r
    pub receiver : instance ≡ site.instance

  pub answering : (t : Statement) (instance : Bool) (r : OutsideRule) → HasOpcode p t IsCall → OutsideRuleOf p t instance r → Answering t instance r
  answering t instance r op rule =
      let c = (tie.calls t).0 op in
      let is : IsCallOf s t c.0 c.1.0 = (c.1.1, c.1.2) in
      let q = index_at s.outside_rules c.0.0 (omega (arith, slice_get_within s.calls c.0.0 c.1.0 c.1.1, s.rule_each)) in
      let same = one_outside p coded t instance c.1.0.instance r q.0 rule (tie.rules t c.0 c.1.0 q.0 is q.1) in
      record {
        call = c.0;
        site = c.1.0;
        is = is;
        rule = q.1 ∙ ap (λ (x : OutsideRule). Some x) (sym same.1);
        receiver = same.0;
      }

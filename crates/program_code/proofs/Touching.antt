-- What each statement defines and uses in a program, and in a system of it.
use Rattle.std.proofs.Common.{◌≡◌, ◌⊎◌, ◌<◌, ℕ, Bool, true, false, Option, Some, inl, inr, refl, sym, ap, subst, ◌∙◌, arith}
use Rattle.std.specs.Prelude.{slice_get}
use Rattle.std.proofs.lemmas.Option.{slice_get_within, same_Some}
use Rattle.slicer_ids.specs.declared.ids.MethodId.{MethodId}
use Rattle.slicer_ids.specs.declared.ids.SiteId.{SiteId}
use Rattle.slicer_ids.specs.declared.ids.FieldId.{FieldId}
use Rattle.slicer_ids.specs.declared.ids.CallId.{CallId}
use Rattle.slicer_ids.specs.declared.ids.Statement.{Statement}
use Rattle.class_form.specs.Opcodes.{IsCall}
use Rattle.class_form.specs.declared.types.FieldType.{FieldType}
use Rattle.class_form.proofs.Indices.{index_at}
use Rattle.dep_form.specs.declared.rules.OutsideRule.{OutsideRule}
use Rattle.dep_form.specs.declared.rules.SiteInfo.{SiteInfo}
use Rattle.dep_form.specs.declared.call_site.CallSite.{CallSite}
use Rattle.dep_form.specs.declared.system.System.{System}
use Rattle.dep_form.specs.declared.effects.Location.{Location as SystemLocation}
use Rattle.dep_form.specs.declared.effects.Location.TheVariants.{Cell}
use Rattle.dep_form.specs.PointsTo.{Reached, OutsideAt, OneMayBe, Writes, Reads}
use Rattle.dep_form.specs.Constraints.{SystemHolds, IsSite, IsCallSite}
use Rattle.dep_form.specs.Effects as system
use Rattle.program_form.specs.Programs.{Program}
use Rattle.program_form.specs.Statements.{HasOpcode}
use Rattle.program_form.specs.Sites.{Site, Made, OfRoot, HasType, IsArraySite, StandsAt}
use Rattle.program_form.specs.Facts.{Variable, FieldName, Holds, OutsideRuleOf, IsElements, IsState, IsStaticVariable}
use Rattle.program_form.specs.Effects.{Location, CellOf, StaticOf, IsStatement, StatementIs, OperandMayBe, GoesOutside, WritesOutside, CopiesOutside, ReadsOutside, Defines, ResultDefines, Uses, ResultUses, DefinesAtAll, UsesAtAll}
use Rattle.program_form.specs.Effects as program
use Rattle.program_form.specs.Systems.{SiteNumber, FieldNumber, IsCallOf, IsSystemOf}
use Rattle.program_code.specs.Codes.{IsProgramOfCode}
use Rattle.program_code.specs.Locations.{LocationNumber, cell_number, static_number}
use Rattle.program_code.proofs.OneInstruction.{one_opcode}
use Rattle.program_code.proofs.Numbers.{elements_named, length_named}
use Rattle.program_code.proofs.SiteTypes.{first_fresh}
use Rattle.program_code.proofs.Outside.{reached_there, reached_back, info_of, number_of_site, state_there, state_back, goes_there, goes_back, one_there, one_back, writes_there, writes_back, Answering, answering}
use Rattle.program_code.proofs.Touched.{IsNamed, touches_there, defines_back, uses_back}

-- a static variable that is defined or used is named
named_defined : (p : Program) (t : Statement) (l : Location) → Defines p t l → IsNamed p t l
named_defined p t l d v e = by_static v (subst (λ z. Defines p t z) e d)
  where
    by_static : (w : Variable) → Defines p t (StaticOf w) → IsStaticVariable p t w
    by_static w (program.static st is) = is

named_used : (p : Program) (t : Statement) (l : Location) → Uses p t l → IsNamed p t l
named_used p t l d v e = by_static v (subst (λ z. Uses p t z) e d)
  where
    by_static : (w : Variable) → Uses p t (StaticOf w) → IsStaticVariable p t w
    by_static w (program.static st is) = is

module _ (p : Program) (s : System) (coded : IsProgramOfCode p) (tie : IsSystemOf p s) where
  abbrev Plain : Statement → Type 0
  Plain t = IsStatement p t × (HasOpcode p t IsCall → ⊥)

  plain : (t : Statement) (K : ℕ → Type 0) → StatementIs p t K → ((op : ℕ) → K op → IsCall op → ⊥) → Plain t
  plain t K h never = ((h.0, (h.1.0, h.1.1, h.1.2, tt)), (λ call. let o = one_opcode p coded t _ _ h.1 call in never o.0 o.1 o.2))

  -- what defines is no call, or writes outside
  defined_by : (t : Statement) (l : Location) → Defines p t l → Plain t ⊎ ((b : Site) × (f : FieldName) × (l ≡ CellOf b f) × StatementIs p t IsCall × WritesOutside p t b f)
  defined_by t l (program.field f st names may) = inl (plain t _ st (λ op e c. absurd (omega (arith, e, c))))
  defined_by t l (program.element st may) = inl (plain t _ st (λ op e c. absurd (omega (arith, e, c))))
  defined_by t l (program.static st is) = inl (plain t _ st (λ op e c. absurd (omega (arith, e, c))))
  defined_by t l (program.array_length st) = inl (plain t _ st (λ op e c. absurd (omega (arith, e, c))))
  defined_by t l (program.dimension_length st typed) = inl (plain t _ st (λ op e c. absurd (omega (arith, e, c))))
  defined_by t l (program.dimension_elements st typed) = inl (plain t _ st (λ op e c. absurd (omega (arith, e, c))))
  defined_by t l (program.outside {b} {f} st writes) = inr (b, f, refl, st, writes)

  pub used_by : (t : Statement) (l : Location) → Uses p t l → Plain t ⊎ ((b : Site) × (f : FieldName) × (l ≡ CellOf b f) × StatementIs p t IsCall × CopiesOutside p t b f)
  used_by t l (program.field f st names may) = inl (plain t _ st (λ op e c. absurd (omega (arith, e, c))))
  used_by t l (program.element st may) = inl (plain t _ st (λ op e c. absurd (omega (arith, e, c))))
  used_by t l (program.length_of st may) = inl (plain t _ st (λ op e c. absurd (omega (arith, e, c))))
  used_by t l (program.static st is) = inl (plain t _ st (λ op e c. absurd (omega (arith, e, c))))
  used_by t l (program.outside {b} {f} st copies) = inr (b, f, refl, st, copies)

  -- a call of the method of the statement
  in_method : (t : Statement) (instance : Bool) (r : OutsideRule) (a : Answering p s coded tie t instance r) → system.IsCallIn s t.method a.call a.site r
  in_method t instance r a = (a.is.0, a.rule, (t, a.is.1, refl))

  rule_of : (c : CallId) (k : CallSite) → IsCallSite s c k → (r : OutsideRule) × (slice_get s.outside_rules c.0 ≡ Some r)
  rule_of c k is = index_at s.outside_rules c.0 (omega (arith, slice_get_within s.calls c.0 k is, s.rule_each))

  -- an array that a call answers afresh
  record Fresh (t : Statement) (n : SiteId) : Type 0 where
    pub call : CallId
    pub site : CallSite
    pub rule : OutsideRule
    pub is : system.IsCallIn s t.method call site rule
    pub receiver : Option SiteId
    pub goes : SystemHolds s (OutsideAt call receiver)
    pub first : SiteId
    pub fresh : site.fresh ≡ Some first
    pub info : SiteInfo
    pub here : IsSite s n info
    pub place : info.place ≡ site.place
    pub array : info.array ≡ true

  -- FROM THE PROGRAM

  writes_by_call : (t : Statement) (b : Site) (f : FieldName) (n : SiteId) (g : FieldId) → SiteNumber p n b → FieldNumber s f g → StatementIs p t IsCall → WritesOutside p t b f
      → system.DefinedIn s t.method (Cell n g)
  writes_by_call t b f n g x y st (instance, r, rule, w) =
      let a = answering p s coded tie t instance r st.1 rule in
      let v = subst (λ i. Writes (Holds p) t i r (OperandMayBe p t) (IsState p) (IsElements p) b f) a.receiver w in
      (reached_there p s coded tie t.method st.0, inr (a.call, a.site, r, in_method t instance r a, system.written (writes_there p s coded tie t a.call a.site a.is r n b f g x y v)))

  copies_by_call : (t : Statement) (b : Site) (f : FieldName) (n : SiteId) (g : FieldId) → SiteNumber p n b → FieldNumber s f g → StatementIs p t IsCall → CopiesOutside p t b f
      → system.UsedIn s t.method (Cell n g)
  copies_by_call t b f n g x y st (instance, r, rule, w, state) =
      let a = answering p s coded tie t instance r st.1 rule in
      let v = subst (λ i. OneMayBe (Holds p) t i r (OperandMayBe p t) (IsState p) r.written b) a.receiver w in (
        reached_there p s coded tie t.method st.0,
        inr (a.call, a.site, r, in_method t instance r a, system.copied (one_there p s coded tie t a.call a.site a.is r r.written n b x v) (state_there p s coded tie n b f g x y state)),
      )

  reads_by_call : (t : Statement) (b : Site) (f : FieldName) (n : SiteId) (g : FieldId) → SiteNumber p n b → FieldNumber s f g → StatementIs p t IsCall → ReadsOutside p t b f
      → system.UsedIn s t.method (Cell n g)
  reads_by_call t b f n g x y st (instance, r, rule, w) =
      let a = answering p s coded tie t instance r st.1 rule in
      let v = subst (λ i. Reads (Holds p) t i r (OperandMayBe p t) (IsState p) b f) a.receiver w in (
        reached_there p s coded tie t.method st.0,
        inr (a.call, a.site, r, in_method t instance r a, system.read (one_there p s coded tie t a.call a.site a.is r r.reads n b x v.0, state_there p s coded tie n b f g x y v.1)),
      )

  fresh_by_call : (t : Statement) (k : ℕ) (n : SiteId) (u : FieldType) → SiteNumber p n (Made t k) → StatementIs p t IsCall → GoesOutside p t → HasType p (Made t k) u → 0 < u.dims
      → Fresh t n
  fresh_by_call t k n u x st out typed lt =
      let c = (tie.calls t).0 st.1 in
      let is : IsCallOf s t c.0 c.1.0 = (c.1.1, c.1.2) in
      let q = rule_of c.0 c.1.0 c.1.1 in
      let o = goes_there p s coded tie t c.0 c.1.0 is out.0 out.1 in
      let first = first_fresh p coded t k u st.1 typed in
      let number = number_of_site p n (Made t k) (Made t 0) x first in
      let i = info_of p s coded tie n (Made t k) x in
      let place = tie.places n (Made t k) i.0 x i.1 in
      record {
        call = c.0;
        site = c.1.0;
        rule = q.0;
        is = (c.1.1, q.1, (t, c.1.2, refl));
        receiver = o.0;
        goes = o.1;
        first = number.0;
        fresh = (tie.fresh t c.0 c.1.0 number.0 is).1 number.1;
        info = i.0;
        here = i.1;
        place = place.0 ∙ sym c.1.2;
        array = (tie.arrays n (Made t k) i.0 x i.1).1 (u, typed, lt);
      }

  result_by_call : (t : Statement) (l : Location) (x : SystemLocation) → LocationNumber p s l x → ResultDefines p t l → system.DefinedIn s t.method x
  result_by_call t l x (cell_number {n = n} site field) (program.fresh_length {k = k} {t = u} st out typed lt) =
      let a = fresh_by_call t k n u site st out typed lt in
      let w = system.fresh_length a.goes a.fresh a.here a.place a.array in
      (reached_there p s coded tie t.method st.0, inr (a.call, a.site, a.rule, a.is, subst (λ (z : FieldId). system.CallDefines s a.call a.site a.rule (Cell n z)) (sym field) w))
  result_by_call t l x (cell_number {n = n} site field) (program.fresh_elements {k = k} {t = u} st out typed lt) =
      let a = fresh_by_call t k n u site st out typed lt in
      let w = system.fresh_elements a.goes a.fresh a.here a.place a.array in
      (reached_there p s coded tie t.method st.0, inr (a.call, a.site, a.rule, a.is, subst (λ (z : FieldId). system.CallDefines s a.call a.site a.rule (Cell n z)) (sym field) w))
  result_by_call t l x (static_number number) d = elim d [ ]

  pub defines_there : (t : Statement) (l : Location) (x : SystemLocation) → LocationNumber p s l x → DefinesAtAll p t l → system.DefinedIn s t.method x
  defines_there t l x number (inl d) = elim (defined_by t l d) [
    | inl plain ↦ (reached_there p s coded tie t.method plain.0.0, inl (touches_there p s t true l x (named_defined p t l d) number ((tie.writes t l plain.0 plain.1).0 d)))
    | inr w ↦ by_call w.0 w.1 x w.3 w.4 (subst (λ z. LocationNumber p s z x) w.2 number)
  ]
    where
      by_call : (b : Site) (f : FieldName) (x : SystemLocation) → StatementIs p t IsCall → WritesOutside p t b f → LocationNumber p s (CellOf b f) x → system.DefinedIn s t.method x
      by_call b f x st w (cell_number {n = n} {g = g} site field) = writes_by_call t b f n g site field st w
  defines_there t l x number (inr d) = result_by_call t l x number d

  pub uses_there : (t : Statement) (l : Location) (x : SystemLocation) → LocationNumber p s l x → UsesAtAll p t l → system.UsedIn s t.method x
  uses_there t l x number (inl d) = elim (used_by t l d) [
    | inl plain ↦ (reached_there p s coded tie t.method plain.0.0, inl (touches_there p s t false l x (named_used p t l d) number ((tie.reads t l plain.0 plain.1).0 d)))
    | inr w ↦ by_call w.0 w.1 x w.3 w.4 (subst (λ z. LocationNumber p s z x) w.2 number)
  ]
    where
      by_call : (b : Site) (f : FieldName) (x : SystemLocation) → StatementIs p t IsCall → CopiesOutside p t b f → LocationNumber p s (CellOf b f) x → system.UsedIn s t.method x
      by_call b f x st w (cell_number {n = n} {g = g} site field) = copies_by_call t b f n g site field st w
  uses_there t l x number (inr (b, f, st, reads, e)) = by_call x (subst (λ z. LocationNumber p s z x) e number)
    where
      by_call : (x : SystemLocation) → LocationNumber p s (CellOf b f) x → system.UsedIn s t.method x
      by_call x (cell_number {n = n} {g = g} site field) = reads_by_call t b f n g site field st reads

  -- FROM THE SYSTEM

  is_call : (m : MethodId) (c : CallId) (k : CallSite) (r : OutsideRule) → SystemHolds s (Reached m) → (h : system.IsCallIn s m c k r) → StatementIs p h.2.0 IsCall
  is_call m c k r reached h =
      (reached_back p s coded tie h.2.0.method (subst (λ z. SystemHolds s (Reached z)) (sym h.2.2) reached), (tie.calls h.2.0).1 (c, (k, h.0, h.2.1)))

  rule_back : (m : MethodId) (c : CallId) (k : CallSite) (r : OutsideRule) → (h : system.IsCallIn s m c k r) → OutsideRuleOf p h.2.0 k.instance r
  rule_back m c k r h = tie.rules h.2.0 c k r (h.0, h.2.1) h.1

  -- the site of an array that the statement of a call answers afresh
  made_there : (t : Statement) (n : SiteId) (b : Site) (info : SiteInfo) (k : CallSite) → SiteNumber p n b → IsSite s n info → info.place ≡ k.place → k.place ≡ Some t → info.array ≡ true
      → (j : ℕ) × (u : FieldType) × (b ≡ Made t j) × HasType p (Made t j) u × (0 < u.dims)
  made_there t n b info k x is place at array = by_site b (tie.places n b info x is) ((tie.arrays n b info x is).0 array)
    where
      by_site : (b : Site) → StandsAt b info.place info.k → IsArraySite p b → (j : ℕ) × (u : FieldType) × (b ≡ Made t j) × HasType p (Made t j) u × (0 < u.dims)
      by_site (Made z j) stands (u, typed, lt) =
          let e : z ≡ t = same_Some z t (sym stands.0 ∙ place ∙ at) in
          (j, u, ap (λ (w : Statement). Made w j) e, subst (λ (w : Statement). HasType p (Made w j) u) e typed, lt)
      by_site (OfRoot j) stands array = absurd (cc (sym stands.0 ∙ place ∙ at))

  goes_outside : (m : MethodId) (c : CallId) (k : CallSite) (r : OutsideRule) (o : Option SiteId) → (h : system.IsCallIn s m c k r) → SystemHolds s (OutsideAt c o) → GoesOutside p h.2.0
  goes_outside m c k r o h out = goes_back p s coded tie h.2.0 c k (h.0, h.2.1) o out

  call_defines_back : (m : MethodId) (c : CallId) (k : CallSite) (r : OutsideRule) (l : Location) (x : SystemLocation) → SystemHolds s (Reached m) → (h : system.IsCallIn s m c k r)
      → LocationNumber p s l x → system.CallDefines s c k r x → DefinesAtAll p h.2.0 l
  call_defines_back m c k r l x reached h (cell_number {b} {f} {n} {g} site field) (system.written w) =
      inl (program.outside (is_call m c k r reached h) (k.instance, r, rule_back m c k r h, writes_back p s coded tie h.2.0 c k (h.0, h.2.1) r n b f g site field w))
  call_defines_back m c k r l x reached h (cell_number {b} {f} {n} site field) (system.fresh_length {o} {first} {info = info} out fresh is place array) =
      let made = made_there h.2.0 n b info k site is place h.2.1 array in
      let d = program.fresh_length (is_call m c k r reached h) (goes_outside m c k r o h out) made.3 made.4 in
      inr (rw (made.2, length_named s f field) d)
  call_defines_back m c k r l x reached h (cell_number {b} {f} {n} site field) (system.fresh_elements {o} {first} {info = info} out fresh is place array) =
      let made = made_there h.2.0 n b info k site is place h.2.1 array in
      let d = program.fresh_elements (is_call m c k r reached h) (goes_outside m c k r o h out) made.3 made.4 in
      inr (rw (made.2, elements_named s f field) d)
  call_defines_back m c k r l x reached h (static_number number) d = elim d [ ]

  pub defined_back : (m : MethodId) (l : Location) (x : SystemLocation) → LocationNumber p s l x → system.DefinedIn s m x → (t : Statement) × (t.method ≡ m) × DefinesAtAll p t l
  defined_back m l x number (reached, inl touched) = let d = defines_back p s coded tie m l x reached number touched in (d.0, d.1, inl d.2)
  defined_back m l x number (reached, inr (c, k, r, is, d)) = (is.2.0, is.2.2, call_defines_back m c k r l x reached is number d)

  call_uses_back : (m : MethodId) (c : CallId) (k : CallSite) (r : OutsideRule) (l : Location) (x : SystemLocation) → SystemHolds s (Reached m) → (h : system.IsCallIn s m c k r)
      → LocationNumber p s l x → system.CallUses s c k r x → UsesAtAll p h.2.0 l
  call_uses_back m c k r l x reached h (cell_number {b} {f} {n} {g} site field) (system.read w) =
      inr (b, f, is_call m c k r reached h, (k.instance, r, rule_back m c k r h, (one_back p s coded tie h.2.0 c k (h.0, h.2.1) r r.reads n b site w.0, state_back p s coded tie n b f g site field w.1)), refl)
  call_uses_back m c k r l x reached h (cell_number {b} {f} {n} {g} site field) (system.copied w state) =
      inl (program.outside (is_call m c k r reached h) (k.instance, r, rule_back m c k r h, one_back p s coded tie h.2.0 c k (h.0, h.2.1) r r.written n b site w, state_back p s coded tie n b f g site field state))
  call_uses_back m c k r l x reached h (static_number number) d = elim d [ ]

  pub used_back : (m : MethodId) (l : Location) (x : SystemLocation) → LocationNumber p s l x → system.UsedIn s m x → (t : Statement) × (t.method ≡ m) × UsesAtAll p t l
  used_back m l x number (reached, inl touched) = let d = uses_back p s coded tie m l x reached number touched in (d.0, d.1, inl d.2)
  used_back m l x number (reached, inr (c, k, r, is, d)) = (is.2.0, is.2.2, call_uses_back m c k r l x reached is number d)

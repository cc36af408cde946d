-- Which nodes define and use locations, in a program and by number.
use Rattle.std.proofs.Common.{◌≡◌, ◌⊎◌, ◌<◌, ℕ, true, false, List, Contains, Option, Some, inl, inr, refl, sym, ap, subst, ◌∙◌, arith}
use Rattle.std.specs.Prelude.{slice_get}
use Rattle.std.proofs.lemmas.Option.{same_Some}
use Rattle.slicer_ids.specs.declared.ids.MethodId.{MethodId}
use Rattle.slicer_ids.specs.declared.ids.SiteId.{SiteId}
use Rattle.slicer_ids.specs.declared.ids.FieldId.{FieldId}
use Rattle.slicer_ids.specs.declared.ids.LocId.{LocId}
use Rattle.slicer_ids.specs.declared.ids.CallId.{CallId}
use Rattle.slicer_ids.specs.declared.ids.Statement.{Statement}
use Rattle.class_form.specs.Opcodes.{IsCall}
use Rattle.class_form.specs.declared.types.FieldType.{FieldType}
use Rattle.dep_form.specs.declared.node.Node.{Node as NodeNumber}
use Rattle.dep_form.specs.declared.node.Node.TheVariants as kind
use Rattle.dep_form.specs.declared.rules.Spot.{Spot}
use Rattle.dep_form.specs.declared.rules.SiteInfo.{SiteInfo}
use Rattle.dep_form.specs.declared.rules.OutsideRule.{OutsideRule}
use Rattle.dep_form.specs.declared.rules.Touch.{Touch}
use Rattle.dep_form.specs.declared.call_site.CallSite.{CallSite}
use Rattle.dep_form.specs.declared.system.System.{System}
use Rattle.dep_form.specs.declared.effects.Location.{Location as SystemLocation}
use Rattle.dep_form.specs.declared.effects.Location.TheVariants.{Cell, Static}
use Rattle.dep_form.specs.declared.effects.ModRef.{ModRef}
use Rattle.dep_form.specs.PointsTo.{OutsideAt, Writes, Reads, OneMayBe}
use Rattle.dep_form.specs.Constraints.{SystemHolds, ArgumentHas, IsSite, length_field, elements_field}
use Rattle.dep_form.specs.Constraints as constraint
use Rattle.dep_form.specs.Effects as system
use Rattle.program_form.specs.Programs.{Program}
use Rattle.program_form.specs.Statements.{HasOpcode}
use Rattle.program_form.specs.Sites.{Site, Made, OfRoot, HasType, IsArraySite, StandsAt}
use Rattle.program_form.specs.Facts.{FieldName, Length, Elements, Holds, IsState, IsElements}
use Rattle.program_form.specs.Effects.{Location, CellOf, StaticOf, IsReached, IsStatement, StatementIs, OperandMayBe, GoesOutside, WritesOutside, CopiesOutside, ReadsOutside, Defines, ResultDefines, Uses, ResultUses}
use Rattle.program_form.specs.Effects as effect
use Rattle.program_form.specs.Nodes.{Kind, Own, Result, HeapArg, HeapResult, Node, node, at, IsNode}
use Rattle.program_form.specs.Dependences.{DefinesAt, UsesAt}
use Rattle.program_form.specs.Dependences as program
use Rattle.program_form.specs.Graphs.{Numbering, KindNumber}
use Rattle.program_form.specs.Graphs as numbered
use Rattle.program_form.specs.Systems.{SiteNumber, FieldNumber, IsSpot, IsCallOf}
use Rattle.program_form.specs.Systems as tied
use Rattle.constraint_form.proofs.Instructions.{apart}
use Rattle.program_code.specs.Locations.{LocationNumber, cell_number, static_number}
use Rattle.program_code.proofs.Numbers.{length_named, elements_named}
use Rattle.program_code.proofs.SiteTypes.{first_fresh}
use Rattle.program_code.proofs.Outside.{goes_there, goes_back, one_there, one_back, state_there, state_back, writes_there, writes_back, info_of, number_of_site, answering}
use Rattle.fact_form.specs.NodeNumbers.{IsNumbered}
use Rattle.fact_form.specs.EffectNumbers.{IsLocation, DefinesNumber, UsesNumber}
use Rattle.fact_form.specs.EffectNumbers as number
use Rattle.fact_form.proofs.Setting.{Setting, IsNumberingOf, of_system, to_program, system_location, one_loc}
use Rattle.fact_form.proofs.Touching.{any}
use Rattle.fact_form.proofs.NodesAgree.{call_of, is_call, node_there, node_back}

-- SPOTS

spot_there : (p : Program) (s : System) (k : Spot) (l : Location) → IsSpot p s k l → (x : SystemLocation) × LocationNumber p s l x × system.IsSpotAt s k x
spot_there p s k l (tied.field {g = f} {n} c holds site field) = (Cell n f, cell_number site field, system.field c holds)
spot_there p s k l (tied.made {n} {g = f} site field) = (Cell n f, cell_number site field, system.made)
spot_there p s k l (tied.static {x} number) = (Static x, static_number number, system.static)

spot_back : (p : Program) (s : System) (k : Spot) (l : Location) (x : SystemLocation) → LocationNumber p s l x → system.IsSpotAt s k x → IsSpot p s k l
spot_back p s k l x (cell_number site field) (system.field c holds) = tied.field c holds site field
spot_back p s k l x (cell_number site field) system.made = tied.made site field
spot_back p s k l x (static_number number) system.static = tied.static number

-- the numbers of a cell
pub record IsCellOf (p : Program) (s : System) (mr : ModRef) (n : LocId) (b : Site) (f : FieldName) : Type 0 where
  pub site : SiteId
  pub field : FieldId
  pub there : IsLocation mr n (Cell site field)
  pub of_site : SiteNumber p site b
  pub of_field : FieldNumber s f field

cell_by : (p : Program) (s : System) (mr : ModRef) (n : LocId) (b : Site) (f : FieldName) (x : SystemLocation) → IsLocation mr n x → LocationNumber p s (CellOf b f) x → IsCellOf p s mr n b f
cell_by p s mr n b f x at (cell_number {n = k} {g = i} site field) = record { site = k; field = i; there = at; of_site = site; of_field = field }

module _ (p : Program) (s : System) (mr : ModRef) (entries : List MethodId) (g : Setting p s mr entries) (ns : Numbering) (numbers : IsNumberingOf p s mr entries ns) where
  cell : (n : LocId) (b : Site) (f : FieldName) → slice_get ns.locations n.0 ≡ Some (CellOf b f) → IsCellOf p s mr n b f
  cell n b f e = let x = of_system p s mr entries g ns numbers n (CellOf b f) e in cell_by p s mr n b f x.0 x.1 x.2

  never : (K : ℕ → Type 0) (t : Statement) → ((op : ℕ) → K op → IsCall op → ⊥) → StatementIs p t K → HasOpcode p t IsCall → ⊥
  never K t other st call = apart p g.asked t K IsCall other st.1 call

  module _ (m : MethodId) (pc : ℕ) (n : LocId) where
    abbrev Defined : NodeNumber → Type 0
    Defined k = DefinesNumber p s mr entries m pc n k

    abbrev Used : NodeNumber → Type 0
    Used k = UsesNumber p s mr entries m pc n k

    -- FROM THE PROGRAM

    touched : (K : ℕ → Type 0) (l : Location) → slice_get ns.locations n.0 ≡ Some l → StatementIs p (at m pc) K → ((op : ℕ) → K op → IsCall op → ⊥) → Defines p (at m pc) l → Defined (kind.Own pc)
    touched K l e st other d =
        let h = (g.tie.writes (at m pc) l (any p (at m pc) K st) (never K (at m pc) other st)).0 d in
        let x = spot_there p s h.0 l h.2 in
        number.by_touch h.0 (system_location p s mr entries g ns numbers n l x.0 e x.1) h.1 x.2

    written : (b : Site) (f : FieldName) → slice_get ns.locations n.0 ≡ Some (CellOf b f) → StatementIs p (at m pc) IsCall → WritesOutside p (at m pc) b f → Defined (kind.Own pc)
    written b f e st (instance, r, rule, w) =
        let c = cell n b f e in
        let a = answering p s g.coded g.tie (at m pc) instance r st.1 rule in
        let v = subst (λ i. Writes (Holds p) (at m pc) i r (OperandMayBe p (at m pc)) (IsState p) (IsElements p) b f) a.receiver w in
        number.by_call a.call c.there a.is a.rule (writes_there p s g.coded g.tie (at m pc) a.call a.site a.is r c.site b f c.field c.of_site c.of_field v)

    by_statement : (l : Location) → slice_get ns.locations n.0 ≡ Some l → Defines p (at m pc) l → Defined (kind.Own pc)
    by_statement l e (effect.field f st names may) = touched _ l e st (λ op is c. absurd (omega (arith, is, c))) (effect.field f st names may)
    by_statement l e (effect.element st may) = touched _ l e st (λ op is c. absurd (omega (arith, is, c))) (effect.element st may)
    by_statement l e (effect.static st is) = touched _ l e st (λ op is c. absurd (omega (arith, is, c))) (effect.static st is)
    by_statement l e (effect.array_length st) = touched _ l e st (λ op is c. absurd (omega (arith, is, c))) (effect.array_length st)
    by_statement l e (effect.dimension_length st typed) = touched _ l e st (λ op is c. absurd (omega (arith, is, c))) (effect.dimension_length st typed)
    by_statement l e (effect.dimension_elements st typed) = touched _ l e st (λ op is c. absurd (omega (arith, is, c))) (effect.dimension_elements st typed)
    by_statement l e (effect.outside {b} {f} st writes) = written b f e st writes

    fresh : (j : ℕ) (u : FieldType) (f : FieldName) (field : (i : FieldId) → FieldNumber s f i → (i ≡ length_field s) ⊎ (i ≡ elements_field s)) → slice_get ns.locations n.0 ≡ Some (CellOf (Made (at m pc) j) f)
        → StatementIs p (at m pc) IsCall → GoesOutside p (at m pc) → HasType p (Made (at m pc) j) u → 0 < u.dims → Defined (kind.Result pc)
    fresh j u f field e st out typed lt =
        let x = cell n (Made (at m pc) j) f e in
        let c = call_of p s mr entries g ns numbers (at m pc) st.1 in
        let o = goes_there p s g.coded g.tie (at m pc) c.0 c.1 c.2 out.0 out.1 in
        let first = number_of_site p x.site (Made (at m pc) j) (Made (at m pc) 0) x.of_site (first_fresh p g.coded (at m pc) j u st.1 typed) in
        let info = info_of p s g.coded g.tie x.site (Made (at m pc) j) x.of_site in
        let place = g.tie.places x.site (Made (at m pc) j) info.0 x.of_site info.1 in
        number.by_result o.0 x.there c.2 o.1 ((g.tie.fresh (at m pc) c.0 c.1 first.0 c.2).1 first.1) info.1 (place.0 ∙ sym c.2.1)
        ((g.tie.arrays x.site (Made (at m pc) j) info.0 x.of_site info.1).1 (u, typed, lt)) (field x.field x.of_field)

    by_result : (l : Location) → slice_get ns.locations n.0 ≡ Some l → ResultDefines p (at m pc) l → Defined (kind.Result pc)
    by_result l e (effect.fresh_length {k} {t} st out typed lt) = fresh k t Length (λ i is. inl is) e st out typed lt
    by_result l e (effect.fresh_elements {k} {t} st out typed lt) = fresh k t Elements (λ i is. inr is) e st out typed lt

    -- the number of a node of a location
    result_number : (l : Location) → slice_get ns.locations n.0 ≡ Some l → IsNode p (node m (HeapResult pc l)) → IsNumbered p s mr entries m (kind.HeapResult pc n)
    result_number l e is = by_number (node_there p s mr entries g ns numbers (node m (HeapResult pc l)) is)
      where
        by_kind : (k : NodeNumber) → KindNumber ns (HeapResult pc l) k → IsNumbered p s mr entries m k → IsNumbered p s mr entries m (kind.HeapResult pc n)
        by_kind k (numbered.heap_result {n = q} f) is = subst (λ z. IsNumbered p s mr entries m (kind.HeapResult pc z)) (one_loc p s mr entries g ns numbers q n l f e) is

        by_number : (k : NodeNumber) × KindNumber ns (HeapResult pc l) k × IsNumbered p s mr entries m k → IsNumbered p s mr entries m (kind.HeapResult pc n)
        by_number (k, is_kind, is) = by_kind k is_kind is

    arg_number : (l : Location) → slice_get ns.locations n.0 ≡ Some l → IsNode p (node m (HeapArg pc l)) → IsNumbered p s mr entries m (kind.HeapArg pc n)
    arg_number l e is = by_number (node_there p s mr entries g ns numbers (node m (HeapArg pc l)) is)
      where
        by_kind : (k : NodeNumber) → KindNumber ns (HeapArg pc l) k → IsNumbered p s mr entries m k → IsNumbered p s mr entries m (kind.HeapArg pc n)
        by_kind k (numbered.heap_arg {n = q} f) is = subst (λ z. IsNumbered p s mr entries m (kind.HeapArg pc z)) (one_loc p s mr entries g ns numbers q n l f e) is

        by_number : (k : NodeNumber) × KindNumber ns (HeapArg pc l) k × IsNumbered p s mr entries m k → IsNumbered p s mr entries m (kind.HeapArg pc n)
        by_number (k, is_kind, is) = by_kind k is_kind is

    pub defines_there : (l : Location) (x : Node) → slice_get ns.locations n.0 ≡ Some l → DefinesAt p m pc l x → (k : NodeNumber) → KindNumber ns x.kind k → Defined k
    defines_there l x e (program.by_statement d) k numbered.own = by_statement l e d
    defines_there l x e (program.by_result d) k numbered.result = by_result l e d
    defines_there l x e (program.by_callee is) k (numbered.heap_result {n = q} f) =
        subst (λ z. Defined (kind.HeapResult pc z)) (one_loc p s mr entries g ns numbers n q l e f) (number.by_callee (result_number l e is))

    read : (K : ℕ → Type 0) (l : Location) → slice_get ns.locations n.0 ≡ Some l → StatementIs p (at m pc) K → ((op : ℕ) → K op → IsCall op → ⊥) → Uses p (at m pc) l → Used (kind.Own pc)
    read K l e st other d =
        let h = (g.tie.reads (at m pc) l (any p (at m pc) K st) (never K (at m pc) other st)).0 d in
        let x = spot_there p s h.0 l h.2 in
        number.by_touch h.0 (system_location p s mr entries g ns numbers n l x.0 e x.1) h.1 x.2

    copied : (b : Site) (f : FieldName) → slice_get ns.locations n.0 ≡ Some (CellOf b f) → StatementIs p (at m pc) IsCall → CopiesOutside p (at m pc) b f → Used (kind.Own pc)
    copied b f e st (instance, r, rule, w, state) =
        let c = cell n b f e in
        let a = answering p s g.coded g.tie (at m pc) instance r st.1 rule in
        let v = subst (λ i. OneMayBe (Holds p) (at m pc) i r (OperandMayBe p (at m pc)) (IsState p) r.written b) a.receiver w in
        number.by_call a.call c.there a.is a.rule (one_there p s g.coded g.tie (at m pc) a.call a.site a.is r r.written c.site b c.of_site v)
        (state_there p s g.coded g.tie c.site b f c.field c.of_site c.of_field state)

    uses_statement : (l : Location) → slice_get ns.locations n.0 ≡ Some l → Uses p (at m pc) l → Used (kind.Own pc)
    uses_statement l e (effect.field f st names may) = read _ l e st (λ op is c. absurd (omega (arith, is, c))) (effect.field f st names may)
    uses_statement l e (effect.element st may) = read _ l e st (λ op is c. absurd (omega (arith, is, c))) (effect.element st may)
    uses_statement l e (effect.length_of st may) = read _ l e st (λ op is c. absurd (omega (arith, is, c))) (effect.length_of st may)
    uses_statement l e (effect.static st is) = read _ l e st (λ op is c. absurd (omega (arith, is, c))) (effect.static st is)
    uses_statement l e (effect.outside {b} {f} st copies) = copied b f e st copies

    uses_result : (l : Location) → slice_get ns.locations n.0 ≡ Some l → ResultUses p (at m pc) l → Used (kind.Result pc)
    uses_result l e (b, f, st, (instance, r, rule, w), same) =
        let c = cell n b f (subst (λ z. slice_get ns.locations n.0 ≡ Some z) same e) in
        let a = answering p s g.coded g.tie (at m pc) instance r st.1 rule in
        let v = subst (λ i. Reads (Holds p) (at m pc) i r (OperandMayBe p (at m pc)) (IsState p) b f) a.receiver w in
        number.by_result a.call c.there a.is a.rule
        (one_there p s g.coded g.tie (at m pc) a.call a.site a.is r r.reads c.site b c.of_site v.0, state_there p s g.coded g.tie c.site b f c.field c.of_site c.of_field v.1)

    pub uses_there : (l : Location) (x : Node) → slice_get ns.locations n.0 ≡ Some l → UsesAt p m pc l x → (k : NodeNumber) → KindNumber ns x.kind k → Used k
    uses_there l x e (program.by_statement d) k numbered.own = uses_statement l e d
    uses_there l x e (program.by_result d) k numbered.result = uses_result l e d
    uses_there l x e (program.by_callee is) k (numbered.heap_arg {n = q} f) =
        subst (λ z. Used (kind.HeapArg pc z)) (one_loc p s mr entries g ns numbers n q l e f) (number.by_callee (arg_number l e is))

    -- FROM THE NUMBERS

    -- the location and the node that a number stands for
    abbrev DefinedBack : NodeNumber → Type 0
    DefinedBack k = (l : Location) × (a : Kind) × (slice_get ns.locations n.0 ≡ Some l) × KindNumber ns a k × DefinesAt p m pc l (node m a)

    abbrev UsedBack : NodeNumber → Type 0
    UsedBack k = (l : Location) × (a : Kind) × (slice_get ns.locations n.0 ≡ Some l) × KindNumber ns a k × UsesAt p m pc l (node m a)

    plain : (touch : Touch) → Contains s.touches touch → touch.place ≡ at m pc → IsReached p m → IsStatement p (at m pc) × (HasOpcode p (at m pc) IsCall → ⊥)
    plain touch c e reached =
        let op : HasOpcode p (at m pc) (λ op. IsCall op → ⊥) = subst (λ (t : Statement). HasOpcode p t (λ op. IsCall op → ⊥)) e (g.tie.touched touch c) in
        ((reached, (op.0, op.1, op.2, tt)), λ call. apart p g.asked (at m pc) (λ op. IsCall op → ⊥) IsCall (λ op other is. other is) op call)

    written_back : (r : OutsideRule) (c : CallId) (k : CallSite) (b : SiteId) (f : FieldId) (l : Location) → IsReached p m → IsCallOf s (at m pc) c k → slice_get s.outside_rules c.0 ≡ Some r
        → Writes (SystemHolds s) c k.instance r (ArgumentHas s (SystemHolds s) k) (constraint.IsState s) (constraint.IsElements s) b f
        → LocationNumber p s l (Cell b f) → Defines p (at m pc) l
    written_back r c k b f l reached is rule w (cell_number {b = h} {f = i} site field) =
        effect.outside (reached, is_call p s mr entries g ns numbers (at m pc) c k is)
        (k.instance, r, g.tie.rules (at m pc) c k r is rule, writes_back p s g.coded g.tie (at m pc) c k is r b h i f site field w)

    made_at : (h : SiteId) (b : Site) (info : SiteInfo) (k : CallSite) → SiteNumber p h b → IsSite s h info → info.place ≡ k.place → k.place ≡ Some (at m pc) → info.array ≡ true
        → (j : ℕ) × (u : FieldType) × (b ≡ Made (at m pc) j) × HasType p (Made (at m pc) j) u × (0 < u.dims)
    made_at h b info k x is place here array = by_site b (g.tie.places h b info x is) ((g.tie.arrays h b info x is).0 array)
      where
        by_site : (b : Site) → StandsAt b info.place info.k → IsArraySite p b → (j : ℕ) × (u : FieldType) × (b ≡ Made (at m pc) j) × HasType p (Made (at m pc) j) u × (0 < u.dims)
        by_site (Made z j) stands (u, typed, lt) =
            let e : z ≡ at m pc = same_Some z (at m pc) (sym stands.0 ∙ place ∙ here) in
            (j, u, ap (λ (w : Statement). Made w j) e, subst (λ (w : Statement). HasType p (Made w j) u) e typed, lt)
        by_site (OfRoot j) stands array = absurd (cc (sym stands.0 ∙ place ∙ here))

    fresh_back : (c : CallId) (k : CallSite) (o : Option SiteId) (h : SiteId) (f : FieldId) (info : SiteInfo) (l : Location) → IsReached p m → IsCallOf s (at m pc) c k → SystemHolds s (OutsideAt c o) → IsSite s h info
        → info.place ≡ k.place → info.array ≡ true → (f ≡ length_field s) ⊎ (f ≡ elements_field s) → LocationNumber p s l (Cell h f) → ResultDefines p (at m pc) l
    fresh_back c k o h f info l reached is out here place array (inl e) (cell_number {b} {f = i} site field) =
        let made = made_at h b info k site here place is.1 array in
        let d = effect.fresh_length (reached, is_call p s mr entries g ns numbers (at m pc) c k is) (goes_back p s g.coded g.tie (at m pc) c k is o out) made.3 made.4 in
        rw (made.2, length_named s i (subst (λ (z : FieldId). FieldNumber s i z) e field)) d
    fresh_back c k o h f info l reached is out here place array (inr e) (cell_number {b} {f = i} site field) =
        let made = made_at h b info k site here place is.1 array in
        let d = effect.fresh_elements (reached, is_call p s mr entries g ns numbers (at m pc) c k is) (goes_back p s g.coded g.tie (at m pc) c k is o out) made.3 made.4 in
        rw (made.2, elements_named s i (subst (λ (z : FieldId). FieldNumber s i z) e field)) d

    result_back : (a : Kind) → KindNumber ns a (kind.HeapResult pc n) → IsNode p (node m a) → DefinedBack (kind.HeapResult pc n)
    result_back a (numbered.heap_result {l} e) is = (l, HeapResult pc l, e, numbered.heap_result e, program.by_callee is)

    pub defines_back : (k : NodeNumber) → IsReached p m → Defined k → DefinedBack k
    defines_back k reached (number.by_touch {x} spot at_number c is) =
        let l = to_program p s mr entries g ns numbers n x at_number in
        let statement = plain (record { place = at m pc; write = true; spot = spot }) c refl reached in
        (l.0, Own pc, l.1, numbered.own, program.by_statement ((g.tie.writes (at m pc) l.0 statement.0 statement.1).1 (spot, c, spot_back p s spot l.0 x l.2 is)))
    defines_back k reached (number.by_call c {k = site} {r} {b} {f} at_number is rule w) =
        let l = to_program p s mr entries g ns numbers n (Cell b f) at_number in
        (l.0, Own pc, l.1, numbered.own, program.by_statement (written_back r c site b f l.0 reached is rule w l.2))
    defines_back k reached (number.by_result {c} {k = site} o {first} {h} {f} {info} at_number is out fresh here place array field) =
        let l = to_program p s mr entries g ns numbers n (Cell h f) at_number in
        (l.0, Result pc, l.1, numbered.result, program.by_result (fresh_back c site o h f info l.0 reached is out here place array field l.2))
    defines_back k reached (number.by_callee is) = let a = node_back p s mr entries g ns numbers m (kind.HeapResult pc n) is in result_back a.0 a.1 a.2

    copied_back : (r : OutsideRule) (c : CallId) (k : CallSite) (b : SiteId) (f : FieldId) (l : Location) → IsReached p m → IsCallOf s (at m pc) c k → slice_get s.outside_rules c.0 ≡ Some r
        → OneMayBe (SystemHolds s) c k.instance r (ArgumentHas s (SystemHolds s) k) (constraint.IsState s) r.written b → constraint.IsState s b f
        → LocationNumber p s l (Cell b f) → Uses p (at m pc) l
    copied_back r c k b f l reached is rule w state (cell_number {b = h} {f = i} site field) =
        effect.outside (reached, is_call p s mr entries g ns numbers (at m pc) c k is) (
          k.instance,
          r,
          g.tie.rules (at m pc) c k r is rule,
          one_back p s g.coded g.tie (at m pc) c k is r r.written b h site w,
          state_back p s g.coded g.tie b h i f site field state,
        )

    read_back : (r : OutsideRule) (c : CallId) (k : CallSite) (b : SiteId) (f : FieldId) (l : Location) → IsReached p m → IsCallOf s (at m pc) c k → slice_get s.outside_rules c.0 ≡ Some r
        → Reads (SystemHolds s) c k.instance r (ArgumentHas s (SystemHolds s) k) (constraint.IsState s) b f
        → LocationNumber p s l (Cell b f) → ResultUses p (at m pc) l
    read_back r c k b f l reached is rule w (cell_number {b = h} {f = i} site field) = (
      h,
      i,
      (reached, is_call p s mr entries g ns numbers (at m pc) c k is),
      (k.instance, r, g.tie.rules (at m pc) c k r is rule, (one_back p s g.coded g.tie (at m pc) c k is r r.reads b h site w.0, state_back p s g.coded g.tie b h i f site field w.1)),
      refl,
    )

    arg_back : (a : Kind) → KindNumber ns a (kind.HeapArg pc n) → IsNode p (node m a) → UsedBack (kind.HeapArg pc n)
    arg_back a (numbered.heap_arg {l} e) is = (l, HeapArg pc l, e, numbered.heap_arg e, program.by_callee is)

    pub uses_back : (k : NodeNumber) → IsReached p m → Used k → UsedBack k
    uses_back k reached (number.by_touch {x} spot at_number c is) =
        let l = to_program p s mr entries g ns numbers n x at_number in
        let statement = plain (record { place = at m pc; write = false; spot = spot }) c refl reached in
        (l.0, Own pc, l.1, numbered.own, program.by_statement ((g.tie.reads (at m pc) l.0 statement.0 statement.1).1 (spot, c, spot_back p s spot l.0 x l.2 is)))
    uses_back k reached (number.by_call c {k = site} {r} {b} {f} at_number is rule w state) =
        let l = to_program p s mr entries g ns numbers n (Cell b f) at_number in
        (l.0, Own pc, l.1, numbered.own, program.by_statement (copied_back r c site b f l.0 reached is rule w state l.2))
    uses_back k reached (number.by_result c {k = site} {r} {b} {f} at_number is rule w) =
        let l = to_program p s mr entries g ns numbers n (Cell b f) at_number in
        (l.0, Result pc, l.1, numbered.result, program.by_result (read_back r c site b f l.0 reached is rule w l.2))
    uses_back k reached (number.by_callee is) = let a = node_back p s mr entries g ns numbers m (kind.HeapArg pc n) is in arg_back a.0 a.1 a.2

-- A system of constraints of a program is a system of it.
use Rattle.std.proofs.Common.{◌≡◌, ◌⊎◌, ℕ, Bool, true, false, List, [], ◌∷◌, Option, Some, None, refl, sym, ap, subst, ◌∙◌, inl, inr, arith}
use Rattle.slicer_ids.proofs.Ordered.{Contains-cons_cases}
use Rattle.slicer_ids.specs.declared.ids.MethodId.{MethodId}
use Rattle.slicer_ids.specs.declared.ids.SiteId.{SiteId}
use Rattle.slicer_ids.specs.declared.ids.FieldId.{FieldId}
use Rattle.slicer_ids.specs.declared.ids.CallId.{CallId}
use Rattle.slicer_ids.specs.declared.ids.Statement.{Statement}
use Rattle.class_form.specs.Opcodes.{IsCall, IsArrayLoad, IsArrayStore, IsGetStatic, IsPutStatic, IsGetField, IsPutField, IsNewArray, IsArrayLength, IsMultiNewArray}
use Rattle.class_form.specs.declared.body.Def.{Def}
use Rattle.class_form.specs.declared.body.Def.TheVariants.{Formal, Value, Caught}
use Rattle.dep_form.specs.declared.rules.Var.{Var}
use Rattle.dep_form.specs.declared.rules.Spot.{Spot}
use Rattle.dep_form.specs.declared.rules.Spot.TheVariants.{Field, Made as MadeSpot, Static}
use Rattle.dep_form.specs.declared.call_site.CallSite.{CallSite}
use Rattle.dep_form.specs.declared.system.System.{System}
use Rattle.dep_form.specs.PointsTo.{Reached, Has, Cell, Calls, OutsideAt}
use Rattle.dep_form.specs.Constraints.{SystemFact, SystemFollows, SystemHolds, ArgumentHas, elements_field, length_field}
use Rattle.program_form.specs.Programs.{Program}
use Rattle.program_form.specs.Statements.{HasOpcode}
use Rattle.program_form.specs.Sites.{Site, Made}
use Rattle.program_form.specs.Facts.{Variable, variable_of, FieldName, Elements, Length, field_name, ProgramFact, Follows, Holds, OperandHas}
use Rattle.program_form.specs.Effects.{Location, CellOf, StaticOf, IsStatement, OperandMayBe, Defines, Uses}
use Rattle.program_form.specs.Effects as effect
use Rattle.program_form.specs.Systems.{IsSystemOf, SiteNumber, FieldNumber, CallNumber, VariableNumber, Counterpart, IsCallOf, IsSpot, Touches}
use Rattle.program_form.specs.Systems as tied
use Rattle.constraint_form.specs.Asked.{IsReadProgram}
use Rattle.constraint_form.specs.Variables.{Meaning, OperandNumber, ReadsFirst}
use Rattle.constraint_form.specs.Touched.{IsTouch}
use Rattle.constraint_form.specs.Touched as touch
use Rattle.constraint_form.specs.ConstraintSystems.{AreTables}
use Rattle.constraint_form.proofs.Adding.{adds_holds}
use Rattle.constraint_form.proofs.Instructions.{kind}
use Rattle.constraint_form.proofs.Types.{outer}
use Rattle.constraint_form.proofs.SiteNumbers.{one_site, site_type, number_of_site, site_of_number, number_below}
use Rattle.constraint_form.proofs.Numbers.{one_variable, one_field, one_caller, one_call_number, number_of_field, number_of_call, is_call}
use Rattle.constraint_form.proofs.ProgramAdds as program
use Rattle.constraint_form.proofs.SystemAdds as system
use Rattle.constraint_form.proofs.Upwards.{Up, at, up_has, operand_site, up_operand, up_argument, static_number}
use Rattle.constraint_form.proofs.ProgramToSystem.{all_up}
use Rattle.constraint_form.proofs.Downwards.{IsRun, Down, operand_down, argument_down, cell_down, rule_down}
use Rattle.constraint_form.proofs.SystemToProgram.{all_down}

module _ (p : Program) (s : System) (names : List Meaning) (asked : IsReadProgram p) (tables : AreTables p s names) where
  holds : {f : ProgramFact} → program.Known p f → Holds p f
  holds {f} k = adds_holds (Follows p) f k

  system_holds : {f : SystemFact} → system.Known s f → SystemHolds s f
  system_holds {f} k = adds_holds (SystemFollows s) f k

  goes_up : {f : ProgramFact} → Holds p f → Up p s names asked tables f
  goes_up {f} h = all_up p s names asked tables f h

  goes_down : {f : SystemFact} → SystemHolds s f → Down p s names asked tables f
  goes_down {f} h = all_down p s names asked tables f h

  -- a fact holds where its counterpart does
  back : {f : ProgramFact} {g : SystemFact} → Counterpart p s f g → Down p s names asked tables g → Holds p f
  back tied.reached k = holds k
  back (tied.has {v} {h} {x} {n} vn sn) (g, sm, named, operands) = subst (λ z. Holds p (Has v z)) (one_site p n g h sm sn) (holds (named v vn).0)
  back (tied.cell {b} {h} {f} {a} {n} {g} sa fg sn) d =
      let (h', sn', k) = cell_down p s names asked tables a g n b f sa fg d in
      subst (λ z. Holds p (Cell b f z)) (one_site p n h' h sn' sn) (holds k)
  back (tied.calls {t} {c} {m} number) (u, other, run, runs, k) = subst (λ z. Holds p (Calls z m)) (one_caller p s names tables.calls u t c other number) (holds k)
  back (tied.static_outside {t} {c} number) (u, other, run, k) = subst (λ z. Holds p (OutsideAt z None)) (one_caller p s names tables.calls u t c other number) (holds k)
  back (tied.outside {t} {c} {h} {n} number sn) (u, g, other, sm, run, k) =
      subst (λ z. Holds p (OutsideAt z (Some h))) (one_caller p s names tables.calls u t c other number)
      (subst (λ z. Holds p (OutsideAt u (Some z))) (one_site p n g h sm sn) (holds k))

  named_outside : (c : CallId) (o : Option SiteId) → Down p s names asked tables (OutsideAt c o) → (f : ProgramFact) × Counterpart p s f (OutsideAt c o)
  named_outside c None (t, number, run, k) = (OutsideAt t None, tied.static_outside number)
  named_outside c (Some n) (t, h, number, sn, run, k) = (OutsideAt t (Some h), tied.outside number sn)

  -- the method whose variable may be something is reached
  run_of : (m : MethodId) (d : Def) → IsRun p s names asked tables (variable_of m d) → program.Known p (Reached m)
  run_of m (Formal i) r = r
  run_of m (Value pc) r = r
  run_of m (Caught h) r = r

  operand_run : (t : Statement) (i : ℕ) (h : Site) → OperandMayBe p t i h → Holds p (Reached t.method)
  operand_run t i h (d, is, k) =
      let (x, n, vn, sn, up) = up_has p s names asked tables (goes_up k) in
      let (g, sm, named, operands) = goes_down (system_holds up) in
      holds (run_of t.method d (named (variable_of t.method d) vn).1)

  operand_up : (t : Statement) (i : ℕ) (h : Site) → OperandMayBe p t i h → OperandHas p (Up p s names asked tables) t i h
  operand_up t i h (d, is, k) = (d, is, goes_up k)

  operand_holds : (t : Statement) (i : ℕ) (g h : Site) (n : SiteId) → SiteNumber p n g → SiteNumber p n h → OperandHas p (program.Known p) t i g → OperandMayBe p t i h
  operand_holds t i g h n sm sn (d, is, k) = (d, is, subst (λ z. Holds p (Has (variable_of t.method d) z)) (one_site p n g h sm sn) (holds k))

  arguments_agree : (t : Statement) (c : CallId) (k : CallSite) (i : ℕ) (n : SiteId) (h : Site) → IsCallOf s t c k → SiteNumber p n h →
      (OperandMayBe p t i h → ArgumentHas s (SystemHolds s) k i n) × (ArgumentHas s (SystemHolds s) k i n → OperandMayBe p t i h)
  arguments_agree t c k i n h of sn = (
    λ o.
        let (a, there, known) = up_argument p s names asked tables t c k i of (goes_up (operand_run t i h o)) h n sn (operand_up t i h o) in
        (a, there, system_holds known),
    λ (a, there, x).
        let (g, sm, operand) = argument_down p s names asked tables t c k i n of (a, there, goes_down x) in
        operand_holds t i g h n sm sn operand,
  )

  -- what statements that are no calls define and use
  first_number : (t : Statement) (K : ℕ → Type 0) → ((op : ℕ) → K op → ReadsFirst op) → HasOpcode p t K → (x : Var) × OperandNumber p s names t 0 x
  first_number t K f o = tables.variables.operands t 0 (inl (refl, kind p asked t K ReadsFirst f o))

  -- the field of a site that an operand may be is a spot
  spot_up : (t : Statement) (x : Var) (b : Site) (f : FieldName) (g : FieldId) → OperandNumber p s names t 0 x → Holds p (Reached t.method) → OperandMayBe p t 0 b → FieldNumber s f g →
      IsSpot p s (Field (x ∷ []) g) (CellOf b f)
  spot_up t x b f g of run operand fg =
      let (n, sn) = operand_site p s names asked tables t 0 b (operand_up t 0 b operand) in
      tied.field (0, omega arith, refl)
      (system_holds (up_operand p s names asked tables t 0 x of (goes_up run) b n sn (operand_up t 0 b operand))) sn fg

  -- .. and each such spot is one
  spot_down : (t : Statement) (x : Var) (g : FieldId) (l : Location) → OperandNumber p s names t 0 x → (f : FieldName) → FieldNumber s f g → IsSpot p s (Field (x ∷ []) g) l →
      (b : Site) × OperandMayBe p t 0 b × (l ≡ CellOf b f)
  spot_down t x g l of f fg (tied.field {v} {n} {b} {f = f'} among may sn fg') =
      let one : x ≡ v = elim (Contains-cons_cases x v [] among) [ inl e ↦ e | inr none ↦ absurd (omega (arith, none.1)) ] in
      let (h, sm, operand) = operand_down p s names asked tables t 0 x n of (goes_down (subst (λ z. SystemHolds s (Has z n)) (sym one) may)) in
      (b, operand_holds t 0 h b n sm sn operand, ap (λ z. CellOf b z) (one_field s f' f g fg' fg))

  made_down : (n : SiteId) (g : FieldId) (l : Location) (h : Site) (f : FieldName) → SiteNumber p n h → FieldNumber s f g → IsSpot p s (MadeSpot n g) l → l ≡ CellOf h f
  made_down n g l h f sn fg (tied.made {b} {f = f'} sm fg') = ap (λ z. CellOf z f') (one_site p n b h sm sn) ∙ ap (λ z. CellOf h z) (one_field s f' f g fg' fg)

  static_down : (x : Var) (v : Variable) (l : Location) → VariableNumber p s v x → IsSpot p s (Static x) l → l ≡ StaticOf v
  static_down x v l vn (tied.static {v = w} wn) = ap (λ z. StaticOf z) (one_variable p s names tables.variables w v x wn vn)

  touched_up : (t : Statement) (write : Bool) (spot : Spot) (l : Location) → IsTouch p s names t write spot → IsSpot p s spot l → Touches p s t write l
  touched_up t write spot l is at = (spot, (tables.touches t write spot).1 is, at)

  write_up : (t : Statement) (l : Location) → (HasOpcode p t IsCall → ⊥) → Defines p t l → Touches p s t true l
  write_up t l never (effect.field f {b} (run, o) named operand) =
      let (x, of) = first_number t IsPutField (λ op h. inr (inl h)) o in
      let (g, fg) = number_of_field s p tables.fields t f named in
      touched_up t true (Field (x ∷ []) g) (CellOf b (field_name f)) (touch.writes_field f o named of fg) (spot_up t x b (field_name f) g of run operand fg)
  write_up t l never (effect.element {b} (run, o) operand) =
      let (x, of) = first_number t IsArrayStore (λ op h. inr (inr (inr (inl h)))) o in
      touched_up t true (Field (x ∷ []) (elements_field s)) (CellOf b Elements) (touch.writes_element o of) (spot_up t x b Elements (elements_field s) of run operand refl)
  write_up t l never (effect.static {v} (run, o) var) =
      let (x, vn) = static_number p s names asked tables t v (kind p asked t IsPutStatic (λ op. IsGetStatic op ⊎ IsPutStatic op) (λ op h. inr h) o) var in
      touched_up t true (Static x) (StaticOf v) (touch.writes_static o var vn) (tied.static vn)
  write_up t l never (effect.array_length (run, o)) =
      let (u, typed) = asked.arrays t o in
      let (n, sn) = number_of_site p s tables.sites (Made t 0) u typed in
      touched_up t true (MadeSpot n (length_field s)) (CellOf (Made t 0) Length) (touch.makes_array o sn) (tied.made sn refl)
  write_up t l never (effect.dimension_length {k} {t = u} (run, o) typed) =
      let (n, sn) = number_of_site p s tables.sites (Made t k) u typed in
      touched_up t true (MadeSpot n (length_field s)) (CellOf (Made t k) Length) (touch.makes_dimension o sn) (tied.made sn refl)
  write_up t l never (effect.dimension_elements {k} {t = u} (run, o) typed) =
      let (w, first) = outer p t k u typed in
      let (n, sn) = number_of_site p s tables.sites (Made t k) w first in
      touched_up t true (MadeSpot n (elements_field s)) (CellOf (Made t k) Elements) (touch.makes_elements o sn typed) (tied.made sn refl)
  write_up t l never (effect.outside (run, o) w) = absurd (never o)

  read_up : (t : Statement) (l : Location) → (HasOpcode p t IsCall → ⊥) → Uses p t l → Touches p s t false l
  read_up t l never (effect.field f {b} (run, o) named operand) =
      let (x, of) = first_number t IsGetField (λ op h. inl h) o in
      let (g, fg) = number_of_field s p tables.fields t f named in
      touched_up t false (Field (x ∷ []) g) (CellOf b (field_name f)) (touch.reads_field f o named of fg) (spot_up t x b (field_name f) g of run operand fg)
  read_up t l never (effect.element {b} (run, o) operand) =
      let (x, of) = first_number t IsArrayLoad (λ op h. inr (inr (inl h))) o in
      touched_up t false (Field (x ∷ []) (elements_field s)) (CellOf b Elements) (touch.reads_element o of) (spot_up t x b Elements (elements_field s) of run operand refl)
  read_up t l never (effect.length_of {b} (run, o) operand) =
      let (x, of) = first_number t IsArrayLength (λ op h. inr (inr (inr (inr (inl h))))) o in
      touched_up t false (Field (x ∷ []) (length_field s)) (CellOf b Length) (touch.reads_length o of) (spot_up t x b Length (length_field s) of run operand refl)
  read_up t l never (effect.static {v} (run, o) var) =
      let (x, vn) = static_number p s names asked tables t v (kind p asked t IsGetStatic (λ op. IsGetStatic op ⊎ IsPutStatic op) (λ op h. inl h) o) var in
      touched_up t false (Static x) (StaticOf v) (touch.reads_static o var vn) (tied.static vn)
  read_up t l never (effect.outside (run, o) w) = absurd (never o)

  defined : (t : Statement) {l m : Location} → m ≡ l → Defines p t l → Defines p t m
  defined t e d = subst (λ z. Defines p t z) (sym e) d

  used : (t : Statement) {l m : Location} → m ≡ l → Uses p t l → Uses p t m
  used t e d = subst (λ z. Uses p t z) (sym e) d

  write_down : (t : Statement) (l : Location) (spot : Spot) → IsStatement p t → IsTouch p s names t true spot → IsSpot p s spot l → Defines p t l
  write_down t l spot (run, any) (touch.writes_field f {x} {g} o named of fg) at =
      let (b, operand, e) = spot_down t x g l of (field_name f) fg at in
      defined t e (effect.field f (run, o) named operand)
  write_down t l spot (run, any) (touch.writes_element {x} o of) at =
      let (b, operand, e) = spot_down t x (elements_field s) l of Elements refl at in
      defined t e (effect.element (run, o) operand)
  write_down t l spot (run, any) (touch.writes_static {v} {x} o var vn) at = defined t (static_down x v l vn at) (effect.static (run, o) var)
  write_down t l spot (run, any) (touch.makes_array {n} o sn) at = defined t (made_down n (length_field s) l (Made t 0) Length sn refl at) (effect.array_length (run, o))
  write_down t l spot (run, any) (touch.makes_dimension {k} {n} o sn) at =
      defined t (made_down n (length_field s) l (Made t k) Length sn refl at) (effect.dimension_length (run, o) (site_type p n (Made t k) sn).1)
  write_down t l spot (run, any) (touch.makes_elements {k} {n} o sn typed) at =
      defined t (made_down n (elements_field s) l (Made t k) Elements sn refl at) (effect.dimension_elements (run, o) typed)

  read_down : (t : Statement) (l : Location) (spot : Spot) → IsStatement p t → IsTouch p s names t false spot → IsSpot p s spot l → Uses p t l
  read_down t l spot (run, any) (touch.reads_field f {x} {g} o named of fg) at =
      let (b, operand, e) = spot_down t x g l of (field_name f) fg at in
      used t e (effect.field f (run, o) named operand)
  read_down t l spot (run, any) (touch.reads_element {x} o of) at =
      let (b, operand, e) = spot_down t x (elements_field s) l of Elements refl at in
      used t e (effect.element (run, o) operand)
  read_down t l spot (run, any) (touch.reads_length {x} o of) at =
      let (b, operand, e) = spot_down t x (length_field s) l of Length refl at in
      used t e (effect.length_of (run, o) operand)
  read_down t l spot (run, any) (touch.reads_static {v} {x} o var vn) at = used t (static_down x v l vn at) (effect.static (run, o) var)

  abbrev IsNoCall : ℕ → Type 0
  IsNoCall op = IsCall op → ⊥

  no_call : {t : Statement} {write : Bool} {spot : Spot} → IsTouch p s names t write spot → HasOpcode p t IsNoCall
  no_call {t} (touch.writes_field f o a b c) = kind p asked t IsPutField IsNoCall (λ op h k. omega (arith, h, k.0)) o
  no_call {t} (touch.writes_element o a) = kind p asked t IsArrayStore IsNoCall (λ op h k. omega (arith, h.1, k.0)) o
  no_call {t} (touch.writes_static o a b) = kind p asked t IsPutStatic IsNoCall (λ op h k. omega (arith, h, k.0)) o
  no_call {t} (touch.makes_array o a) = kind p asked t IsNewArray IsNoCall (λ op h k. omega (arith, h.0, k.1)) o
  no_call {t} (touch.makes_dimension o a) = kind p asked t IsMultiNewArray IsNoCall (λ op h k. omega (arith, h, k.1)) o
  no_call {t} (touch.makes_elements o a b) = kind p asked t IsMultiNewArray IsNoCall (λ op h k. omega (arith, h, k.1)) o
  no_call {t} (touch.reads_field f o a b c) = kind p asked t IsGetField IsNoCall (λ op h k. omega (arith, h, k.0)) o
  no_call {t} (touch.reads_element o a) = kind p asked t IsArrayLoad IsNoCall (λ op h k. omega (arith, h.1, k.0)) o
  no_call {t} (touch.reads_length o a) = kind p asked t IsArrayLength IsNoCall (λ op h k. omega (arith, h, k.1)) o
  no_call {t} (touch.reads_static o a b) = kind p asked t IsGetStatic IsNoCall (λ op h k. omega (arith, h, k.0)) o

  pub tie : IsSystemOf p s
  tie = record {
    methods = tables.methods;
    fields = tables.fields;
    sites = λ n. (λ lt. site_of_number p s tables.sites n lt, λ (h, sn). number_below p s tables.sites n h sn);
    places = tables.sites.places;
    arrays = tables.sites.arrays;
    objects = tables.sites.objects;
    facts = λ f g c. (λ h. system_holds (at p s names asked tables (goes_up h) c), λ h. back c (goes_down h));
    numbered = λ f h. let (g, c, k) = goes_up h in (g, c);
    sites_named = λ x n h. let (g, sn, named, operands) = goes_down h in (g, sn);
    cells_named = λ a n g h. let (b, f, site, sa, fg, sn, k) = goes_down h in (Cell b f site, tied.cell sa fg sn);
    calls_named = λ c m h. let (t, number, run, runs, k) = goes_down h in (Calls t m, tied.calls number);
    outside_named = λ c o h. named_outside c o (goes_down h);
    calls = λ t. (λ o. number_of_call p s names tables.calls t o, λ (c, number). is_call p s names tables.calls t c number);
    one_call = λ t c d a b. one_call_number p s names tables.calls t c d a b;
    rules = λ t c k r of there. rule_down p s names asked tables t c k of r there;
    arguments = λ t c k i n h of sn. arguments_agree t c k i n h of sn;
    fresh = tables.calls.fresh;
    refusals = tables.calls.refusals;
    natives = tables.natives;
    touched = λ x c. no_call ((tables.touches x.place x.write x.spot).0 c);
    writes = λ t l is never. (λ d. write_up t l never d, λ (spot, c, there). write_down t l spot is ((tables.touches t true spot).0 c) there);
    reads = λ t l is never. (λ d. read_up t l never d, λ (spot, c, there). read_down t l spot is ((tables.touches t false spot).0 c) there);
  }

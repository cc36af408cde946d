-- The system is that of the least program.
use Rattle.std.proofs.Common.{◌≡◌, ◌<◌, ◌⊎◌, ℕ, zero, suc, true, List, [], ◌∷◌, get_or, Some, Contains, refl, sym, subst, ap, ◌∙◌, inl, inr, arith}
use Rattle.std.specs.Prelude.{slice_get, codes}
use Rattle.std.proofs.lemmas.Bool.{false≢true, cases_eq}
use Rattle.std.proofs.lemmas.Option.{same_Some, slice_get_within}
use Rattle.std.proofs.lemmas.List.Elements.{All-cons}
use Rattle.slicer_ids.specs.Sets.{IsOrderedListOf}
use Rattle.slicer_ids.specs.declared.ids.MethodId.{MethodId}
use Rattle.slicer_ids.specs.declared.ids.ClassId.{ClassId}
use Rattle.slicer_ids.specs.declared.ids.SiteId.{SiteId}
use Rattle.slicer_ids.specs.declared.ids.FieldId.{FieldId}
use Rattle.slicer_ids.specs.declared.ids.CallId.{CallId}
use Rattle.slicer_ids.specs.declared.ids.Statement.{Statement}
use Rattle.class_form.specs.Opcodes.{IsCall, IsPutField, IsArrayStore, IsPutStatic, IsNewArray, IsMultiNewArray, IsGetField, IsArrayLoad, IsArrayLength, IsGetStatic}
use Rattle.class_form.specs.Classes.{IsNamed, IsNative, class_name}
use Rattle.class_form.specs.declared.class_file.ClassFile.{ClassFile}
use Rattle.class_form.specs.declared.class_file.Member.{Member}
use Rattle.class_form.specs.declared.types.FieldType.{FieldType}
use Rattle.class_form.specs.declared.types.BaseType.TheVariants.{Class as OfClass}
use Rattle.dep_form.specs.declared.rules.Var.{Var}
use Rattle.dep_form.specs.declared.rules.MethodVars.{MethodVars}
use Rattle.dep_form.specs.declared.rules.SiteInfo.{SiteInfo}
use Rattle.dep_form.specs.PointsTo.{Reached, Has, Cell, Calls, OutsideAt}
use Rattle.dep_form.specs.Constraints.{SystemFact, SystemHolds, IsSite, elements_field}
use Rattle.program_form.specs.Statements.{HasOpcode}
use Rattle.program_form.specs.Sites.{Site, Made, OfRoot, HasType, SiteBefore, StandsAt, IsArraySite, IsObjectOf, of_arguments, of_argument}
use Rattle.program_form.specs.Facts.{Variable, ArgumentOf, FieldName, Named, Elements, Length, State, ProgramFact, Holds}
use Rattle.program_form.specs.Effects.{Location, Defines, field, element, static, array_length, dimension_length, dimension_elements, outside, Uses, length_of}
use Rattle.program_form.specs.Systems.{IsSystemOf, SiteNumber, VariableNumber, of_value, of_argument as of_formal, of_result, of_thrown, of_caught, of_exception, of_field, of_foreign, Counterpart, reached, has, cell, calls, static_outside, outside as outside_at, CallNumber, FieldNumber}
use Rattle.program_form.specs.Tiny.{tiny_program, tiny_method}
use Rattle.program_form.proofs.Tiny.{never, class_place, is_main, typed, strings, string, known, Known, reached_holds, given_holds, elements_hold}
use Rattle.program_form.proofs.TinySystem.{tiny_system, main, argument, array_site, string_site, main_vars, array_info, string_info, system_known, system_reached, system_given, system_elements, no_call, all_none}
use Rattle.slicer_ids.proofs.Ordered.{one_ordered}

abbrev IsSiteOf : Site → Type 0
IsSiteOf g = (t : FieldType) × HasType tiny_program g t

abbrev sites : List Site
sites = OfRoot 0 ∷ OfRoot 1 ∷ []

-- the root's sites are apart
asym : (a b : Site) → IsSiteOf a → IsSiteOf b → SiteBefore a b → SiteBefore b a → ⊥
asym (OfRoot i) (OfRoot j) x y p q = omega (arith, p, q)
asym (OfRoot i) (Made t j) x y p q = p
asym (Made s k) b x y p q = elim (typed x.1) [ inl e ↦ absurd (cc e.0) | inr e ↦ absurd (cc e.0) ]

are_sites : IsOrderedListOf SiteBefore sites IsSiteOf
are_sites = record {
  each = All-cons IsSiteOf (OfRoot 0) (OfRoot 1 ∷ []) (strings, of_arguments refl) (All-cons IsSiteOf (OfRoot 1) [] (string, of_argument refl) (all_none IsSiteOf));
  order = λ i j d lt within. by_place i j d lt within;
  whole = λ g h. elim (typed h.1) [
    | inl e ↦ subst (λ x. Contains sites x) (sym e.0) (0, omega arith, refl)
    | inr e ↦ subst (λ x. Contains sites x) (sym e.0) (1, omega arith, refl)
  ];
}
  where
    by_place : (i j : ℕ) (d : Site) → i < j → j < 2 → SiteBefore (get_or sites i d) (get_or sites j d)
    by_place zero zero d lt within = absurd (omega arith)
    by_place zero (suc zero) d lt within = omega arith
    by_place zero (suc (suc j)) d lt within = absurd (omega arith)
    by_place (suc i) zero d lt within = absurd (omega arith)
    by_place (suc i) (suc zero) d lt within = absurd (omega arith)
    by_place (suc i) (suc (suc j)) d lt within = absurd (omega arith)

pub numbered_site : (n : ℕ) (h : Site) → slice_get sites n ≡ Some h → SiteNumber tiny_program (record { 0 = n }) h
numbered_site n h at = (sites, are_sites, at)

at_place : (n : ℕ) (h : Site) → slice_get sites n ≡ Some h → ((n ≡ 0) × (h ≡ OfRoot 0)) ⊎ ((n ≡ 1) × (h ≡ OfRoot 1))
at_place zero h e = inl (refl, same_Some h (OfRoot 0) (sym e))
at_place (suc zero) h e = inr (refl, same_Some h (OfRoot 1) (sym e))
at_place (suc (suc n)) h e = absurd cc

-- a number of a site is 0 or 1
pub which : (n : SiteId) (h : Site) → SiteNumber tiny_program n h → ((n.0 ≡ 0) × (h ≡ OfRoot 0)) ⊎ ((n.0 ≡ 1) × (h ≡ OfRoot 1))
which n h s = at_place n.0 h (subst (λ hs. slice_get hs n.0 ≡ Some h) (one_ordered SiteBefore IsSiteOf s.0 sites asym s.1 are_sites) s.2)

method_vars : (n : ℕ) (v : MethodVars) → slice_get tiny_system.methods n ≡ Some v → (n ≡ 0) × (v ≡ main_vars)
method_vars zero v e = (refl, same_Some v main_vars (sym e))
method_vars (suc n) v e = absurd cc

formal_at : (n : ℕ) (x : Var) → slice_get main_vars.formals n ≡ Some x → (n ≡ 0) × (x ≡ argument)
formal_at zero x e = (refl, same_Some x argument (sym e))
formal_at (suc n) x e = absurd cc

-- a variable's name and number: both are main's argument, or neither is
abbrev Tied : Variable → Var → Type 0
Tied v x = ((v ≡ ArgumentOf tiny_method 0) × (x ≡ argument)) ⊎ ((v ≡ ArgumentOf tiny_method 0 → ⊥) × (x ≡ argument → ⊥))

tied : {v : Variable} {x : Var} → VariableNumber tiny_program tiny_system v x → Tied v x
tied (of_value {t} {m} {x} a c) =
    let e = method_vars t.method.0 m a in
    let none : Contains [] (t.pc, x) = subst (λ (y : MethodVars). Contains y.values (t.pc, x)) e.1 c in
    absurd (omega (arith, none.1))
tied (of_formal {n} {i} {m} {x} a c) =
    let e = method_vars n.0 m a in
    let f = formal_at i x (subst (λ (y : MethodVars). slice_get y.formals i ≡ Some x) e.1 c) in
    inl (ap (λ (k : ℕ). ArgumentOf (record { 0 = k }) i) e.0 ∙ ap (λ k. ArgumentOf tiny_method k) f.0, f.1)
tied (of_result {n} {m} {x} a c) = let e = method_vars n.0 m a in absurd (cc (subst (λ (y : MethodVars). y.result ≡ Some x) e.1 c))
tied (of_thrown {n} {m} {x} a c) =
    let e = method_vars n.0 m a in
    let is : main_vars.thrown ≡ x = subst (λ (y : MethodVars). y.thrown ≡ x) e.1 c in
    inr (λ h. absurd (cc h), λ h. omega (arith, ap (λ (y : Var). y.0) (is ∙ h)))
tied (of_caught {n} {h} {m} {x} a c) =
    let e = method_vars n.0 m a in
    let none : Contains [] (h, x) = subst (λ (y : MethodVars). Contains y.caught (h, x)) e.1 c in
    absurd (omega (arith, none.1))
tied (of_exception c {k} a p q) = absurd (no_call c.0 k a)
tied (of_field {f} lt e) = absurd (omega (arith, lt))
tied (of_foreign {ns} {name} {descriptor} i o at e) =
    let foreign = o.each i (name, descriptor) (slice_get_within ns i (name, descriptor) at) in
    absurd (never foreign.0 (λ op. IsGetStatic op ⊎ IsPutStatic op) (λ k. elim k [ inl a ↦ omega (arith, a) | inr b ↦ omega (arith, b) ]) foreign.2)

no_number : (t : Statement) (c : CallId) → CallNumber tiny_system t c → ⊥
no_number t c h = no_call c.0 h.0 h.1

is_array : (n : SiteId) → n.0 ≡ 0 → n ≡ array_site
is_array n e = ap (λ k. record { 0 = k }) e

is_string : (n : SiteId) → n.0 ≡ 1 → n ≡ string_site
is_string n e = ap (λ k. record { 0 = k }) e

-- the first site and its number, and the second and its
first_number : (n : SiteId) (h : Site) → SiteNumber tiny_program n h → h ≡ OfRoot 0 → n ≡ array_site
first_number n h s e = elim (which n h s) [ inl w ↦ is_array n w.0 | inr w ↦ absurd (cc (e, w.1)) ]

second_number : (n : SiteId) (h : Site) → SiteNumber tiny_program n h → h ≡ OfRoot 1 → n ≡ string_site
second_number n h s e = elim (which n h s) [ inl w ↦ absurd (cc (e, w.1)) | inr w ↦ is_string n w.0 ]

first_site : (n : SiteId) (h : Site) → SiteNumber tiny_program n h → n ≡ array_site → h ≡ OfRoot 0
first_site n h s e = elim (which n h s) [ inl w ↦ w.1 | inr w ↦ absurd (omega (arith, w.0, ap (λ (m : SiteId). m.0) e)) ]

second_site : (n : SiteId) (h : Site) → SiteNumber tiny_program n h → n ≡ string_site → h ≡ OfRoot 1
second_site n h s e = elim (which n h s) [ inl w ↦ absurd (omega (arith, w.0, ap (λ (m : SiteId). m.0) e)) | inr w ↦ w.1 ]

elements_name : (f : FieldName) (g : FieldId) → FieldNumber tiny_system f g → g ≡ elements_field tiny_system → f ≡ Elements
elements_name (Named f) g n e = absurd (omega (arith, n.1))
elements_name Elements g n e = refl
elements_name Length g n e = absurd (omega (arith, ap (λ (x : FieldId). x.0) (sym n ∙ e)))
elements_name State g n e = absurd (omega (arith, ap (λ (x : FieldId). x.0) (sym n ∙ e)))

elements_number : (f : FieldName) (g : FieldId) → FieldNumber tiny_system f g → f ≡ Elements → g ≡ elements_field tiny_system
elements_number f g n e = subst (λ x. FieldNumber tiny_system x g) e n

abbrev Same : ProgramFact → SystemFact → Type 0
Same f g = (Holds tiny_program f → SystemHolds tiny_system g) × (SystemHolds tiny_system g → Holds tiny_program f)

same_reached : (m : MethodId) → Same (Reached m) (Reached m)
same_reached m = (
  λ h. elim (known (Reached m) h) [
    | inl e ↦ let q : m ≡ main = cc e in subst (λ x. SystemHolds tiny_system (Reached x)) (sym q) system_reached
    | inr o ↦ elim o [ inl e ↦ absurd (cc e) | inr e ↦ absurd (cc e) ]
  ],
  λ h. elim (system_known (Reached m) h) [
    | inl e ↦ let q : m ≡ main = cc e in subst (λ x. Holds tiny_program (Reached x)) (sym q) reached_holds
    | inr o ↦ elim o [ inl e ↦ absurd (cc e) | inr e ↦ absurd (cc e) ]
  ],
)

same_has : (v : Variable) (h : Site) (x : Var) (n : SiteId) → Tied v x → SiteNumber tiny_program n h → Same (Has v h) (Has x n)
same_has v h x n t s = (
  λ k. elim (known (Has v h) k) [
    | inl e ↦ absurd (cc e)
    | inr o ↦ elim o [
      | inl e ↦
          let p : v ≡ ArgumentOf tiny_method 0 = cc e in
          let q : h ≡ OfRoot 0 = cc e in
          elim t [
            | inl b ↦ subst (λ y. SystemHolds tiny_system (Has y n)) (sym b.1) (subst (λ m. SystemHolds tiny_system (Has argument m)) (sym (first_number n h s q)) system_given)
            | inr b ↦ absurd (b.0 p)
          ]
      | inr e ↦ absurd (cc e)
    ]
  ],
  λ k. elim (system_known (Has x n) k) [
    | inl e ↦ absurd (cc e)
    | inr o ↦ elim o [
      | inl e ↦
          let p : x ≡ argument = cc e in
          let q : n ≡ array_site = cc e in
          elim t [
            | inl b ↦ subst (λ y. Holds tiny_program (Has y h)) (sym b.0) (subst (λ g. Holds tiny_program (Has (ArgumentOf tiny_method 0) g)) (sym (first_site n h s q)) given_holds)
            | inr b ↦ absurd (b.1 p)
          ]
      | inr e ↦ absurd (cc e)
    ]
  ],
)

same_cell : (b h : Site) (f : FieldName) (a n : SiteId) (g : FieldId) → SiteNumber tiny_program a b → FieldNumber tiny_system f g → SiteNumber tiny_program n h → Same (Cell b f h) (Cell a g n)
same_cell b h f a n g sb ff sh = (
  λ k. elim (known (Cell b f h) k) [
    | inl e ↦ absurd (cc e)
    | inr o ↦ elim o [
      | inl e ↦ absurd (cc e)
      | inr e ↦
          let p : b ≡ OfRoot 0 = cc e in
          let q : f ≡ Elements = cc e in
          let r : h ≡ OfRoot 1 = cc e in
          let same : Cell a g n ≡ Cell array_site (elements_field tiny_system) string_site = cc (first_number a b sb p, elements_number f g ff q, second_number n h sh r) in
          subst (SystemHolds tiny_system) (sym same) system_elements
    ]
  ],
  λ k. elim (system_known (Cell a g n) k) [
    | inl e ↦ absurd (cc e)
    | inr o ↦ elim o [
      | inl e ↦ absurd (cc e)
      | inr e ↦
          let p : a ≡ array_site = cc e in
          let q : g ≡ elements_field tiny_system = cc e in
          let r : n ≡ string_site = cc e in
          let same : Cell b f h ≡ Cell (OfRoot 0) Elements (OfRoot 1) = cc (first_site a b sb p, elements_name f g ff q, second_site n h sh r) in
          subst (Holds tiny_program) (sym same) elements_hold
    ]
  ],
)

same_facts : {f : ProgramFact} {g : SystemFact} → Counterpart tiny_program tiny_system f g → Same f g
same_facts (reached {m}) = same_reached m
same_facts (has {v} {h} {x} {n} a b) = same_has v h x n (tied a) b
same_facts (cell {b} {h} {f} {a} {n} {g} x y z) = same_cell b h f a n g x y z
same_facts (calls {t} {c} k) = absurd (no_number t c k)
same_facts (static_outside {t} {c} k) = absurd (no_number t c k)
same_facts (outside_at {t} {c} k n) = absurd (no_number t c k)

first : SiteNumber tiny_program array_site (OfRoot 0)
first = numbered_site 0 (OfRoot 0) refl

second : SiteNumber tiny_program string_site (OfRoot 1)
second = numbered_site 1 (OfRoot 1) refl

argument_number : VariableNumber tiny_program tiny_system (ArgumentOf tiny_method 0) argument
argument_number = of_formal {n = tiny_method} {i = 0} {m = main_vars} refl refl

numbered_fact : (f : ProgramFact) → Known f → (g : SystemFact) × Counterpart tiny_program tiny_system f g
numbered_fact f (inl e) = (Reached main, subst (λ x. Counterpart tiny_program tiny_system x (Reached main)) (sym e) reached)
numbered_fact f (inr (inl e)) = (Has argument array_site, subst (λ x. Counterpart tiny_program tiny_system x (Has argument array_site)) (sym e) (has argument_number first))
numbered_fact f (inr (inr e)) =
    let g : SystemFact = Cell array_site (elements_field tiny_system) string_site in
    (g, subst (λ x. Counterpart tiny_program tiny_system x g) (sym e) (cell first refl second))

info_at : (n : ℕ) (info : SiteInfo) → slice_get tiny_system.sites n ≡ Some info → ((n ≡ 0) × (info ≡ array_info)) ⊎ ((n ≡ 1) × (info ≡ string_info))
info_at zero info e = inl (refl, same_Some info array_info (sym e))
info_at (suc zero) info e = inr (refl, same_Some info string_info (sym e))
info_at (suc (suc n)) info e = absurd cc

-- a site, its number and what the system says of it
abbrev AreOf : Site → SiteInfo → Type 0
AreOf h info = ((h ≡ OfRoot 0) × (info ≡ array_info)) ⊎ ((h ≡ OfRoot 1) × (info ≡ string_info))

are_of : (n : SiteId) (h : Site) (info : SiteInfo) → SiteNumber tiny_program n h → IsSite tiny_system n info → AreOf h info
are_of n h info s i = elim (which n h s) [
  | inl w ↦ elim (info_at n.0 info i) [ inl v ↦ inl (w.1, v.1) | inr v ↦ absurd (omega (arith, w.0, v.0)) ]
  | inr w ↦ elim (info_at n.0 info i) [ inl v ↦ absurd (omega (arith, w.0, v.0)) | inr v ↦ inr (w.1, v.1) ]
]

one_type : {t : FieldType} → HasType tiny_program (OfRoot 1) t → t ≡ string
one_type x = elim (typed x) [ inl e ↦ absurd (cc e.0) | inr e ↦ e.1 ]

no_dims : {t : FieldType} → HasType tiny_program (OfRoot 0) t → t ≡ strings
no_dims x = elim (typed x) [ inl e ↦ e.1 | inr e ↦ absurd (cc e.0) ]

arrays_agree : (h : Site) (info : SiteInfo) → AreOf h info → (info.array ≡ true → IsArraySite tiny_program h) × (IsArraySite tiny_program h → info.array ≡ true)
arrays_agree h info (inl e) = (λ x. subst (IsArraySite tiny_program) (sym e.0) (strings, of_arguments refl, omega arith), λ x. ap (λ (i : SiteInfo). i.array) e.1)
arrays_agree h info (inr e) = (
  λ x. absurd (false≢true (ap (λ (i : SiteInfo). i.array) (sym e.1) ∙ x)),
  λ x. let y = subst (IsArraySite tiny_program) e.0 x in absurd (omega (arith, y.2, ap (λ (t : FieldType). t.dims) (one_type y.1))),
)

-- no site's class is of the folder
no_class : (h : Site) (info : SiteInfo) (c : ClassId) → AreOf h info → info.class ≡ Some c → ⊥
no_class h info c (inl e) x = absurd (cc (ap (λ (i : SiteInfo). i.class) (sym e.1) ∙ x))
no_class h info c (inr e) x = absurd (cc (ap (λ (i : SiteInfo). i.class) (sym e.1) ∙ x))

other_name : (name : List ℕ) (c : ℕ) → IsNamed tiny_program.classes name c → name ≡ codes "java/lang/String" → ⊥
other_name name c n e =
    let spelled : Some (codes "java/lang/Object") ≡ Some name = subst (λ (k : ClassFile). class_name k ≡ Some name) (class_place c n.0 n.1) n.2 in
    let same : codes "java/lang/Object" ≡ codes "java/lang/String" = same_Some _ _ spelled ∙ e in
    omega (arith, ap (λ (xs : List ℕ). get_or xs 10 0) same)

no_object : (h : Site) (info : SiteInfo) (name : List ℕ) (c : ℕ) → AreOf h info → IsObjectOf tiny_program h name → IsNamed tiny_program.classes name c → ⊥
no_object h info name c (inl e) o n =
    let y = subst (λ g. IsObjectOf tiny_program g name) e.0 o in
    omega (arith, y.2, ap (λ (t : FieldType). t.dims) (no_dims y.1))
no_object h info name c (inr e) o n =
    let y = subst (λ g. IsObjectOf tiny_program g name) e.0 o in
    let base : OfClass (codes "java/lang/String") ≡ OfClass name = sym (ap (λ (t : FieldType). t.base) (one_type y.1)) ∙ y.3 in
    other_name name c n (cc base)

no_touch : {A : Type 0} (x : A) → Contains [] x → ⊥
no_touch x c = omega (arith, c.1)

no_defines : {t : Statement} {l : Location} → (HasOpcode tiny_program t IsCall → ⊥) → Defines tiny_program t l → ⊥
no_defines {t} n (field f r a o) = never t IsPutField (λ k. omega (arith, k)) r.1
no_defines {t} n (element r o) = never t IsArrayStore (λ k. omega (arith, k.0, k.1)) r.1
no_defines {t} n (static r v) = never t IsPutStatic (λ k. omega (arith, k)) r.1
no_defines {t} n (array_length r) = never t IsNewArray (λ k. omega (arith, k.0, k.1)) r.1
no_defines {t} n (dimension_length r x) = never t IsMultiNewArray (λ k. omega (arith, k)) r.1
no_defines {t} n (dimension_elements r x) = never t IsMultiNewArray (λ k. omega (arith, k)) r.1
no_defines {t} n (outside r w) = n r.1

no_uses : {t : Statement} {l : Location} → (HasOpcode tiny_program t IsCall → ⊥) → Uses tiny_program t l → ⊥
no_uses {t} n (field f r a o) = never t IsGetField (λ k. omega (arith, k)) r.1
no_uses {t} n (element r o) = never t IsArrayLoad (λ k. omega (arith, k.0, k.1)) r.1
no_uses {t} n (length_of r o) = never t IsArrayLength (λ k. omega (arith, k)) r.1
no_uses {t} n (static r v) = never t IsGetStatic (λ k. omega (arith, k)) r.1
no_uses {t} n (outside r w) = n r.1

main_is_no_native : {v : MethodVars} → v ≡ main_vars → v.native ≡ true → ⊥
main_is_no_native e x = false≢true (ap (λ (y : MethodVars). y.native) (sym e) ∙ x)

pub tiny_tie : IsSystemOf tiny_program tiny_system
tiny_tie = record {
  methods = refl;
  fields = refl;
  sites = λ n. (λ lt. by_number n lt, λ h. elim (which n h.0 h.1) [ inl w ↦ omega (arith, w.0) | inr w ↦ omega (arith, w.0) ]);
  places = λ n h info s i. elim (are_of n h info s i) [
    | inl e ↦ subst (λ g. StandsAt g info.place info.k) (sym e.0) (ap (λ (x : SiteInfo). x.place) e.1, ap (λ (x : SiteInfo). x.k) e.1)
    | inr e ↦ subst (λ g. StandsAt g info.place info.k) (sym e.0) (ap (λ (x : SiteInfo). x.place) e.1, ap (λ (x : SiteInfo). x.k) e.1)
  ];
  arrays = λ n h info s i. arrays_agree h info (are_of n h info s i);
  objects = λ n h info c s i. (λ x. absurd (no_class h info c (are_of n h info s i) x), λ x. absurd (no_object h info x.0 c.0 (are_of n h info s i) x.1 x.2));
  facts = λ f g c. same_facts c;
  numbered = λ f h. numbered_fact f (known f h);
  sites_named = λ x n h. elim (system_known (Has x n) h) [
    | inl e ↦ absurd (cc e)
    | inr o ↦ elim o [ inl e ↦ let q : n ≡ array_site = cc e in (OfRoot 0, subst (λ m. SiteNumber tiny_program m (OfRoot 0)) (sym q) first) | inr e ↦ absurd (cc e) ]
  ];
  cells_named = λ a n g h. elim (system_known (Cell a g n) h) [
    | inl e ↦ absurd (cc e)
    | inr o ↦ elim o [
      | inl e ↦ absurd (cc e)
      | inr e ↦ (Cell (OfRoot 0) Elements (OfRoot 1), subst (Counterpart tiny_program tiny_system (Cell (OfRoot 0) Elements (OfRoot 1))) (sym e) (cell first refl second))
    ]
  ];
  calls_named = λ c m h. elim (system_known (Calls c m) h) [ inl e ↦ absurd (cc e) | inr o ↦ elim o [ inl e ↦ absurd (cc e) | inr e ↦ absurd (cc e) ] ];
  outside_named = λ c o h. elim (system_known (OutsideAt c o) h) [ inl e ↦ absurd (cc e) | inr q ↦ elim q [ inl e ↦ absurd (cc e) | inr e ↦ absurd (cc e) ] ];
  calls = λ t. (λ h. absurd (never t IsCall (λ k. omega (arith, k.0, k.1)) h), λ h. absurd (no_number t h.0 h.1));
  one_call = λ t c d h k. absurd (no_number t c h);
  rules = λ t c k r h e. absurd (no_call c.0 k h.0);
  arguments = λ t c k i n h a s. absurd (no_call c.0 k a.0);
  fresh = λ t c k n a. absurd (no_call c.0 k a.0);
  refusals = λ t c k n a. absurd (no_call c.0 k a.0);
  natives = λ m v d x name descriptor a b. (
    λ e. absurd (main_is_no_native (method_vars m.0 v a).1 e),
    λ e. absurd (not_native (subst (λ (y : Member). IsNative y.flags) (is_main m d x name descriptor b).0 e)),
  );
  touched = λ touch c. absurd (no_touch touch c);
  writes = λ t l s n. (λ d. absurd (no_defines n d), λ x. absurd (no_touch _ x.1));
  reads = λ t l s n. (λ d. absurd (no_uses n d), λ x. absurd (no_touch _ x.1));
}
  where
    by_number : (n : SiteId) → n.0 < 2 → (h : Site) × SiteNumber tiny_program n h
    by_number n lt = elim (cases_eq n.0 0) [
      | inl e ↦ (OfRoot 0, subst (λ m. SiteNumber tiny_program m (OfRoot 0)) (sym (is_array n e)) first)
      | inr e ↦ (OfRoot 1, subst (λ m. SiteNumber tiny_program m (OfRoot 1)) (sym (is_string n (omega arith))) second)
    ]

    not_native : IsNative 9 → ⊥
    not_native h = h refl

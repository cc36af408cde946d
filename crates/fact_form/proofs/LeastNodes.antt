-- The nodes of the least program, by the numbers of any system of it: main's argument and its only statement, and the root's argument.
use Rattle.std.proofs.Common.{◌≡◌, ◌⊎◌, ◌<◌, ℕ, zero, suc, false, List, [], ◌∷◌, length, Some, Contains, refl, sym, ap, subst, ◌∙◌, inl, inr, arith}
use Rattle.std.specs.Prelude.{slice_get, get_or, codes, All}
use Rattle.std.proofs.lemmas.Bool.{cases_lt}
use Rattle.std.proofs.lemmas.Option.{same_Some, slice_get_within}
use Rattle.std.proofs.lemmas.List.{length-map}
use Rattle.std.proofs.lemmas.List.Elements.{All-cons, All-contains}
use Rattle.slicer_ids.specs.Sets.{IsOrderedListOf}
use Rattle.slicer_ids.specs.declared.ids.MethodId.{MethodId}
use Rattle.slicer_ids.specs.declared.ids.LocId.{LocId}
use Rattle.slicer_ids.specs.declared.ids.SiteId.{SiteId}
use Rattle.slicer_ids.specs.declared.ids.CallId.{CallId}
use Rattle.slicer_ids.specs.declared.ids.Statement.{Statement}
use Rattle.class_form.specs.Opcodes.{IsCall, IsGetField, IsArrayLoad, IsArrayLength, IsGetStatic}
use Rattle.class_form.specs.Types.{IsMethodType}
use Rattle.class_form.specs.Resolution.{clinit_name}
use Rattle.class_form.specs.declared.types.FieldType.{FieldType}
use Rattle.class_form.specs.declared.types.MethodType.{MethodType}
use Rattle.class_form.specs.declared.body.Body.{Body}
use Rattle.class_form.specs.declared.body.Instr.{Instr}
use Rattle.class_form.proofs.Indices.{index_at, there_at}
use Rattle.class_form.proofs.OneType.{one_method_type}
use Rattle.dep_form.specs.declared.rules.Entry.{Entry}
use Rattle.dep_form.specs.declared.rules.MethodVars.{MethodVars}
use Rattle.dep_form.specs.declared.rules.Rule.TheVariants.{Enter}
use Rattle.dep_form.specs.declared.rules.Spot.{Spot}
use Rattle.dep_form.specs.declared.rules.Var.{Var}
use Rattle.dep_form.specs.declared.call_site.CallSite.{CallSite}
use Rattle.dep_form.specs.declared.system.System.{System}
use Rattle.dep_form.specs.declared.effects.Location.{Location}
use Rattle.dep_form.specs.declared.effects.ModRef.{ModRef}
use Rattle.dep_form.specs.declared.node.Node.{Node as NodeNumber}
use Rattle.dep_form.specs.declared.node.Node.TheVariants.{Formal, Own, Argument}
use Rattle.dep_form.specs.Nodes.{ComesBefore}
use Rattle.dep_form.specs.PointsTo.{Reached, Has}
use Rattle.dep_form.specs.Constraints.{SystemHolds, IsMethodVars, IsRoot}
use Rattle.dep_form.specs.Effects.{LocationBefore, IsTraced, Mod, Ref, IsModRefOf}
use Rattle.program_form.specs.Programs.{IsInitializer, TypeOf}
use Rattle.program_form.specs.Statements.{HasOpcode}
use Rattle.program_form.specs.Facts.{ArgumentOf, ThrownBy}
use Rattle.program_form.specs.Nodes.{at}
use Rattle.program_form.specs.Systems.{IsSystemOf, IsCallOf, VariableNumber, of_argument, of_thrown, reached, has}
use Rattle.program_form.specs.Tiny.{tiny_program, tiny_method, tiny_body, tiny_instruction, tiny_point, tiny_entry}
use Rattle.program_form.proofs.Tiny.{single, never, is_main, known, reached_holds}
use Rattle.program_form.proofs.TinySystem.{root}
use Rattle.program_form.proofs.QuietFacts.{no_item, no_place, all_none, pairs_none, pairs_one}
use Rattle.program_form.proofs.TinyTie.{numbered_site}
use Rattle.program_form.specs.Sites.{OfRoot}
use Rattle.constraint_form.specs.ConstraintSystems.{IsConstraintSystem}
use Rattle.constraint_form.specs.Variables.{Meaning, Named}
use Rattle.constraint_form.specs.Rules.{IsConstraint}
use Rattle.constraint_form.specs.Rules as rule
use Rattle.constraint_form.specs.Touched.{IsTouch}
use Rattle.constraint_form.specs.Touched as touch
use Rattle.constraint_form.proofs.LeastProgram.{text, main_type, main_spelled, method_number, only_formal, main_formal, no_initializer}
use Rattle.fact_form.specs.EntryCalls.{AreEntryCalls, IsEntered, IsGiven, root_of}
use Rattle.fact_form.specs.NodeNumbers.{IsNumbered, UsedBy, ChangedBy, formal, heap_in, own, argument as call_argument, result, exception, heap_arg, heap_result, returned, thrown, heap_out, root_argument, root_heap_arg, root_heap_result}

-- LISTS OF NONE AND OF ONE

pub none_of : {A : Type 0} (R : A → A → Type 0) (P : A → Type 0) → ((x : A) → P x → ⊥) → IsOrderedListOf R [] P
none_of R P never = record { each = all_none P; order = pairs_none R; whole = λ x h. absurd (never x h) }

pub one_of : {A : Type 0} (R : A → A → Type 0) (P : A → Type 0) (y : A) → P y → ((x : A) → P x → y ≡ x) → IsOrderedListOf R (y ∷ []) P
one_of R P y is only = record { each = All-cons P y [] is (all_none P); order = pairs_one R y; whole = λ x h. (0, omega arith, only x h) }

-- EFFECTS: THERE ARE NONE

none_within : (m : ℕ) (ls : List LocId) → slice_get ([] ∷ []) m ≡ Some ls → ls ≡ []
none_within zero ls e = sym (same_Some [] ls e)
none_within (suc m) ls e = absurd cc

pub below : (m : ℕ) (ls : List LocId) → slice_get ([] ∷ []) m ≡ Some ls → All (λ (l : LocId). l.0 < 0) ls
below m ls e = subst (All (λ (l : LocId). l.0 < 0)) (sym (none_within m ls e)) (all_none (λ (l : LocId). l.0 < 0))

abbrev pub least_effects : ModRef
least_effects = record { locations = []; changed = [] ∷ []; used = [] ∷ []; changed_within = below; used_within = below }

no_used : (m : MethodId) (n : LocId) → UsedBy least_effects m n → ⊥
no_used m n (ls, e, c) = no_item n (subst (λ xs. Contains xs n) (none_within m.0 ls e) c)

no_changed : (m : MethodId) (n : LocId) → ChangedBy least_effects m n → ⊥
no_changed m n (ls, e, c) = no_item n (subst (λ xs. Contains xs n) (none_within m.0 ls e) c)

abbrev LowerLocation : LocId → LocId → Type 0
LowerLocation a b = a.0 < b.0

-- METHODS AND STATEMENTS

pub same_method : (m : MethodId) → m.0 ≡ 0 → m ≡ tiny_method
same_method m e = ap (λ k. record { 0 = k }) e

pub same_root : (m : MethodId) → m.0 ≡ 1 → m ≡ root
same_root m e = ap (λ k. record { 0 = k }) e

pub apart : tiny_method ≡ root → ⊥
apart e = omega (arith, ap (λ (m : MethodId). m.0) e)

-- the only statement of the program
pub the_pc : (t : Statement) (Kind : ℕ → Type 0) → HasOpcode tiny_program t Kind → t.pc ≡ 0
the_pc t Kind (b, i, (among, of, in_body, pc, point), is) =
    let body = single tiny_body b among in
    let instruction = single tiny_instruction i (subst (λ (x : Body). Contains x.instrs i) (sym body) in_body) in
    sym pc ∙ sym (ap (λ (x : Instr). x.pc) instruction)

pub main_runs : HasOpcode tiny_program (at tiny_method 0) (λ op. Unit {0})
main_runs = (tiny_body, tiny_instruction, ((0, omega arith, refl), refl, (0, omega arith, refl), refl, (tiny_point, ((0, omega arith, refl), refl))), tt)

pub no_call : (t : Statement) → HasOpcode tiny_program t IsCall → ⊥
no_call t o = never t IsCall (λ k. omega (arith, k.0, k.1)) o

-- main answers nothing
no_answer : (m : MethodId) (t : MethodType) (u : FieldType) → TypeOf tiny_program m t → t.result ≡ Some u → ⊥
no_answer m t u (d, x, name, bytes, method, typed) e =
    let spelled = subst (λ b. IsMethodType b t) (method_number m d x name bytes method).2 typed in
    let same : t ≡ main_type = one_method_type text t main_type spelled main_spelled in
    absurd (cc (ap (λ (z : MethodType). z.result) (sym same) ∙ e))

nothing_initializes : (m : MethodId) → IsInitializer tiny_program m → ⊥
nothing_initializes m (d, x, name, bytes, method, e) =
    let main = is_main m d x name bytes method in
    let same : codes "main" ≡ clinit_name = sym main.1 ∙ e in
    omega (arith, ap (λ (xs : List ℕ). get_or xs 0 0) same)

abbrev pub entries : List MethodId
entries = tiny_method ∷ []

pub entry_at : (k : ℕ) (t : MethodId) → slice_get entries k ≡ Some t → (k ≡ 0) × (t ≡ tiny_method)
entry_at zero t e = (refl, same_Some t tiny_method (sym e))
entry_at (suc k) t e = absurd cc

-- the three nodes
abbrev pub IsThere : MethodId → NodeNumber → Type 0
IsThere m k = ((m ≡ tiny_method) × ((k ≡ Formal 0) ⊎ (k ≡ Own 0))) ⊎ ((m ≡ root) × (k ≡ Argument 0 0))

no_read : {s : System} {names : List Meaning} {t : Statement} {spot : Spot} → IsTouch tiny_program s names t false spot → ⊥
no_read {t} (touch.reads_field f o a b c) = never t IsGetField (λ k. omega (arith, k)) o
no_read {t} (touch.reads_element o a) = never t IsArrayLoad (λ k. omega (arith, k.1)) o
no_read {t} (touch.reads_length o a) = never t IsArrayLength (λ k. omega (arith, k)) o
no_read {t} (touch.reads_static o a b) = never t IsGetStatic (λ k. omega (arith, k)) o

enters_main : {s : System} {names : List Meaning} {m t : MethodId} → IsConstraint tiny_program s names m (Enter t) → tiny_method ≡ t
enters_main (rule.enters {e} is c) = ap (λ (x : Entry). x.method) (single tiny_entry e c)
enters_main (rule.entry_initializes {c} {m} is e k i) = absurd (no_initializer c m i)
enters_main (rule.initializes {c} {m} o n i) = absurd (no_initializer c m i)

module _ (s : System) (system : IsConstraintSystem tiny_program s) (tie : IsSystemOf tiny_program s) where
  pub one_method : length s.methods ≡ 1
  one_method = system.1.methods

  pub is_root : (m : MethodId) → IsRoot s m → m ≡ root
  is_root m e = same_root m (e ∙ one_method)

  pub root_is : IsRoot s root
  root_is = sym one_method

  pub no_call_of : (t : Statement) (c : CallId) (k : CallSite) → IsCallOf s t c k → ⊥
  no_call_of t c k is = no_call t ((tie.calls t).1 (c, (k, is.0, is.1)))

  pub no_calls : length s.calls ≡ 0
  no_calls =
      let ts = system.1.calls.listed.0 in
      let same : length s.calls ≡ length ts =
      sym (length-map s.calls (λ (k : CallSite). k.place)) ∙ ap length system.1.calls.listed.2 ∙ length-map ts (λ (t : Statement). Some t) in
      elim (cases_lt 0 (length ts)) [
        | inl lt ↦ let t = index_at ts 0 lt in absurd (no_call t.0 (All-contains (λ t. HasOpcode tiny_program t IsCall) ts t.0 system.1.calls.listed.1.each (there_at ts 0 t.0 t.1)))
        | inr le ↦ omega (arith, le, same)
      ]

  -- WHAT IS CHANGED AND READ: NOTHING

  untraced : (l : Location) → IsTraced s l → ⊥
  untraced l (d, (m, (reaches, inl (t, spot, of, c, is)))) = no_read ((system.1.touches t false spot).0 c)
  untraced l (d, (m, (reaches, inr (c, k, r, is, uses)))) = no_call_of is.2.0 c k (is.0, is.2.1)

  pub least_effects_are : IsModRefOf s least_effects
  least_effects_are = record {
    locations = none_of LocationBefore (IsTraced s) untraced;
    changed = λ m ls e.
        let Is : LocId → Type 0 = λ n. (l : Location) × (slice_get least_effects.locations n.0 ≡ Some l) × Mod s m l in
        subst (λ xs. IsOrderedListOf LowerLocation xs Is) (sym (none_within m.0 ls e)) (none_of LowerLocation Is (λ n h. no_place n.0 h.0 h.1));
    used = λ m ls e.
        let Is : LocId → Type 0 = λ n. (l : Location) × (slice_get least_effects.locations n.0 ≡ Some l) × Ref s m l in
        subst (λ xs. IsOrderedListOf LowerLocation xs Is) (sym (none_within m.0 ls e)) (none_of LowerLocation Is (λ n h. no_place n.0 h.0 h.1));
    changed_methods = sym one_method;
    used_methods = sym one_method;
  }

  -- WHAT RUNS

  pub main_reached : SystemHolds s (Reached tiny_method)
  main_reached = (tie.facts (Reached tiny_method) (Reached tiny_method) reached).0 reached_holds

  pub only_main : (m : MethodId) → SystemHolds s (Reached m) → m ≡ tiny_method
  only_main m h = elim (known (Reached m) ((tie.facts (Reached m) (Reached m) reached).1 h)) [
    | inl e ↦ cc e
    | inr o ↦ elim o [ inl e ↦ absurd (cc e) | inr e ↦ absurd (cc e) ]
  ]

  -- nothing is thrown
  no_throw : (m : MethodId) (v : MethodVars) (h : SiteId) → IsMethodVars s m v → SystemHolds s (Has v.thrown h) → ⊥
  no_throw m v h is holds =
      let g = tie.sites_named v.thrown h holds in
      let there = (tie.facts (Has (ThrownBy m) g.0) (Has v.thrown h) (has (of_thrown {n = m} {m = v} is refl) g.1)).1 holds in
      elim (known (Has (ThrownBy m) g.0) there) [
        | inl e ↦ absurd (cc e)
        | inr o ↦ elim o [ inl e ↦ absurd (cc e) | inr e ↦ absurd (cc e) ]
      ]

  -- THE ROOT'S CALL

  entered : (t : MethodId) → IsEntered tiny_program s t → tiny_method ≡ t
  entered t (inl c) = enters_main ((system.1.constraints (root_of s) (Enter t)).0 c)
  entered t (inr (reaches, initializes)) = absurd (nothing_initializes t initializes)

  main_entered : IsEntered tiny_program s tiny_method
  main_entered = inl ((system.1.constraints (root_of s) (Enter tiny_method)).1 (rule.enters {e = tiny_entry} one_method (0, omega arith, refl)))

  pub entry_calls : AreEntryCalls tiny_program s entries
  entry_calls = one_of (λ (a : MethodId) (b : MethodId). a.0 < b.0) (IsEntered tiny_program s) tiny_method main_entered entered

  -- main's variables, and that of its argument
  formal_of : {m : MethodId} {i : ℕ} {x : Var} → VariableNumber tiny_program s (ArgumentOf m i) x → (v : MethodVars) × IsMethodVars s m v × (slice_get v.formals i ≡ Some x)
  formal_of (of_argument {m} is e) = (m, is, e)

  main_argument : (x : Var) × VariableNumber tiny_program s (ArgumentOf tiny_method 0) x
  main_argument = system.1.variables.whole (ArgumentOf tiny_method 0) main_formal

  given : IsGiven s tiny_method
  given =
      let x = main_argument in
      let v = formal_of x.1 in
      (v.0, x.0, record { 0 = 0 }, v.1, v.2, (system.1.constraints (root_of s) _).1 (rule.given {e = tiny_entry} one_method (0, omega arith, refl) refl x.1 (numbered_site 0 (OfRoot 0) refl)))

  only_argument : (m : MethodId) (v : MethodVars) (i : ℕ) → IsMethodVars s m v → i < length v.formals → i ≡ 0
  only_argument m v i is lt =
      let x = index_at v.formals i lt in
      let number : VariableNumber tiny_program s (ArgumentOf m i) x.0 = of_argument is x.1 in
      let named = system.1.variables.named (ArgumentOf m i) (there_at system.0 x.0.0 (Named (ArgumentOf m i)) (system.1.variables.numbers (ArgumentOf m i) x.0 number)) in
      (only_formal m i named).1

  -- THE NODES

  abbrev pub Numbered : MethodId → NodeNumber → Type 0
  Numbered = IsNumbered tiny_program s least_effects entries

  pub there : {m : MethodId} {k : NodeNumber} → Numbered m k → IsThere m k
  there (formal {m} {v} {i} reaches is lt) = inl (only_main m reaches, inl (ap (λ j. Formal j) (only_argument m v i is lt)))
  there (heap_in {m} {n} reaches used) = absurd (no_used m n used)
  there (own {m} {pc} reaches o) = inl (only_main m reaches, inr (ap (λ j. Own j) (the_pc (at m pc) (λ op. Unit {0}) o)))
  there (call_argument {m} {pc} c {k} reaches is lt) = absurd (no_call_of (at m pc) c k is)
  there (result {m} {pc} reaches (t, u, type, e)) = absurd (no_call (at m pc) type.0)
  there (exception {m} {pc} c {k} reaches is holds) = absurd (no_call_of (at m pc) c k is)
  there (heap_arg {m} {pc} {c} {k} is calls used) = absurd (no_call_of (at m pc) c k is)
  there (heap_result {m} {pc} {c} {k} is calls used) = absurd (no_call_of (at m pc) c k is)
  there (returned {m} reaches (t, u, type, e)) = absurd (no_answer m t u type e)
  there (thrown {m} {v} {h} reaches is holds) = absurd (no_throw m v h is holds)
  there (heap_out {m} {n} reaches changed) = absurd (no_changed m n changed)
  there (root_argument {r} {t} {k} is e gives) = inr (is_root r is, ap (λ j. Argument j 0) (entry_at k t e).0)
  there (root_heap_arg {t} {n} is e used) = absurd (no_used t n used)
  there (root_heap_result {t} {n} is e changed) = absurd (no_changed t n changed)

  argument_numbered : Numbered tiny_method (Formal 0)
  argument_numbered =
      let v = formal_of main_argument.1 in
      formal main_reached v.1 (slice_get_within v.0.formals 0 main_argument.0 v.2)

  own_numbered : Numbered tiny_method (Own 0)
  own_numbered = own main_reached main_runs

  pub main_nodes : IsOrderedListOf ComesBefore (Formal 0 ∷ Own 0 ∷ []) (Numbered tiny_method)
  main_nodes = record {
    each = All-cons (Numbered tiny_method) (Formal 0) (Own 0 ∷ []) argument_numbered (All-cons (Numbered tiny_method) (Own 0) [] own_numbered (all_none (Numbered tiny_method)));
    order = λ i j d lt within. by_place i j d lt within;
    whole = λ k h. elim (there h) [
      | inl w ↦ elim w.1 [ inl e ↦ (0, omega arith, sym e) | inr e ↦ (1, omega arith, sym e) ]
      | inr w ↦ absurd (apart w.0)
    ];
  }
    where
      by_place : (i j : ℕ) (d : NodeNumber) → i < j → j < 2 → ComesBefore (get_or (Formal 0 ∷ Own 0 ∷ []) i d) (get_or (Formal 0 ∷ Own 0 ∷ []) j d)
      by_place zero zero d lt within = absurd (omega arith)
      by_place zero (suc zero) d lt within = inl (omega arith)
      by_place zero (suc (suc j)) d lt within = absurd (omega arith)
      by_place (suc i) zero d lt within = absurd (omega arith)
      by_place (suc i) (suc zero) d lt within = absurd (omega arith)
      by_place (suc i) (suc (suc j)) d lt within = absurd (omega arith)

  pub root_nodes : IsOrderedListOf ComesBefore (Argument 0 0 ∷ []) (Numbered root)
  root_nodes = one_of ComesBefore (Numbered root) (Argument 0 0) (root_argument {r = root} {t = tiny_method} {k = 0} root_is refl given) (λ k h. elim (there h) [
    | inl w ↦ absurd (apart (sym w.0))
    | inr w ↦ sym w.1
  ])

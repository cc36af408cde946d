-- What the parts of a program keep.
use Rattle.std.proofs.Common.{◌≡◌, ◌⊎◌, ◌<◌, ◌≤◌, ◌+◌, ℕ, suc, List, [], ◌∷◌, length, map, Option, Some, None, Contains, inl, inr, refl, sym, ap, subst, ◌∙◌, arith}
use Rattle.std.specs.Prelude.{slice_get, option_map, All, AllPairs}
use Rattle.std.specs.Ordering.{nat_cmp, ordering_then}
use Rattle.std.specs.declared.cmp.Ordering.{Ordering}
use Rattle.std.specs.declared.cmp.Ordering.TheVariants.{Less, Equal}
use Rattle.std.proofs.lemmas.Bool.{cases_lt}
use Rattle.std.specs.Cmp.{nat_cmp_is}
use Rattle.std.proofs.lemmas.List.Sums.{sum_by-cons}
use Rattle.std.proofs.lemmas.Option.{same_Some, slice_get-map}
use Rattle.slicer_ids.specs.Order.{StatementBefore}
use Rattle.slicer_ids.specs.declared.ids.MethodId.{MethodId}
use Rattle.slicer_ids.specs.declared.ids.Statement.{Statement}
use Rattle.class_form.specs.Types.{IsMethodType, slots, width}
use Rattle.class_form.specs.declared.body.Body.{Body}
use Rattle.class_form.specs.declared.body.Instr.{Instr}
use Rattle.class_form.specs.declared.body.Point.{Point}
use Rattle.class_form.specs.declared.types.FieldType.{FieldType}
use Rattle.class_form.specs.declared.types.MethodType.{MethodType}
use Rattle.class_form.proofs.DescriptorsRead.{width_some}
use Rattle.class_form.proofs.Indices.{index_at, index_in, there_at}
use Rattle.dep_form.specs.declared.call_site.CallSite.{CallSite}
use Rattle.dep_form.specs.declared.rules.MethodVars.{MethodVars}
use Rattle.dep_form.specs.declared.system.System.{System}
use Rattle.dep_form.specs.Constraints.{IsMethodVars}
use Rattle.dep_form.specs.Orders.{RiseBy, statement_cmp}
use Rattle.program_form.specs.Programs.{Program, HasFormal}
use Rattle.program_form.specs.Facts.{ArgumentOf}
use Rattle.program_form.specs.Systems.{of_argument}
use Rattle.program_code.specs.Codes.{IsProgramOfCode}
use Rattle.program_code.proofs.OneInstruction.{coded_body}
use Rattle.constraint_form.specs.Asked.{IsReadProgram}
use Rattle.constraint_form.specs.Variables.{Named}
use Rattle.constraint_form.specs.ConstraintSystems.{IsConstraintSystem}
use Rattle.fact_form.proofs.ItemLists.{all_of, pair_at, pairs_of}
use Rattle.method_facts.specs.Calls.{ArePlaced, place_of, statement_or_first}
use Rattle.std.proofs.lemmas.List.Elements.{All-contains}
use Rattle.class_form.specs.declared.class_file.ClassFile.{ClassFile}
use Rattle.dep_form.specs.declared.rules.Constraint.{Constraint}
use Rattle.dep_form.specs.declared.rules.Rule.TheVariants.{Enter}
use Rattle.dep_form.proofs.WithinSystem.{rule_within}
use Rattle.fact_form.specs.EntryCalls.{IsEntered, root_of}
use Rattle.fact_form.specs.Handed.{IsProgramWith}
use Rattle.fact_form.proofs.Counting.{reached_in_range}
use Rattle.node_tables.specs.Parts.{IsGathered}
use Rattle.node_tables.specs.Scenes.{IsInOrder, IsProgramOf, IsScene}
use Rattle.node_tables.specs.declared.scene.Scene.{Scene}
use Rattle.node_tables.proofs.Calls.{compares_equal}

-- ---- orders as comparisons
pub rises : {A : Type 0} (key : A → ℕ) (xs : List A) → AllPairs (λ (a b : A). key a < key b) xs → RiseBy nat_cmp key xs
rises key xs order = λ i j d lt within. sym (nat_cmp_is _ _ Less (order i j d lt within))

statement_less : (a b : Statement) → StatementBefore a b → statement_cmp a b ≡ Less
statement_less a b (inl lt) = ap (λ (o : Ordering). ordering_then o (nat_cmp a.pc b.pc)) (sym (nat_cmp_is a.method.0 b.method.0 Less lt))
statement_less a b (inr (e, lt)) =
    ap (λ (o : Ordering). ordering_then o (nat_cmp a.pc b.pc)) (compares_equal a.method.0 b.method.0 (ap (λ (m : MethodId). m.0) e)) ∙ sym (nat_cmp_is a.pc b.pc Less lt)

-- ---- calls
module _ (p : Program) (s : System) (system : IsConstraintSystem p s) where
  abbrev ts : List Statement
  ts = system.1.calls.listed.0

  some_place : (q : Option Statement) (o : Option Statement) → option_map (λ (t : Statement). Some t) o ≡ Some q → (t : Statement) × (o ≡ Some t) × (q ≡ Some t)
  some_place q None e = absurd cc
  some_place q (Some t) e = (t, refl, sym (same_Some (Some t) q e))

  at_place : (i : ℕ) (k : CallSite) → slice_get s.calls i ≡ Some k → (t : Statement) × (slice_get ts i ≡ Some t) × (k.place ≡ Some t)
  at_place i k at =
      let place : slice_get (map (λ (k : CallSite). k.place) s.calls) i ≡ Some k.place = slice_get-map (λ (k : CallSite). k.place) s.calls i ∙ ap (λ o. option_map (λ (k : CallSite). k.place) o) at in
      let there : slice_get (map (λ (t : Statement). Some t) ts) i ≡ Some k.place = subst (λ xs. slice_get xs i ≡ Some k.place) system.1.calls.listed.2 place in
      some_place k.place (slice_get ts i) (sym (slice_get-map (λ (t : Statement). Some t) ts i) ∙ there)

  pub placed : ArePlaced s.calls
  placed = record {
    placed = all_of (λ (k : CallSite). (t : Statement) × (k.place ≡ Some t)) s.calls (λ i k e. let w = at_place i k e in (w.0, w.2));
    order = pairs_of (λ (k l : CallSite). statement_cmp (place_of k) (place_of l) ≡ Less) s.calls (λ i j k l lt e f.
        let a = at_place i k e in
        let b = at_place j l f in
        let less = statement_less a.0 b.0 (pair_at StatementBefore ts system.1.calls.listed.1.order i j a.0 b.0 lt a.1 b.1) in
        subst (λ (o : Option Statement). statement_cmp (statement_or_first o) (place_of l) ≡ Less) (sym a.2) (subst (λ (o : Option Statement). statement_cmp a.0 (statement_or_first o) ≡ Less) (sym b.2) less));
  }

  -- ---- arguments
  types_size : (types : List FieldType) → length types ≤ slots types
  types_size [] = omega arith
  types_size (t ∷ types) = omega (arith, types_size types, sum_by-cons width t types, width_some t)

  few_arguments : (m : MethodId) → HasFormal p m 256 → ⊥
  few_arguments m (d, x, name, bytes, t, method, type, inl (static, lt)) = omega (arith, lt, types_size t.arguments, type.1)
  few_arguments m (d, x, name, bytes, t, method, type, inr (instance, lt)) = omega (arith, lt, types_size t.arguments, type.1)

  pub few_formals : (m : MethodId) (v : MethodVars) → IsMethodVars s m v → length v.formals ≤ 256
  few_formals m v vars = elim (cases_lt 256 (length v.formals)) [
    | inl lt ↦
        let x = index_at v.formals 256 lt in
        let stands = system.1.variables.numbers (ArgumentOf m 256) x.0 (of_argument vars x.1) in
        absurd (few_arguments m (system.1.variables.named (ArgumentOf m 256) (there_at system.0 x.0.0 (Named (ArgumentOf m 256)) stands)))
    | inr le ↦ le
  ]

-- ---- bodies
module _ (p : Program) (asked : IsReadProgram p) (coded : IsProgramOfCode p) where
  in_order : (b : Body) → Contains p.bodies b → IsInOrder b
  in_order b c =
      let is = (coded_body p coded b c).is in
      record { instrs = rises (λ (i : Instr). i.pc) b.instrs (asked.instructions b c); points = rises (λ (t : Point). t.pc) b.shape.points is.shape.2.depths.2.order }

  pub bodies_rise : RiseBy nat_cmp (λ (b : Body). b.method.0) p.bodies
  bodies_rise = rises (λ (b : Body). b.method.0) p.bodies asked.bodies

  pub bodies_ordered : All IsInOrder p.bodies
  bodies_ordered = all_of IsInOrder p.bodies (λ i b e. in_order b (there_at p.bodies i b e))

-- ---- parts that were gathered
entered_in_range : (p : Program) (s : System) (t : MethodId) → IsEntered p s t → t.0 < length s.methods
entered_in_range p s t (inl among) =
    let e : Constraint = record { method = root_of s; rule = Enter t } in
    let i = index_in s.constraints e among in
    rule_within s i.0 e i.1
entered_in_range p s t (inr (reached, is)) = reached_in_range s t reached

module _ (classes : List ClassFile) (x : Scene) (gathered : IsGathered classes x) (p : Program) (is : IsProgramWith classes x.bodies.now x.system.now p) where
  pub program_is : IsProgramOf x p
  program_is = record {
    bodies = is.bodies_are;
    asked = is.asked;
    coded = is.coded;
    constraints = is.constraints;
    entry_calls = gathered.entries p is.classes_are is.coded;
    answers = gathered.answering.each p is.classes_are is.asked is.coded;
  }

  pub scene_is : IsScene x
  scene_is = record {
    solved = gathered.solved;
    effects = gathered.effects;
    small = gathered.small;
    placed = placed p x.system.now is.constraints;
    formals = few_formals p x.system.now is.constraints;
    bodies = subst (λ (bs : List Body). RiseBy nat_cmp (λ (b : Body). b.method.0) bs) is.bodies_are (bodies_rise p is.asked is.coded);
    ordered = subst (λ (bs : List Body). All IsInOrder bs) is.bodies_are (bodies_ordered p is.asked is.coded);
    answering = gathered.answering.size;
    few_entries = gathered.few;
    entered = all_of (λ (t : MethodId). t.0 < length x.system.now.methods) x.entries.now (λ i t e.
        let entries = gathered.entries p is.classes_are is.coded in
        entered_in_range p x.system.now t (All-contains (IsEntered p x.system.now) x.entries.now t entries.each (there_at x.entries.now i t e)));
    given = gathered.given.size;
    gives = gathered.given.each;
  }

-- The facts are those of the least program without arguments.
use Rattle.std.proofs.Common.{◌≡◌, ◌<◌, ◌⊎◌, ℕ, zero, suc, List, [], ◌∷◌, ◌++◌, length, get_or, replicate, Option, Some, None, Contains, refl, sym, subst, ap, ◌∙◌, inl, inr, arith}
use Rattle.std.specs.Prelude.{slice_get, codes, AllPairs}
use Rattle.std.proofs.lemmas.Bool.{false≢true, cases_eq}
use Rattle.std.proofs.lemmas.Option.{same_Some}
use Rattle.std.proofs.lemmas.List.Elements.{All-cons}
use Rattle.std.proofs.lemmas.List.{append-nil}
use Rattle.std.proofs.Common.{append_assoc}
use Rattle.slicer_ids.specs.Sets.{IsOrderedListOf}
use Rattle.slicer_ids.specs.Order.{StatementBefore}
use Rattle.slicer_ids.specs.declared.ids.MethodId.{MethodId}
use Rattle.slicer_ids.specs.declared.ids.SiteId.{SiteId}
use Rattle.slicer_ids.specs.declared.ids.NodeId.{NodeId}
use Rattle.slicer_ids.specs.declared.ids.Statement.{Statement}
use Rattle.class_form.specs.Opcodes.{IsThrow, IsValueReturn, IsPutField, IsArrayStore, IsPutStatic, IsNewArray, IsMultiNewArray, IsGetField, IsArrayLoad, IsArrayLength, IsGetStatic}
use Rattle.std.specs.List.{AllByRecursion}
use Rattle.class_form.specs.Types.{IsMethodType, spell_type, spell_types, spell_result, spell_base, IsBase, IsResult, IsType}
use Rattle.class_form.specs.Classes.{Declared, IsClass, IsStatic, class_name}
use Rattle.class_form.specs.declared.body.Body.{Body}
use Rattle.class_form.specs.declared.body.Instr.{Instr}
use Rattle.class_form.specs.declared.body.Point.{Point}
use Rattle.class_form.specs.declared.class_file.ClassFile.{ClassFile}
use Rattle.class_form.specs.declared.class_file.Member.{Member}
use Rattle.class_form.specs.declared.class_file.CodeBody.{CodeBody}
use Rattle.class_form.specs.declared.types.FieldType.{FieldType}
use Rattle.class_form.specs.declared.types.MethodType.{MethodType}
use Rattle.class_form.specs.declared.types.BaseType.{BaseType}
use Rattle.class_form.specs.declared.types.BaseType.TheVariants.{Primitive, Class as OfClass}
use Rattle.dep_form.specs.declared.rules.Entry.{Entry}
use Rattle.dep_form.specs.declared.node.Node.{Node as NodeNumber}
use Rattle.dep_form.specs.declared.node.Node.TheVariants as number
use Rattle.dep_form.specs.declared.node.Edge.{Edge}
use Rattle.dep_form.specs.declared.input.MethodInput.{MethodInput}
use Rattle.dep_form.specs.declared.texts.MethodText.{MethodText}
use Rattle.dep_form.specs.Nodes.{ComesBefore}
use Rattle.dep_form.specs.Inputs.{IsInputOf, IsNode as IsNodeNumber}
use Rattle.dep_form.specs.Slices.{FullEdges}
use Rattle.dep_form.specs.LookUps.{IsStatementOf, HasLine}
use Rattle.dep_form.specs.PointsTo.{Reached, Has, Calls, OutsideAt}
use Rattle.program_form.specs.Programs.{IsRoot, HasFormal, TypeOf, MethodOf, CodeOf}
use Rattle.program_form.specs.Lines.{IsLineOf, IsLine, line_pairs}
use Rattle.program_form.specs.Sites.{Site, Made, OfRoot, HasType, SiteBefore, of_arguments, of_argument}
use Rattle.program_form.specs.Facts.{Variable, Holds}
use Rattle.program_form.specs.Effects.{Location, IsStatement, IsReached, IsTraced, Defines, field, element, static, array_length, dimension_length, dimension_elements, outside, ResultDefines, fresh_length, fresh_elements}
use Rattle.program_form.specs.Nodes.{Kind, Own, Node, node, at, IsNode, formal, heap_in, own, argument, result, exception, heap_arg, heap_result, returned, thrown, heap_out, root_argument, root_heap_arg, root_heap_result}
use Rattle.class_form.specs.declared.body.SlotUse.{SlotUse}
use Rattle.class_form.specs.declared.body.Def.{Def}
use Rattle.program_form.specs.Effects.{Uses, length_of}
use Rattle.program_form.specs.Dependences.{Caller, Dependence, Takes, DefinesAt, UsesAt, by_statement, by_result, by_callee, HeapFlow, within as flows_within, on_entry, on_exit, ExitFlow, returns, throws, passes_on, OutsideFlow, to_result, to_call, RootFlow, again, CallFlow, argument as gives_argument, location, ReturnFlow, answer, exception as gives_exception, OtherFlow, DependsOn, producer, base as at_base, other, into, back, FullyDependsOn, operand}
use Rattle.class_form.specs.declared.class_file.Attribute.{Attribute}
use Rattle.class_form.specs.declared.class_file.Content.TheVariants.{Code}
use Rattle.std.proofs.Common.{length-append}
use Rattle.dep_form.specs.declared.texts.SiteName.{SiteName}
use Rattle.program_form.specs.Programs.{ClassOf}
use Rattle.std.proofs.Common.{◌≢◌}
use Rattle.program_form.specs.Values.{IsAccess, IsAccessOpcode, ValueMayBe, made, passed_on, given, thrown as raised}
use Rattle.program_form.specs.Graphs.{AreFactsOf, Numbering, NumberOf, IsSiteName, KindNumber, own as own_number}
use Rattle.program_form.specs.Systems.{SiteNumber}
use Rattle.program_form.specs.Tiny.{quiet_class, quiet_entry, tiny_method, tiny_body, tiny_instruction, tiny_point, tiny_member, tiny_code}
use Rattle.program_form.proofs.Tiny.{single, never, method_place}
use Rattle.program_form.proofs.Quiet.{p, class_place, is_main, no_call, typed, strings, string, known, reached_holds}
use Rattle.program_form.proofs.QuietFacts.{all_none, pairs_none, pairs_one, main_input, root_input, inputs, input_at, no_edge, only_node, main_text, class_names, site_names, quiet_facts}
use Rattle.slicer_ids.proofs.Ordered.{one_ordered}

abbrev IsSiteOf : Site → Type 0
IsSiteOf g = (t : FieldType) × HasType p g t

abbrev sites : List Site
sites = OfRoot 0 ∷ OfRoot 1 ∷ []

-- the root's sites are apart
asym : (a b : Site) → IsSiteOf a → IsSiteOf b → SiteBefore a b → SiteBefore b a → ⊥
asym (OfRoot i) (OfRoot j) x y p q = omega (arith, p, q)
asym (OfRoot i) (Made t j) x y p q = p
asym (Made s k) b x y p q = elim (typed x.1) [ inl e ↦ absurd (cc e.0) | inr e ↦ absurd (cc e.0) ]

are_sites : IsOrderedListOf SiteBefore sites IsSiteOf
are_sites = record {
  each = All-cons IsSiteOf (OfRoot 0) (OfRoot 1 ∷ []) (strings, of_arguments refl) (All-cons IsSiteOf (OfRoot 1) [] (string, of_argument refl) (all_none IsSiteOf));
  order = λ i j d lt within. by_place i j d lt within;
  whole = λ g h. elim (typed h.1) [
    | inl e ↦ subst (λ x. Contains sites x) (sym e.0) (0, omega arith, refl)
    | inr e ↦ subst (λ x. Contains sites x) (sym e.0) (1, omega arith, refl)
  ];
}
  where
    by_place : (i j : ℕ) (d : Site) → i < j → j < 2 → SiteBefore (get_or sites i d) (get_or sites j d)
    by_place zero zero d lt within = absurd (omega arith)
    by_place zero (suc zero) d lt within = omega arith
    by_place zero (suc (suc j)) d lt within = absurd (omega arith)
    by_place (suc i) zero d lt within = absurd (omega arith)
    by_place (suc i) (suc zero) d lt within = absurd (omega arith)
    by_place (suc i) (suc (suc j)) d lt within = absurd (omega arith)

pub numbered_site : (n : ℕ) (h : Site) → slice_get sites n ≡ Some h → SiteNumber p (record { 0 = n }) h
numbered_site n h at = (sites, are_sites, at)

at_place : (n : ℕ) (h : Site) → slice_get sites n ≡ Some h → ((n ≡ 0) × (h ≡ OfRoot 0)) ⊎ ((n ≡ 1) × (h ≡ OfRoot 1))
at_place zero h e = inl (refl, same_Some h (OfRoot 0) (sym e))
at_place (suc zero) h e = inr (refl, same_Some h (OfRoot 1) (sym e))
at_place (suc (suc n)) h e = absurd cc

-- a number of a site is 0 or 1
pub which : (n : SiteId) (h : Site) → SiteNumber p n h → ((n.0 ≡ 0) × (h ≡ OfRoot 0)) ⊎ ((n.0 ≡ 1) × (h ≡ OfRoot 1))
which n h s = at_place n.0 h (subst (λ hs. slice_get hs n.0 ≡ Some h) (one_ordered SiteBefore IsSiteOf s.0 sites asym s.1 are_sites) s.2)

-- no variable may be anything
nothing : (v : Variable) (h : Site) → Holds p (Has v h) → ⊥
nothing v h k = elim (known (Has v h) k) [ inl e ↦ absurd (cc e) | inr e ↦ absurd (cc e) ]

no_calls : (s : Statement) (t : MethodId) → Holds p (Calls s t) → ⊥
no_calls s t k = elim (known (Calls s t) k) [ inl e ↦ absurd (cc e) | inr e ↦ absurd (cc e) ]

is_reached : (m : MethodId) → Holds p (Reached m) → m ≡ tiny_method
is_reached m k = elim (known (Reached m) k) [ inl e ↦ (let q : m ≡ tiny_method = cc e in q) | inr e ↦ absurd (cc e) ]

no_defines : {t : Statement} {l : Location} → Defines p t l → ⊥
no_defines {t} (field f r a o) = never t IsPutField (λ k. omega (arith, k)) r.1
no_defines {t} (element r o) = never t IsArrayStore (λ k. omega (arith, k.0, k.1)) r.1
no_defines {t} (static r v) = never t IsPutStatic (λ k. omega (arith, k)) r.1
no_defines {t} (array_length r) = never t IsNewArray (λ k. omega (arith, k.0, k.1)) r.1
no_defines {t} (dimension_length r x) = never t IsMultiNewArray (λ k. omega (arith, k)) r.1
no_defines {t} (dimension_elements r x) = never t IsMultiNewArray (λ k. omega (arith, k)) r.1
no_defines {t} (outside r w) = no_call t r.1

no_fresh : {t : Statement} {l : Location} → ResultDefines p t l → ⊥
no_fresh {t} (fresh_length r g x lt) = no_call t r.1
no_fresh {t} (fresh_elements r g x lt) = no_call t r.1

untraced : (l : Location) → IsTraced p l → ⊥
untraced l h = elim h.0.1 [ inl d ↦ no_defines d | inr d ↦ no_fresh d ]

-- the letters that a type begins with
begins : (t : FieldType) (xs ys : List ℕ) (n : ℕ) → IsBase t.base → spell_type t ++ xs ≡ n ∷ ys → (n ≡ 41 → ⊥) × (n ≡ 86 → ⊥)
begins t xs ys n base e = by_dims t.dims t.base base e
  where
    by_base : (b : BaseType) → IsBase b → spell_base b ++ xs ≡ n ∷ ys → (n ≡ 41 → ⊥) × (n ≡ 86 → ⊥)
    by_base (OfClass name) c e = let h : 76 ≡ n = ap (λ (zs : List ℕ). get_or zs 0 0) e in (λ k. omega (arith, h, k), λ k. omega (arith, h, k))
    by_base (Primitive l) c e =
        let h : l ≡ n = ap (λ (zs : List ℕ). get_or zs 0 0) e in
        (λ k. letter l c (inl (h ∙ k)), λ k. letter l c (inr (h ∙ k)))
      where
        letter : (l : ℕ) → Contains (66 ∷ 67 ∷ 68 ∷ 70 ∷ 73 ∷ 74 ∷ 83 ∷ 90 ∷ []) l → (l ≡ 41) ⊎ (l ≡ 86) → ⊥
        letter l (zero, h, e) o = elim o [ inl q ↦ omega (arith, e, q) | inr q ↦ omega (arith, e, q) ]
        letter l (suc zero, h, e) o = elim o [ inl q ↦ omega (arith, e, q) | inr q ↦ omega (arith, e, q) ]
        letter l (suc (suc zero), h, e) o = elim o [ inl q ↦ omega (arith, e, q) | inr q ↦ omega (arith, e, q) ]
        letter l (suc (suc (suc zero)), h, e) o = elim o [ inl q ↦ omega (arith, e, q) | inr q ↦ omega (arith, e, q) ]
        letter l (suc (suc (suc (suc zero))), h, e) o = elim o [ inl q ↦ omega (arith, e, q) | inr q ↦ omega (arith, e, q) ]
        letter l (suc (suc (suc (suc (suc zero)))), h, e) o = elim o [ inl q ↦ omega (arith, e, q) | inr q ↦ omega (arith, e, q) ]
        letter l (suc (suc (suc (suc (suc (suc zero))))), h, e) o = elim o [ inl q ↦ omega (arith, e, q) | inr q ↦ omega (arith, e, q) ]
        letter l (suc (suc (suc (suc (suc (suc (suc zero)))))), h, e) o = elim o [ inl q ↦ omega (arith, e, q) | inr q ↦ omega (arith, e, q) ]
        letter l (suc (suc (suc (suc (suc (suc (suc (suc k))))))), h, e) o = omega (arith, h)

    by_dims : (d : ℕ) (b : BaseType) → IsBase b → (replicate d 91 ++ spell_base b) ++ xs ≡ n ∷ ys → (n ≡ 41 → ⊥) × (n ≡ 86 → ⊥)
    by_dims zero b c e = by_base b c e
    by_dims (suc d) b c e = let h : 91 ≡ n = ap (λ (zs : List ℕ). get_or zs 0 0) e in (λ k. omega (arith, h, k), λ k. omega (arith, h, k))

cons_tail : (x y : ℕ) (xs ys : List ℕ) → x ∷ xs ≡ y ∷ ys → xs ≡ ys
cons_tail x y xs ys e = cc e

-- `()V` spells the type without arguments and result alone
void_of : (as' : List FieldType) (r : Option FieldType) → AllByRecursion IsType as' → IsResult r → 41 ∷ 86 ∷ [] ≡ spell_types as' ++ (41 ∷ spell_result r) → (as' ≡ []) × (r ≡ None)
void_of [] None b c e = (refl, refl)
void_of [] (Some u) b c e = absurd ((begins u [] [] 86 c.0 (append-nil (spell_type u) ∙ sym (cons_tail 41 41 (86 ∷ []) (spell_type u) e))).1 refl)
void_of (u ∷ us) r b c e = absurd ((begins u (spell_types us ++ (41 ∷ spell_result r)) (86 ∷ []) 41 b.0.0 (sym (e ∙ append_assoc (spell_type u) (spell_types us) (41 ∷ spell_result r)))).0 refl)

void : (t : MethodType) → IsMethodType (codes "()V") t → (t.arguments ≡ []) × (t.result ≡ None)
void t h = void_of t.arguments t.result h.0 h.2 (cons_tail 40 40 (41 ∷ 86 ∷ []) (spell_types t.arguments ++ (41 ∷ spell_result t.result)) h.3)

static_main : IsStatic 9
static_main = λ e. omega (arith, e)

no_formal : (m : MethodId) (i : ℕ) → HasFormal p m i → ⊥
no_formal m i h =
    let about = is_main m h.0 h.1 h.2 h.3 h.5 in
    let none = void h.4 (subst (λ b. IsMethodType b h.4) about.2 h.6) in
    elim h.7 [
      | inl a ↦ omega (arith, a.1, ap (λ (xs : List FieldType). length xs) none.0)
      | inr b ↦ b.0 (subst (λ (x : Member). IsStatic x.flags) (sym about.0) static_main)
    ]

no_answer : (m : MethodId) (t : MethodType) (u : FieldType) → TypeOf p m t → t.result ≡ Some u → ⊥
no_answer m t u h e =
    let about = is_main m h.0 h.1 h.2 h.3 h.4 in
    let none = void t (subst (λ b. IsMethodType b t) about.2 h.5) in
    absurd (cc (sym none.1 ∙ e))

-- the only statement
the_statement : (s : Statement) → IsStatement p s → s ≡ at tiny_method 0
the_statement s h =
    let body = single tiny_body h.1.0 h.1.2.0 in
    let method : tiny_method ≡ s.method = subst (λ (b : Body). b.method ≡ s.method) (sym body) h.1.2.1 in
    let instruction = single tiny_instruction h.1.1 (subst (λ (b : Body). Contains b.instrs h.1.1) (sym body) h.1.2.2) in
    let pc : 0 ≡ s.pc = subst (λ (i : Instr). i.pc ≡ s.pc) (sym instruction) h.1.2.3 in
    ap (λ m. at m s.pc) (sym method) ∙ ap (λ k. at tiny_method k) (sym pc)

is_statement : IsStatement p (at tiny_method 0)
is_statement = (reached_holds, (tiny_body, tiny_instruction, ((0, omega arith, refl), refl, (0, omega arith, refl), refl, (tiny_point, ((0, omega arith, refl), refl))), tt))

-- the only node
the_node : {a : Node} → IsNode p a → a ≡ node tiny_method (Own 0)
the_node (formal {m} {i} r f) = absurd (no_formal m i f)
the_node (heap_in {l} r f) = absurd (untraced l f.0)
the_node (own {m} {pc} s) = ap (λ (x : Statement). node x.method (Own x.pc)) (the_statement (at m pc) s)
the_node (argument {m} {pc} s h) = absurd (no_call (at m pc) s.1)
the_node (result {m} {pc} t s h e) = absurd (no_call (at m pc) s.1)
the_node (exception {m} {pc} s h) = absurd (no_call (at m pc) s.1)
the_node (heap_arg {m} {pc} {t} h f) = absurd (no_calls (at m pc) t h)
the_node (heap_result {m} {pc} {t} h f) = absurd (no_calls (at m pc) t h)
the_node (returned {m} t {u} r h e) = absurd (no_answer m t u h e)
the_node (thrown r h) = absurd (nothing _ _ h)
the_node (heap_out {l} r f) = absurd (untraced l f.0)
the_node (root_argument r k g) = absurd (false≢true (ap (λ (x : Entry). x.arguments) (single quiet_entry g.0 g.1) ∙ g.3))
the_node (root_heap_arg {l} r k f) = absurd (untraced l f.0)
the_node (root_heap_result {l} r k f) = absurd (untraced l f.0)

-- an operand: there is none
no_operand : (s : Statement) (u : SlotUse) (d : Def) → Takes p s u d → ⊥
no_operand s u d h =
    let body = single tiny_body h.0 h.3.0 in
    let points : Contains (tiny_point ∷ []) h.2 = subst (λ (b : Body). Contains b.shape.points h.2) (sym body) h.4.0 in
    let uses : Contains [] u = subst (λ (t : Point). Contains t.uses u) (sym (single tiny_point h.2 points)) h.5 in
    omega (arith, uses.1)

-- a node of another kind is none
other_kind : {m : MethodId} {k : Kind} {P : Type 0} → (k ≡ Own 0 → ⊥) → IsNode p (node m k) → P
other_kind not n = absurd (not (ap (λ (a : Node). a.kind) (the_node n)))

no_use : {t : Statement} {l : Location} → Uses p t l → ⊥
no_use {t} (field f r a o) = never t IsGetField (λ k. omega (arith, k)) r.1
no_use {t} (element r o) = never t IsArrayLoad (λ k. omega (arith, k.0, k.1)) r.1
no_use {t} (length_of r o) = never t IsArrayLength (λ k. omega (arith, k)) r.1
no_use {t} (static r v) = never t IsGetStatic (λ k. omega (arith, k)) r.1
no_use {t} (outside r w) = no_call t r.1

no_definition : {m : MethodId} {pc : ℕ} {l : Location} {x : Node} → DefinesAt p m pc l x → ⊥
no_definition (by_statement d) = no_defines d
no_definition (by_result d) = no_fresh d
no_definition (by_callee n) = other_kind (λ e. absurd (cc e)) n

no_use_at : {m : MethodId} {pc : ℕ} {l : Location} {x : Node} → UsesAt p m pc l x → ⊥
no_use_at (by_statement d) = no_use d
no_use_at {m} {pc} (by_result d) = no_call (at m pc) d.2.1
no_use_at (by_callee n) = other_kind (λ e. absurd (cc e)) n

no_heap : {a b : Node} → HeapFlow p a b → ⊥
no_heap (flows_within d u c) = no_definition d
no_heap (on_entry u) = no_use_at u
no_heap (on_exit d) = no_definition d

no_exit_flow : {a b : Node} → ExitFlow p a b → ⊥
no_exit_flow (returns {m} {pc} s) = never (at m pc) IsValueReturn (λ k. omega (arith, k.0, k.1)) s.1
no_exit_flow (throws {m} {pc} s l) = never (at m pc) IsThrow (λ k. omega (arith, k)) s.1
no_exit_flow (passes_on {m} {pc} s l) = no_call (at m pc) s.1

no_outside : {a b : Node} → OutsideFlow p a b → ⊥
no_outside (to_result {m} {pc} g) = elim (known (OutsideAt (at m pc) g.0) g.1) [ inl e ↦ absurd (cc e) | inr e ↦ absurd (cc e) ]
no_outside (to_call {m} {pc} g r c) = elim (known (OutsideAt (at m pc) g.0) g.1) [ inl e ↦ absurd (cc e) | inr e ↦ absurd (cc e) ]

no_root : {a b : Node} → IsNode p a → RootFlow p a b → ⊥
no_root n (again r) = other_kind (λ e. absurd (cc e)) n

no_other : {a b : Node} → IsNode p a → OtherFlow p a b → ⊥
no_other n (inl h) = no_heap h
no_other n (inr (inl h)) = no_exit_flow h
no_other n (inr (inr (inl h))) = no_outside h
no_other n (inr (inr (inr h))) = no_root n h

no_into : {c : Caller} {a b : Node} → IsNode p b → CallFlow p c a b → ⊥
no_into n (gives_argument g) = other_kind (λ e. absurd (cc e)) n
no_into n (location g) = other_kind (λ e. absurd (cc e)) n

no_back : {c : Caller} {a b : Node} → IsNode p a → ReturnFlow p c a b → ⊥
no_back n (answer g) = other_kind (λ e. absurd (cc e)) n
no_back n (gives_exception g) = other_kind (λ e. absurd (cc e)) n
no_back n (location g) = other_kind (λ e. absurd (cc e)) n

no_dependence : {a b : Node} {d : Dependence} → DependsOn p a b d → ⊥
no_dependence (producer {u} n m o x) = no_operand o.0 u o.1 o.2
no_dependence (at_base {u} n m o x) = no_operand o.0 u o.1 o.2
no_dependence (other n m o) = no_other n o
no_dependence (into n m c) = no_into m c
no_dependence (back n m c) = no_back n c

no_full_dependence : {a b : Node} {d : Dependence} → FullyDependsOn p a b d → ⊥
no_full_dependence (operand {u} n m o) = no_operand o.0 u o.1 o.2
no_full_dependence (other n m o) = no_other n o
no_full_dependence (into n m c) = no_into m c
no_full_dependence (back n m c) = no_back n c

-- ---- texts, lines and sites
text_at : (m : ℕ) (t : MethodText) → slice_get quiet_facts.methods m ≡ Some t → (m ≡ 0) × (t ≡ main_text)
text_at zero t e = (refl, same_Some t main_text (sym e))
text_at (suc m) t e = absurd cc

line_at : (k : ℕ) (x : ℕ × Option ℕ) → slice_get main_text.lines k ≡ Some x → x ≡ (0, None)
line_at zero x e = same_Some x (0, None) (sym e)
line_at (suc k) x e = absurd cc

-- a statement of the facts is that one, and has no line
listed : (s : Statement) → IsStatementOf quiet_facts.methods s → s ≡ at tiny_method 0
listed s h =
    let text = text_at s.method.0 h.0 h.1 in
    let lines : slice_get main_text.lines h.2.0 ≡ Some h.2.1 = subst (λ (t : MethodText). slice_get t.lines h.2.0 ≡ Some h.2.1) text.1 h.2.2 in
    let pc : 0 ≡ s.pc = ap (λ (x : ℕ × Option ℕ). x.0) (sym (line_at h.2.0 h.2.1 lines)) ∙ h.2.3 in
    ap (λ (k : ℕ). at (record { 0 = k }) s.pc) text.0 ∙ ap (λ k. at tiny_method k) (sym pc)

no_line : (s : Statement) (line : Option ℕ) → HasLine quiet_facts s line → line ≡ None
no_line s line h =
    let text = text_at s.method.0 h.0 h.1 in
    let lines : slice_get main_text.lines h.2.0 ≡ Some h.2.1 = subst (λ (t : MethodText). slice_get t.lines h.2.0 ≡ Some h.2.1) text.1 h.2.2 in
    sym h.2.4 ∙ ap (λ (x : ℕ × Option ℕ). x.1) (line_at h.2.0 h.2.1 lines)

-- the code has no line table
code_of : (m : MethodId) (c : CodeBody) → CodeOf p m c → c ≡ tiny_code
code_of m c h =
    let member = (is_main m h.0 h.1 h.2 h.3 h.4).0 in
    let attribute = h.5.0 in
    let there : Contains tiny_member.attributes attribute = subst (λ (x : Member). Contains x.attributes attribute) member h.5.1 in
    let content = ap (λ (a : Attribute). a.content) (single (record { name = 5; content = Code tiny_code }) attribute there) ∙ h.5.2 in
    cc content

no_line_of : (s : Statement) (line : ℕ) → IsLineOf p s (Some line) → ⊥
no_line_of s line h =
    let pairs = subst (λ (c : CodeBody). IsLine (line_pairs c.attributes) s.pc (Some line)) (code_of s.method h.0 h.1) h.2 in
    omega (arith, ap (λ (xs : List (ℕ × ℕ)). length xs) pairs.3, length-append pairs.0 ((pairs.1, line) ∷ pairs.2))

main_code : CodeOf p tiny_method tiny_code
main_code = (record { class = 0; index = 0 }, tiny_member, codes "main", codes "()V", (refl, (quiet_class, refl, (refl, refl, refl))), (record { name = 5; content = Code tiny_code }, (0, omega arith, refl), refl))

lines_agree : (s : Statement) (line : Option ℕ) → IsStatement p s → (HasLine quiet_facts s line → IsLineOf p s line) × (IsLineOf p s line → HasLine quiet_facts s line)
lines_agree s line st = (λ h. to line (no_line s line h), λ h. from line h)
  where
    is : at tiny_method 0 ≡ s
    is = sym (the_statement s st)

    to : (line : Option ℕ) → line ≡ None → IsLineOf p s line
    to line e = subst (IsLineOf p s) (sym e) (subst (λ x. IsLineOf p x None) is (tiny_code, main_code, λ x c. absurd (omega (arith, c.1))))

    from : (line : Option ℕ) → IsLineOf p s line → HasLine quiet_facts s line
    from None h = subst (λ x. HasLine quiet_facts x None) is (main_text, refl, (0, (0, None), refl, refl, refl))
    from (Some l) h = absurd (no_line_of s l h)

two_numbers : (n : SiteId) → n.0 < 2 → (h : Site) × SiteNumber p n h
two_numbers n lt = elim (cases_eq n.0 0) [
  | inl e ↦ (OfRoot 0, subst (λ m. SiteNumber p m (OfRoot 0)) (ap (λ (k : ℕ). record { 0 = k }) (sym e)) (numbered_site 0 (OfRoot 0) refl))
  | inr e ↦ let one : 1 ≡ n.0 = omega arith in (OfRoot 1, subst (λ m. SiteNumber p m (OfRoot 1)) (ap (λ (k : ℕ). record { 0 = k }) one) (numbered_site 1 (OfRoot 1) refl))
]

named_site : (n : ℕ) (h : Site) (x : SiteName) → ((n ≡ 0) × (h ≡ OfRoot 0)) ⊎ ((n ≡ 1) × (h ≡ OfRoot 1)) → slice_get site_names n ≡ Some x → IsSiteName p h x
named_site zero h x (inl w) e =
    let is = same_Some (record { class = codes "[Ljava/lang/String;"; place = None; k = 0 }) x e in
    subst (λ g. IsSiteName p g x) (sym w.1) (subst (IsSiteName p (OfRoot 0)) is ((strings, of_arguments refl, refl), (refl, refl)))
named_site zero h x (inr w) e = absurd (omega (arith, w.0))
named_site (suc zero) h x (inl w) e = absurd (omega (arith, w.0))
named_site (suc zero) h x (inr w) e =
    let is = same_Some (record { class = codes "java/lang/String"; place = None; k = 1 }) x e in
    subst (λ g. IsSiteName p g x) (sym w.1) (subst (IsSiteName p (OfRoot 1)) is ((string, of_argument refl, refl), (refl, refl)))
named_site (suc (suc n)) h x w e = absurd cc

abbrev pub numbering : Numbering
numbering = record { locations = []; calls = [] }

the_number : NumberOf numbering quiet_facts (node tiny_method (Own 0)) (record { 0 = 0 })
the_number = (number.Own 0, (main_input, refl, (omega arith, refl)), own_number)

no_value : (s : Statement) (h : Site) → ValueMayBe p s h → ⊥
no_value s h (made st k) = nothing _ h k
no_value s h (passed_on st o) = nothing _ h o.2
no_value s h (given st a o) = nothing _ h o.2
no_value s h (raised st k) = nothing _ h k

no_plain_edge : (e : Edge) → FullEdges inputs e → ⊥
no_plain_edge e h = no_edge h.0 h.1

no_access : (s : Statement) → IsAccess p s → ⊥
no_access s h = never s IsAccessOpcode (λ k. elim k [
  | inl a ↦ omega (arith, a)
  | inr b ↦ elim b [
    | inl a ↦ omega (arith, a)
    | inr c ↦ elim c [ inl a ↦ omega (arith, a.0, a.1) | inr d ↦ elim d [ inl a ↦ omega (arith, a.0, a.1) | inr a ↦ omega (arith, a) ] ]
  ]
]) h.1

no_item : {A : Type 0} (x : A) → Contains [] x → ⊥
no_item x c = omega (arith, c.1)

has_input : (m : MethodId) → ((i : MethodInput) × IsInputOf inputs m i → IsReached p m ⊎ IsRoot p m) × (IsReached p m ⊎ IsRoot p m → (i : MethodInput) × IsInputOf inputs m i)
has_input m = (
  λ h. elim (input_at m.0 (Some h.0) h.1) [
    | inl w ↦ inl (subst (λ (k : ℕ). IsReached p (record { 0 = k })) (sym w.0) reached_holds)
    | inr w ↦ inr w.0
  ],
  elim [
    | inl r ↦ (main_input, subst (λ x. IsInputOf inputs x main_input) (sym (is_reached m r)) refl)
    | inr r ↦ (root_input, subst (λ (k : ℕ). slice_get inputs k ≡ Some (Some root_input)) (sym r) refl)
  ],
)

in_order : (m : MethodId) (i : MethodInput) → IsInputOf inputs m i → AllPairs ComesBefore i.nodes
in_order m i e = elim (input_at m.0 (Some i) e) [
  | inl w ↦ subst (λ (x : MethodInput). AllPairs ComesBefore x.nodes) (sym (same_Some i main_input w.1)) (pairs_one ComesBefore (number.Own 0))
  | inr w ↦ subst (λ (x : MethodInput). AllPairs ComesBefore x.nodes) (sym (same_Some i root_input w.1)) (pairs_none ComesBefore)
]

named_node : (n : NodeId) (m : MethodId) (k : NodeNumber) → IsNodeNumber inputs n m k → (kind : Kind) × KindNumber numbering kind k × IsNode p (node m kind)
named_node n m k h =
    let e = only_node n m k h in
    (Own 0, subst (KindNumber numbering (Own 0)) (sym e.2) own_number, subst (λ (j : ℕ). IsNode p (node (record { 0 = j }) (Own 0))) (sym e.1) (own is_statement))

class_named : (c : ℕ) (k : ClassFile) → IsClass p.classes c k → (name : List ℕ) × (class_name k ≡ Some name) × (slice_get class_names c ≡ Some name)
class_named c k h =
    let e = class_place c k h in
    (codes "java/lang/Object", subst (λ (x : ClassFile). class_name x ≡ Some (codes "java/lang/Object")) (sym e.1) refl, subst (λ j. slice_get class_names j ≡ Some (codes "java/lang/Object")) (sym e.0) refl)

text_of : (m : MethodId) (d : Declared) (x : Member) (name descriptor : List ℕ) → MethodOf p m d x name descriptor →
    (t : MethodText) × (slice_get quiet_facts.methods m.0 ≡ Some t) × (t.class.0 ≡ d.class) × (t.name ≡ name) × (t.descriptor ≡ descriptor)
text_of m d x name descriptor h =
    let about = is_main m d x name descriptor h in
    let place = method_place m.0 d h.0 in
    (main_text, subst (λ j. slice_get quiet_facts.methods j ≡ Some main_text) (sym place.0) refl, ap (λ (y : Declared). y.class) (sym place.1), sym about.1, sym about.2)

pub quiet_tie : AreFactsOf p numbering quiet_facts
quiet_tie = record {
  locations = record { each = all_none (IsTraced p); once = pairs_none (λ (a b : Location). a ≢ b); whole = λ l h. absurd (untraced l h) };
  methods = refl;
  inputs = has_input;
  order = in_order;
  numbered = λ a n. (record { 0 = 0 }, subst (λ x. NumberOf numbering quiet_facts x (record { 0 = 0 })) (sym (the_node n)) the_number);
  named = named_node;
  edges = λ a b d x y l na nb nl. (λ h. absurd (no_dependence h), λ h. absurd (no_edge _ h));
  full_edges = λ a b d x y l na nb nl. (λ h. absurd (no_full_dependence h), λ h. absurd (no_plain_edge _ h));
  labelled = λ a b d h. absurd (no_dependence h);
  labels = λ e h. absurd (no_edge e h);
  calls = pairs_none (λ (a b : Caller). a ≢ b);
  accesses = λ s. (λ h. absurd (no_item _ h.1), λ h. absurd (no_access s h));
  objects = λ s a c. absurd (no_item _ c);
  object_sites = λ s a c. absurd (no_item _ c);
  values = λ s hs c. absurd (no_item _ c);
  valued = λ s h v. absurd (no_value s h v);
  class_count = refl;
  classes = class_named;
  texts = text_of;
  statements = λ s. (λ h. subst (IsStatementOf quiet_facts.methods) (sym (the_statement s h)) (main_text, refl, (0, (0, None), refl, refl)), λ h. subst (IsStatement p) (sym (listed s h)) is_statement);
  lines = lines_agree;
  at_lines = λ c line ss h. elim h [
    | inl a ↦ absurd (cc a.2)
    | inr b ↦ subst (λ xs. IsOrderedListOf StatementBefore xs (λ s. IsStatement p s × IsLineOf p s (Some line) × ((k : ClassFile) × ClassOf p s.method c.0 k))) (sym b.0)
        (record { each = all_none _; order = pairs_none StatementBefore; whole = λ s q. absurd (no_line_of s line q.1) })
  ];
  sites = λ n. (λ lt. two_numbers n lt, λ h. elim (which n h.0 h.1) [ inl w ↦ omega (arith, w.0) | inr w ↦ omega (arith, w.0) ]);
  site_names = λ h n x s e. named_site n.0 h x (which n h s) e;
}

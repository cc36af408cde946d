-- What a statement names is one thing.
use Rattle.std.proofs.Common.{◌≡◌, ◌⊎◌, ℕ, Bool, true, false, List, Option, Some, inl, inr, refl, sym, ap, subst, ◌∙◌, arith}
use Rattle.std.specs.Prelude.{slice_get}
use Rattle.std.proofs.lemmas.Option.{same_Some}
use Rattle.slicer_ids.specs.declared.ids.MethodId.{MethodId}
use Rattle.slicer_ids.specs.declared.ids.Statement.{Statement}
use Rattle.class_form.specs.Pools.{class_at, descriptor_at}
use Rattle.class_form.specs.Opcodes.{IsCall, IsGetStatic, IsGetField}
use Rattle.class_form.specs.Types.{IsFieldType, IsMethodType}
use Rattle.class_form.specs.Classes.{Declared}
use Rattle.class_form.specs.declared.class_file.ClassFile.{ClassFile}
use Rattle.class_form.specs.declared.pool.Pool.{Pool}
use Rattle.class_form.specs.declared.types.FieldType.{FieldType}
use Rattle.class_form.specs.declared.types.MethodType.{MethodType}
use Rattle.class_form.specs.declared.body.Body.{Body}
use Rattle.class_form.specs.declared.body.Instr.{Instr}
use Rattle.class_form.proofs.Indices.{one_list, less_asym}
use Rattle.class_form.proofs.OneType.{one_field_type, one_method_type}
use Rattle.dep_form.specs.declared.rules.OutsideRule.{OutsideRule}
use Rattle.dep_form.specs.Outside.{IsOutsideRule}
use Rattle.program_form.specs.Programs.{Program, ClassOf, references_of}
use Rattle.program_form.specs.Statements.{IsAt, NamesClass, NamesDescriptor, CallType, FieldTypeAt, IsInstance}
use Rattle.program_form.specs.Sites.{ResultType}
use Rattle.program_form.specs.Facts.{OutsideRuleOf}
use Rattle.program_code.specs.Codes.{IsProgramOfCode}
use Rattle.program_code.proofs.OneInstruction.{one_at, one_opcode}

pub one_class : (p : Program) (m : MethodId) (c d : ℕ) (k l : ClassFile) → ClassOf p m c k → ClassOf p m d l → k ≡ l
one_class p m c d k l h g =
    let e : h.0 ≡ g.0 = same_Some h.0 g.0 (sym h.1 ∙ g.1) in
    let n : c ≡ d = h.2 ∙ ap (λ (x : Declared). x.class) e ∙ sym g.2 in
    same_Some k l (sym h.3 ∙ ap (λ i. slice_get p.classes i) n ∙ g.3)

call_reads : (op : ℕ) → IsCall op → IsGetStatic op ⊎ IsGetField op → ⊥
call_reads op h (inl g) = absurd (omega (arith, h, g))
call_reads op h (inr g) = absurd (omega (arith, h, g))

-- two rules with the same four lists are one
same_rule : (r q : OutsideRule) → r.reads ≡ q.reads → r.written ≡ q.written → r.states ≡ q.states → r.arrays ≡ q.arrays → r ≡ q
same_rule r q a b c d = rw (← a, ← b, ← c, ← d) refl

one_rule : (instance : Bool) (references : List Bool) (r q : OutsideRule) → IsOutsideRule instance references r → IsOutsideRule instance references q → r ≡ q
one_rule instance references r q h k =
    same_rule r q (one_list _ _ less_asym r.reads q.reads h.reads k.reads) (one_list _ _ less_asym r.written q.written h.written k.written)
    (one_list _ _ less_asym r.states q.states h.states k.states) (one_list _ _ less_asym r.arrays q.arrays h.arrays k.arrays)

module _ (p : Program) (coded : IsProgramOfCode p) (s : Statement) where
  -- what an instruction's index leads to is one thing
  one_named : {A : Type 0} (look : Pool → ℕ → Option A) (x y : A) (a b : Body) (i j : Instr) (c d : ℕ) (k l : ClassFile) → IsAt p s a i → ClassOf p s.method c k →
      look k.pool i.index ≡ Some x → IsAt p s b j → ClassOf p s.method d l → look l.pool j.index ≡ Some y → x ≡ y
  one_named look x y a b i j c d k l at class is at' class' is' =
      let i' = (one_at p coded s a b i j at at').1 in
      let k' = one_class p s.method c d k l class class' in
      same_Some x y (sym is ∙ ap (λ (z : Instr). look k.pool z.index) i' ∙ ap (λ (z : ClassFile). look z.pool j.index) k' ∙ is')

  pub one_text : (x y : List ℕ) → NamesClass p s x → NamesClass p s y → x ≡ y
  one_text x y h g = one_named class_at x y h.0 g.0 h.1 g.1 h.2 g.2 h.3 g.3 h.4 h.5 h.6 g.4 g.5 g.6

  pub one_descriptor : (x y : List ℕ) → NamesDescriptor p s x → NamesDescriptor p s y → x ≡ y
  one_descriptor x y h g = one_named descriptor_at x y h.0 g.0 h.1 g.1 h.2 g.2 h.3 g.3 h.4 h.5 h.6 g.4 g.5 g.6

  pub one_call_type : (t u : MethodType) → CallType p s t → CallType p s u → t ≡ u
  one_call_type t u h g =
      let e = one_descriptor h.1 g.1 h.2 g.2 in
      one_method_type g.1 t u (subst (λ b. IsMethodType b t) e h.3) g.3

  pub one_field_at : (t u : FieldType) → FieldTypeAt p s t → FieldTypeAt p s u → t ≡ u
  one_field_at t u h g =
      let e = one_descriptor h.0 g.0 h.1 g.1 in
      one_field_type g.0 t u (subst (λ b. IsFieldType b t) e h.2) g.2

  pub one_result : (t u : FieldType) → ResultType p s t → ResultType p s u → t ≡ u
  one_result t u (inl h) (inl g) = same_Some t u (sym h.2 ∙ ap (λ (m : MethodType). m.result) (one_call_type h.0 g.0 h.1 g.1) ∙ g.2)
  one_result t u (inl h) (inr g) = absurd (let o = one_opcode p coded s _ _ h.1.0 g.0 in call_reads o.0 o.1 o.2)
  one_result t u (inr h) (inl g) = absurd (let o = one_opcode p coded s _ _ g.1.0 h.0 in call_reads o.0 o.1 o.2)
  one_result t u (inr h) (inr g) = one_field_at t u h.1 g.1

  pub one_instance : (a b : Bool) → IsInstance p s a → IsInstance p s b → a ≡ b
  one_instance true true h g = refl
  one_instance false false h g = refl
  one_instance true false h g = absurd (let o = one_opcode p coded s _ _ h g in o.2.1 o.1)
  one_instance false true h g = absurd (let o = one_opcode p coded s _ _ g h in o.2.1 o.1)

  pub one_outside : (a b : Bool) (r q : OutsideRule) → OutsideRuleOf p s a r → OutsideRuleOf p s b q → (a ≡ b) × (r ≡ q)
  one_outside a b r q h g =
      let e = one_instance a b h.2 g.2 in
      let t = one_call_type h.0 g.0 h.1 g.1 in
      let k : IsOutsideRule b (references_of b g.0) r = subst (λ (x : Bool). IsOutsideRule x (references_of x g.0) r) e (subst (λ (u : MethodType). IsOutsideRule a (references_of a u) r) t h.3) in
      (e, one_rule b (references_of b g.0) r q k g.3)

-- How many arguments calls have.
use Rattle.std.proofs.Common.{◌≡◌, ◌<◌, ◌+◌, ℕ, Bool, true, false, List, length, Some, refl, sym, subst, ◌∙◌, inl, inr, arith}
use Rattle.std.specs.Prelude.{◌↔◌}
use Rattle.std.proofs.lemmas.Option.{same_Some}
use Rattle.std.proofs.lemmas.List.{length-map}
use Rattle.slicer_ids.specs.declared.ids.Statement.{Statement}
use Rattle.class_form.specs.Pools.{descriptor_at}
use Rattle.class_form.specs.Types.{IsMethodType, is_reference}
use Rattle.class_form.specs.Opcodes.{IsCall, IsInstanceCall}
use Rattle.class_form.specs.declared.class_file.ClassFile.{ClassFile}
use Rattle.class_form.specs.declared.types.MethodType.{MethodType}
use Rattle.class_form.specs.declared.body.Body.{Body}
use Rattle.class_form.specs.declared.body.Instr.{Instr}
use Rattle.class_form.proofs.OneType.{one_method_type}
use Rattle.program_form.specs.Programs.{Program, ClassOf, references_of}
use Rattle.program_form.specs.Statements.{IsAt, HasOpcode, NamesDescriptor, CallType, IsInstance}
use Rattle.program_form.specs.Nodes.{HasArgument}
use Rattle.constraint_form.specs.Asked.{IsReadProgram}
use Rattle.constraint_form.proofs.Instructions.{one_at, one_class_file}
use Rattle.variable_tables.specs.Arguments.{AreArgumentsOf, IsWithReceiver}

-- the instruction of the class file has so many arguments, in each program
abbrev pub CountsArguments : ClassFile → Instr → ℕ → Type 0
CountsArguments file instr n =
    (p : Program) (t : Statement) (b : Body) (c : ℕ) → IsReadProgram p → IsAt p t b instr → ClassOf p t.method c file → (i : ℕ) → HasArgument p t i ↔ (i < n)

module _ (p : Program) (asked : IsReadProgram p) (t : Statement) (b : Body) (i : Instr) (c : ℕ) (k : ClassFile) (at : IsAt p t b i) (file : ClassOf p t.method c k) where
  kind_at : (K : ℕ → Type 0) → HasOpcode p t K → K i.op
  kind_at K (a, j, there, is) = let same = one_at p asked t a b j i there at in subst (λ (x : Instr). K x.op) same.1 is

  -- what isn't a call has none
  pub no_call : (IsCall i.op → ⊥) → (j : ℕ) → HasArgument p t j ↔ (j < 0)
  no_call never j = (λ (u, instance, type, is_instance, lt). absurd (never (kind_at IsCall type.0)), λ lt. absurd (omega (arith, lt)))

  descriptor_here : (bytes : List ℕ) → NamesDescriptor p t bytes → descriptor_at k.pool i.index ≡ Some bytes
  descriptor_here bytes (a, j, d, g, there, of, has) =
      let one = one_at p asked t a b j i there at in
      let files = one_class_file p asked t.method d c g k of file in
      subst (λ (x : Instr). descriptor_at k.pool x.index ≡ Some bytes) one.1 (subst (λ (x : ClassFile). descriptor_at x.pool j.index ≡ Some bytes) files.1 has)

  size_of : (instance : Bool) (u : MethodType) → (instance ≡ true → length (references_of instance u) ≡ 1 + length u.arguments) × (instance ≡ false → length (references_of instance u) ≡ length u.arguments)
  size_of true u = (λ e. omega (arith, length-map u.arguments is_reference), λ e. absurd (cc e))
  size_of false u = (λ e. absurd (cc e), λ e. length-map u.arguments is_reference)

  pub call_arguments : IsCall i.op → (n : ℕ) → AreArgumentsOf k.pool i n → (j : ℕ) → HasArgument p t j ↔ (j < n)
  call_arguments call n (inl (bytes, u, named, is, receiver)) j = (to, from receiver)
    where
      same_type : (v : MethodType) → CallType p t v → v ≡ u
      same_type v (op, text, names, type) =
          let same : text ≡ bytes = same_Some text bytes (sym (descriptor_here text names) ∙ named) in
          one_method_type bytes v u (subst (λ z. IsMethodType z v) same type) is

      below : (instance : Bool) (v : MethodType) → v ≡ u → IsInstance p t instance → j < length (references_of instance v)
          → IsWithReceiver (IsInstanceCall i.op → ⊥) (IsInstanceCall i.op) (length u.arguments) n → j < n
      below true v same op lt (inl (never, e)) = absurd (never (kind_at IsInstanceCall op))
      below true v same op lt (inr (has, e)) = omega (arith, e, subst (λ (z : MethodType). j < length (references_of true z)) same lt, (size_of true u).0 refl)
      below false v same op lt (inl (never, e)) = omega (arith, e, subst (λ (z : MethodType). j < length (references_of false z)) same lt, (size_of false u).1 refl)
      below false v same op lt (inr (has, e)) = absurd ((kind_at (λ op. IsCall op × (IsInstanceCall op → ⊥)) op).1 has)

      to : HasArgument p t j → j < n
      to (v, instance, type, is_instance, lt) = below instance v (same_type v type) is_instance lt receiver

      call_type : CallType p t u
      call_type = ((b, i, at, call), bytes, (b, i, c, k, at, file, named), is)

      from : IsWithReceiver (IsInstanceCall i.op → ⊥) (IsInstanceCall i.op) (length u.arguments) n → j < n → HasArgument p t j
      from (inl (never, e)) lt = (u, false, call_type, (b, i, at, (call, never)), omega (arith, e, lt, (size_of false u).1 refl))
      from (inr (has, e)) lt = (u, true, call_type, (b, i, at, has), omega (arith, e, lt, (size_of true u).0 refl))
  call_arguments call n (inr (never, e)) j =
      (λ (v, instance, (op, text, names, type), is_instance, lt). absurd (never text v (descriptor_here text names) type), λ lt. absurd (omega (arith, e, lt)))

-- A statement has one instruction.
use Rattle.std.proofs.Common.{◌≡◌, ◌<◌, ◌≤◌, ◌+◌, ℕ, List, [], ◌∷◌, length, get_or, Contains, Some, inl, inr, refl, sym, ap, subst, ◌∙◌, arith}
use Rattle.std.specs.Prelude.{slice_get, AllPairs}
use Rattle.std.proofs.lemmas.Bool.{cases_order}
use Rattle.std.proofs.lemmas.Option.{same_Some, slice_get_within, get_or_from_slice_get}
use Rattle.std.proofs.lemmas.List.Elements.{All-contains}
use Rattle.slicer_ids.specs.declared.ids.MethodId.{MethodId}
use Rattle.slicer_ids.specs.declared.ids.Statement.{Statement}
use Rattle.class_form.specs.declared.opcode.Form.{Form}
use Rattle.class_form.specs.declared.opcode.Form.TheVariants.{TableSwitch, LookupSwitch}
use Rattle.class_form.specs.Instructions.{AreInstrs, Stands, form_at, size_of}
use Rattle.class_form.specs.declared.body.Body.{Body}
use Rattle.class_form.specs.declared.body.Instr.{Instr}
use Rattle.class_form.specs.declared.class_file.ClassFile.{ClassFile}
use Rattle.class_form.specs.declared.class_file.Member.{Member}
use Rattle.class_form.specs.declared.class_file.CodeBody.{CodeBody}
use Rattle.class_form.specs.declared.pool.Pool.{Pool}
use Rattle.class_form.proofs.Indices.{index_in, head_or}
use Rattle.body_form.specs.Bodies.{IsBodyOf}
use Rattle.program_form.specs.Programs.{Program, ClassOf}
use Rattle.program_form.specs.Statements.{IsAt, HasOpcode}
use Rattle.program_code.specs.Codes.{IsOfMethod, MethodBefore, IsProgramOfCode}

-- THE INSTRUCTIONS OF A CODE

pub size_some : (code : List ℕ) (pc : ℕ) (form : Form) → 0 < size_of code pc form
size_some code pc TableSwitch = omega arith
size_some code pc LookupSwitch = omega arith
size_some code pc form = omega arith

module _ (code : List ℕ) (pool : Pool) where
  pub from_here : (from : ℕ) (xs : List Instr) (to : ℕ) (i : Instr) → AreInstrs code pool from xs to → Contains xs i → from ≤ i.pc
  from_here from [] to i h c = absurd (omega (arith, c.1))
  from_here from (x ∷ xs) to i h c = elim (head_or x i xs c) [
    | inl e ↦ omega (arith, ap (λ (y : Instr). y.pc) e, h.0.place)
    | inr more ↦ omega (arith, from_here (from + x.size) xs to i h.3 more)
  ]

  one_place : (from : ℕ) (xs : List Instr) (to : ℕ) (i j : Instr) → AreInstrs code pool from xs to → Contains xs i → Contains xs j → i.pc ≡ j.pc → i ≡ j
  one_place from [] to i j h c d e = absurd (omega (arith, c.1))
  one_place from (x ∷ xs) to i j h c d e =
      let some : 0 < x.size = subst (λ n. 0 < n) (sym h.0.size) (size_some code from (form_at code from)) in
      elim (head_or x i xs c) [
        | inl first ↦ elim (head_or x j xs d) [
          | inl second ↦ sym first ∙ second
          | inr later ↦ absurd (omega (arith, some, ap (λ (y : Instr). y.pc) first, h.0.place, e, from_here (from + x.size) xs to j h.3 later))
        ]
        | inr later ↦ elim (head_or x j xs d) [
          | inl second ↦ absurd (omega (arith, some, ap (λ (y : Instr). y.pc) second, h.0.place, e, from_here (from + x.size) xs to i h.3 later))
          | inr other ↦ one_place (from + x.size) xs to i j h.3 later other e
        ]
      ]

  -- what an instruction of the code is
  pub stands : (from : ℕ) (xs : List Instr) (to : ℕ) (i : Instr) → AreInstrs code pool from xs to → Contains xs i → Stands code pool i.pc i
  stands from [] to i h c = absurd (omega (arith, c.1))
  stands from (x ∷ xs) to i h c = elim (head_or x i xs c) [
    | inl e ↦ subst (λ (y : Instr). Stands code pool y.pc y) e (subst (λ n. Stands code pool n x) (sym h.0.place) h.0)
    | inr more ↦ stands (from + x.size) xs to i h.3 more
  ]

-- ONE ELEMENT OF A LIST IN ORDER

pub one_by_order : {A : Type 0} (R : A → A → Type 0) (xs : List A) (a b : A) → AllPairs R xs → (R a b → ⊥) → (R b a → ⊥) → Contains xs a → Contains xs b → a ≡ b
one_by_order {A} R xs a b order never ever ca cb =
    let j = index_in xs a ca in
    let k = index_in xs b cb in
    elim (cases_order j.0 k.0) [
      | inl e ↦ same_Some a b (sym j.1 ∙ ap (λ n. slice_get xs n) e ∙ k.1)
      | inr (inl lt) ↦ absurd (never (between j.0 k.0 a b lt j.1 k.1))
      | inr (inr gt) ↦ absurd (ever (between k.0 j.0 b a gt k.1 j.1))
    ]
  where
    between : (m n : ℕ) (x y : A) → m < n → slice_get xs m ≡ Some x → slice_get xs n ≡ Some y → R x y
    between m n x y lt ex ey =
        subst (λ z. R z y) (get_or_from_slice_get xs m x y ex) (subst (λ z. R (get_or xs m y) z) (get_or_from_slice_get xs n y y ey) (order m n y lt (slice_get_within xs n y ey)))

-- ONE INDEX IN A LIST IN ORDER

pub one_index : {A : Type 0} (R : A → A → Type 0) (xs : List A) (a : A) (j k : ℕ) → AllPairs R xs → (R a a → ⊥) → slice_get xs j ≡ Some a → slice_get xs k ≡ Some a → j ≡ k
one_index R xs a j k order never ej ek = elim (cases_order j k) [
  | inl e ↦ e
  | inr (inl lt) ↦ absurd (never (between j k lt ej ek))
  | inr (inr gt) ↦ absurd (never (between k j gt ek ej))
]
  where
    between : (m n : ℕ) → m < n → slice_get xs m ≡ Some a → slice_get xs n ≡ Some a → R a a
    between m n lt ex ey =
        subst (λ z. R z a) (get_or_from_slice_get xs m a a ex) (subst (λ z. R (get_or xs m a) z) (get_or_from_slice_get xs n a a ey) (order m n a lt (slice_get_within xs n a ey)))

-- STATEMENTS

-- what the body of a program is the body of
pub record IsCoded (p : Program) (b : Body) : Type 0 where
  pub method : Member
  pub class : ClassFile
  pub code : CodeBody
  pub is : IsBodyOf class.pool b.method method code b
  pub number : ℕ
  pub of_class : ClassOf p b.method number class

module _ (p : Program) (coded : IsProgramOfCode p) where
  pub coded_body : (b : Body) → Contains p.bodies b → IsCoded p b
  coded_body b c =
      let h : IsOfMethod p b = All-contains (IsOfMethod p) p.bodies b coded.bodies c in
      record { method = h.1; class = h.4; code = h.5; is = h.9; number = h.0.class; of_class = (h.0, h.6.0, refl, h.7) }

  pub one_body : (a b : Body) → Contains p.bodies a → Contains p.bodies b → a.method ≡ b.method → a ≡ b
  one_body a b ca cb e =
      let same : a.method.0 ≡ b.method.0 = ap (λ (m : MethodId). m.0) e in
      one_by_order MethodBefore p.bodies a b coded.order (λ lt. omega (arith, lt, same)) (λ lt. omega (arith, lt, same)) ca cb

  pub one_at : (s : Statement) (a b : Body) (i j : Instr) → IsAt p s a i → IsAt p s b j → (a ≡ b) × (i ≡ j)
  one_at s a b i j h k =
      let e = one_body a b h.0 k.0 (h.1 ∙ sym k.1) in
      let c = coded_body a h.0 in
      (e, one_place c.code.code c.class.pool 0 a.instrs (length c.code.code) i j c.is.instrs h.2 (subst (λ (y : Body). Contains y.instrs j) (sym e) k.2) (h.3 ∙ sym k.3))

  pub one_opcode : (s : Statement) (P Q : ℕ → Type 0) → HasOpcode p s P → HasOpcode p s Q → (op : ℕ) × P op × Q op
  one_opcode s P Q h k =
      let e = one_at s h.0 k.0 h.1 k.1 h.2 k.2 in
      (h.1.op, h.3, subst (λ (i : Instr). Q i.op) (sym e.1) k.3)

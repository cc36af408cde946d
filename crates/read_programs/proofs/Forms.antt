-- An instruction has the form that the table gives its opcode, where `wide` may not stand before it.
use Rattle.std.proofs.Common.{◌≡◌, ◌+◌, ◌<◌, ◌≤◌, ℕ, Bool, true, false, List, length, if◌then◌else◌, nat_lt, not, refl, sym, subst, ◌∙◌, arith}
use Rattle.std.proofs.lemmas.Bool.{and_parts, false≢true}
use Rattle.std.proofs.lemmas.Bool.Decides.{nat_tests}
use Rattle.class_form.specs.Table.{opcode_of}
use Rattle.class_form.specs.Instructions.{Stands, HasConstant, op_at, form_at, is_wide, widened, is_undefined, is_known, head_size}
use Rattle.class_form.specs.declared.opcode.Form.{Form}
use Rattle.class_form.specs.declared.opcode.Form.TheVariants.{Local, Increment, SubroutineReturn, Wide}
use Rattle.class_form.specs.declared.pool.Pool.{Pool}
use Rattle.class_form.specs.declared.body.Instr.{Instr}

abbrev pub can_widen : Form → Bool
can_widen Local = true
can_widen Increment = true
can_widen SubroutineReturn = true
can_widen form = false

not_widened : (form : Form) → can_widen form ≡ false → not (is_undefined (widened form)) ≡ false
not_widened Local e = absurd (false≢true (sym e))
not_widened Increment e = absurd (false≢true (sym e))
not_widened SubroutineReturn e = absurd (false≢true (sym e))
not_widened form e = refl

form_by : (code : List ℕ) (pc major op : ℕ) (form : Form) (wide more : Bool) → nat_lt (pc + 1) (length code) ≡ more → can_widen form ≡ false
    → is_known major op (if wide then (if more then widened form else Wide) else form) ≡ true
    → pc + head_size code pc (if wide then (if more then widened form else Wide) else form) ≤ length code
    → (if wide then (if more then widened form else Wide) else form) ≡ form
form_by code pc major op form false more e narrow known whole = refl
form_by code pc major op form true true e narrow known whole =
    absurd (false≢true (sym (not_widened form narrow) ∙ (and_parts (not (is_undefined (widened form))) _ known).0))
form_by code pc major op form true false e narrow known whole = absurd (past (pc + 1) (length code) e (omega (arith, whole)))
  where
    past : (a b : ℕ) → nat_lt a b ≡ false → a < b → ⊥
    past a b f lt = grind (arith, nat_tests)

module _ (code : List ℕ) (pool : Pool) (pc op : ℕ) (form : Form) (i : Instr) (stands : Stands code pool pc i) (is : i.op ≡ op) (line : (opcode_of op).form ≡ form) (narrow : can_widen form ≡ false) where
  same_op : op_at code pc ≡ op
  same_op = sym stands.op ∙ is

  pub form_is : form_at code pc ≡ form
  form_is =
      let here : (opcode_of (op_at code pc)).form ≡ form = subst (λ o. (opcode_of o).form ≡ form) (sym same_op) line in
      let fits : can_widen (opcode_of (op_at code pc)).form ≡ false = subst (λ f. can_widen f ≡ false) (sym here) narrow in
      form_by code pc pool.major (op_at code pc) (opcode_of (op_at code pc)).form (is_wide code pc) (nat_lt (pc + 1) (length code)) refl fits stands.passes.0 stands.passes.1.1.0
      ∙ here

  -- and names a constant as that form says
  pub constant_is : HasConstant pool op i.index form
  constant_is =
      subst (λ o. HasConstant pool o i.index form) same_op
      (subst (λ f. HasConstant pool (op_at code pc) i.index f) form_is
      (subst (λ n. HasConstant pool (op_at code pc) n (form_at code pc)) (sym stands.index) stands.passes.1.1.1.1.1.0))

-- The variables of what holds in a slot, and in an operand.
use Rattle.std.proofs.Common.{◌≡◌, ◌<◌, ℕ, List, [], Contains, refl, sym, ap, subst, ◌∙◌, arith, inl, inr}
use Rattle.std.specs.Prelude.{◌↔◌}
use Rattle.std.proofs.lemmas.List.Elements.{All-contains}
use Rattle.worklists.specs.Growth.{Grows, FromOne}
use Rattle.worklists.proofs.Growing.{Grows-same}
use Rattle.class_form.specs.Reaches.{IsReachOf, AreDefsAt}
use Rattle.slicer_ids.specs.declared.ids.Statement.{Statement}
use Rattle.class_form.specs.Reaching.{IsPoint, HoldsAt, HoldsIn}
use Rattle.class_form.specs.declared.body.Body.{Body}
use Rattle.class_form.specs.declared.body.Def.{Def}
use Rattle.class_form.specs.declared.body.Instr.{Instr}
use Rattle.class_form.specs.declared.body.Point.{Point}
use Rattle.class_form.specs.declared.body.SlotUse.{SlotUse}
use Rattle.dep_form.specs.declared.rules.Var.{Var}
use Rattle.dep_form.specs.declared.system.System.{System}
use Rattle.program_form.specs.Programs.{Program}
use Rattle.program_form.specs.Statements.{IsAt, OperandIs}
use Rattle.program_form.specs.Facts.{variable_of}
use Rattle.program_form.specs.Systems.{VariableNumber}
use Rattle.constraint_form.specs.Asked.{IsReadProgram}
use Rattle.constraint_form.specs.Variables.{Meaning}
use Rattle.constraint_form.specs.Rules.{IsDefined}
use Rattle.constraint_form.proofs.Instructions.{one_at}
use Rattle.constraint_form.proofs.OnePlace.{same_or_before}
use Rattle.class_form.proofs.Indices.{index_in}
use Rattle.std.proofs.lemmas.Option.{same_Some}
use Rattle.std.specs.Prelude.{Some, slice_get, AllPairs}
use Rattle.signature_tables.specs.Statements.{statement}
use Rattle.constraint_rules.specs.Slots.{IsNumberIn, IsNumberOfUse}

-- the list has what grew from nothing
pub from_nothing : {A : Type 0} (P : A → Type 0) (old new : List A) → old ≡ [] → Grows old new P → (x : A) → Contains new x ↔ P x
from_nothing {A} P old new none g x = (
  λ c. elim (g.only x c) [ inl o ↦ let no : Contains [] x = subst (λ (ys : List A). Contains ys x) none o in absurd (omega (arith, no.1)) | inr h ↦ h ],
  λ h. g.all x h,
)

-- points at one program counter are one
pub one_point : (points : List Point) → AllPairs (λ (p q : Point). p.pc < q.pc) points → (p q : Point) → Contains points p → Contains points q → p.pc ≡ q.pc → p ≡ q
one_point points order p q c d e =
    let (i, at) = index_in points p c in
    let (j, there) = index_in points q d in
    let same : i ≡ j = same_or_before (λ (u v : Point). u.pc < v.pc) points order i j p q at there (λ lt. omega (arith, lt, e)) (λ lt. omega (arith, lt, e)) in
    same_Some p q (sym (subst (λ k. slice_get points k ≡ Some p) same at) ∙ there)

module _ (p : Program) (s : System) (names : List Meaning) (asked : IsReadProgram p) (b : Body) (q : Point) (i : Instr) (order : AllPairs (λ (p q : Point). p.pc < q.pc) b.shape.points)
    (point : Contains b.shape.points q) (at : IsAt p (statement b q.pc) b i) where
  -- what holds in an operand by one of its slots
  pub to_defined : (operand : ℕ) (x : Var) → FromOne (IsNumberOfUse p s b q.pc operand) q.uses x → IsDefined p s names (statement b q.pc) operand x
  to_defined operand x (u, among, (e, (d, holds, number))) = (d, (b, i, at, (q, (point, refl), u, among, e, holds)), number)

  pub from_defined : (operand : ℕ) (x : Var) → IsDefined p s names (statement b q.pc) operand x → FromOne (IsNumberOfUse p s b q.pc operand) q.uses x
  from_defined operand x (d, (a, j, there, holds), number) =
      let one = one_at p asked (statement b q.pc) a b j i there at in
      here (subst (λ (z : Body). HoldsIn z.shape q.pc operand d) one.0 holds)
    where
      here : HoldsIn b.shape q.pc operand d → FromOne (IsNumberOfUse p s b q.pc operand) q.uses x
      here (r, (c, e), u, among, f, at_slot) = (u, subst (λ (z : Point). Contains z.uses u) (one_point b.shape.points order r q c point e) among, (f, (d, at_slot, number)))

-- definitions of a slot, as the table of definitions has them
pub slot_grown : (p : Program) (s : System) (b : Body) (pc slot : ℕ) (defs : List Def) (old new : List Var) → IsReachOf b.shape b.reach → AreDefsAt b.reach pc slot defs
    → Grows old new (FromOne (λ d. VariableNumber p s (variable_of b.method d)) defs) → Grows old new (IsNumberIn p s b pc slot)
slot_grown p s b pc slot defs old new reach at g =
    let listed = reach pc slot defs at in
    Grows-same old new (FromOne (λ d. VariableNumber p s (variable_of b.method d)) defs) (IsNumberIn p s b pc slot)
    (λ x (d, c, n). (d, All-contains (HoldsAt b.shape pc slot) defs d listed.each c, n)) (λ x (d, h, n). (d, listed.whole d h, n)) g

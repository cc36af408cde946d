-- What stands at the instruction of a statement.
use Rattle.std.proofs.Common.{◌≡◌, ℕ, Option, Some, None, ap, subst}
use Rattle.std.proofs.lemmas.Option.{same_Some}
use Rattle.class_form.specs.Pools.{MemberKey, member_at}
use Rattle.class_form.specs.declared.class_file.ClassFile.{ClassFile}
use Rattle.class_form.specs.declared.body.Instr.{Instr}
use Rattle.program_form.specs.Programs.{Program}
use Rattle.program_form.specs.Statements.{HasOpcode, NamesMember}
use Rattle.constraint_form.specs.Asked.{IsReadProgram}
use Rattle.constraint_form.proofs.Instructions.{one_at, one_class_file}
use Rattle.constraint_rules.specs.One.{IsOne}
use Rattle.constraint_rules.specs.Settings.{IsPlaced, place_of}
use Rattle.constraint_rules.specs.declared.tables.Reachable.{Reachable}

-- ---- the one thing of which a fact holds

pub none_of : {A : Type 0} (P : A → Type 0) → ((x : A) → P x → ⊥) → IsOne P None
none_of P never = λ x. (λ h. absurd (never x h), λ e. absurd (cc e))

pub some_of : {A : Type 0} (P : A → Type 0) (a : A) → P a → ((x : A) → P x → a ≡ x) → IsOne P (Some a)
some_of P a is only = λ x. (λ h. ap (λ z. Some z) (only x h), λ e. subst P (same_Some a x e) is)

pub one_same : {A : Type 0} (P Q : A → Type 0) (o : Option A) → ((x : A) → P x → Q x) → ((x : A) → Q x → P x) → IsOne P o → IsOne Q o
one_same P Q o to from one = λ x. (λ q. (one x).0 (from x q), λ e. to x ((one x).1 e))

-- ---- the kind of the instruction, and what it names

module _ (p : Program) (asked : IsReadProgram p) (x : Reachable) (placed : IsPlaced p x) where
  pub kind_at : (K : ℕ → Type 0) → HasOpcode p (place_of x) K → K x.instr.now.op
  kind_at K (a, j, there, is) =
      let same = one_at p asked (place_of x) a x.body.now j x.instr.now there placed.at in
      subst (λ (i : Instr). K i.op) same.1 is

  pub kind_here : (K : ℕ → Type 0) → K x.instr.now.op → HasOpcode p (place_of x) K
  kind_here K is = (x.body.now, x.instr.now, placed.at, is)

  pub one_of_kind : {A : Type 0} (K : ℕ → Type 0) (P : A → Type 0) (o : Option A) → K x.instr.now.op → IsOne P o → IsOne (λ r. HasOpcode p (place_of x) K × P r) o
  one_of_kind K P o is one = one_same P (λ r. HasOpcode p (place_of x) K × P r) o (λ r h. (kind_here K is, h)) (λ r h. h.1) one

  pub none_of_kind : {A : Type 0} (K : ℕ → Type 0) (P : A → Type 0) → (K x.instr.now.op → ⊥) → IsOne (λ r. HasOpcode p (place_of x) K × P r) None
  none_of_kind K P never = none_of (λ r. HasOpcode p (place_of x) K × P r) (λ r h. never (kind_at K h.0))

  pub named_here : (key : MemberKey) → member_at x.file.now.pool x.instr.now.index ≡ Some key → NamesMember p (place_of x) key
  named_here key e = (x.body.now, x.instr.now, placed.file.0, x.file.now, placed.at, placed.file.1, e)

  pub key_here : (key : MemberKey) → NamesMember p (place_of x) key → member_at x.file.now.pool x.instr.now.index ≡ Some key
  key_here key (a, j, d, g, there, from, has) =
      let one = one_at p asked (place_of x) a x.body.now j x.instr.now there placed.at in
      let file = one_class_file p asked x.body.now.method d placed.file.0 g x.file.now from placed.file.1 in
      subst (λ (i : Instr). member_at x.file.now.pool i.index ≡ Some key) one.1 (subst (λ (k : ClassFile). member_at k.pool j.index ≡ Some key) file.1 has)

-- Constraints of instructions of a kind.
use Rattle.std.proofs.Common.{◌≡◌, ℕ, List, Option, Some, None, sym, ap, subst}
use Rattle.worklists.specs.Growth.{Grows}
use Rattle.worklists.proofs.Growing.{Grows-none, Grows-same}
use Rattle.class_form.specs.declared.body.Instr.{Instr}
use Rattle.dep_form.specs.declared.system.System.{System}
use Rattle.program_form.specs.Programs.{Program}
use Rattle.program_form.specs.Statements.{IsAt, HasOpcode}
use Rattle.constraint_form.specs.Variables.{Meaning}
use Rattle.constraint_form.proofs.Instructions.{one_at}
use Rattle.constraint_rules.specs.One.{IsOne}
use Rattle.constraint_rules.specs.Settings.{IsSetting, IsPlaced, place_of}
use Rattle.constraint_rules.specs.declared.tables.Tables.{Tables}
use Rattle.constraint_rules.specs.declared.tables.Reachable.{Reachable}
use Rattle.constraint_rules.proofs.Ones.{none_of, one_same}

module _ (t : Tables) (x : Reachable) (p : Program) (s : System) (names : List Meaning) (set : IsSetting t p s names) (placed : IsPlaced p x) where
  pub kind_at : (K : ℕ → Type 0) → HasOpcode p (place_of x) K → K x.instr.now.op
  kind_at K (a, j, there, is) =
      let same = one_at p set.of.read (place_of x) a x.body.now j x.instr.now there placed.at in
      subst (λ (i : Instr). K i.op) same.1 is

  pub kind_here : (K : ℕ → Type 0) → K x.instr.now.op → HasOpcode p (place_of x) K
  kind_here K is = (x.body.now, x.instr.now, placed.at, is)

  pub one_of_kind : {A : Type 0} (K : ℕ → Type 0) (P : A → Type 0) (o : Option A) → K x.instr.now.op → IsOne P o → IsOne (λ r. HasOpcode p (place_of x) K × P r) o
  one_of_kind K P o is one = one_same P (λ r. HasOpcode p (place_of x) K × P r) o (λ r h. (kind_here K is, h)) (λ r h. h.1) one

  pub none_of_kind : {A : Type 0} (K : ℕ → Type 0) (P : A → Type 0) → (K x.instr.now.op → ⊥) → IsOne (λ r. HasOpcode p (place_of x) K × P r) None
  none_of_kind K P never = none_of (λ r. HasOpcode p (place_of x) K × P r) (λ r h. never (kind_at K h.0))

  pub grown_by_kind : {A : Type 0} (K : ℕ → Type 0) (P : A → Type 0) (old new : List A) → K x.instr.now.op → Grows old new P → Grows old new (λ r. HasOpcode p (place_of x) K × P r)
  grown_by_kind K P old new is g = Grows-same old new P (λ r. HasOpcode p (place_of x) K × P r) (λ r h. (kind_here K is, h)) (λ r h. h.1) g

  pub grown_by_no_kind : {A : Type 0} (K : ℕ → Type 0) (P : A → Type 0) (xs : List A) → (K x.instr.now.op → ⊥) → Grows xs xs (λ r. HasOpcode p (place_of x) K × P r)
  grown_by_no_kind K P xs never = Grows-none xs (λ r. HasOpcode p (place_of x) K × P r) (λ r h. never (kind_at K h.0))

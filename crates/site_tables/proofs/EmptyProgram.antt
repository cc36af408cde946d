-- A folder without classes is that of a program without bodies.
use Rattle.std.proofs.Common.{◌≡◌, ◌<◌, ℕ, List, [], ◌∷◌, length, Contains, Some, refl, sym, subst, arith}
use Rattle.std.specs.Prelude.{All, AllPairs, slice_get}
use Rattle.class_form.specs.Classes.{Declared, IsMethod, IsField}
use Rattle.std.proofs.lemmas.List.Sorted.{length_permutation}
use Rattle.class_form.specs.Folders.{IsHierarchyOf}
use Rattle.class_form.specs.Numbers.{AreMethods, AreFields, IsThere, MemberBefore}
use Rattle.class_form.specs.declared.class_file.ClassFile.{ClassFile}
use Rattle.class_form.specs.declared.body.Body.{Body}
use Rattle.program_form.specs.Programs.{Program}
use Rattle.constraint_form.specs.Asked.{IsReadProgram}
use Rattle.signature_tables.specs.Programs.{IsOfClasses}
use Rattle.signature_tables.specs.Statements.{HasBodies}

abbrev empty : Program
empty = record { classes = []; methods = []; fields = []; bodies = []; entries = [] }

no_member : {A : Type 0} (x : A) → Contains [] x → ⊥
no_member x c = omega (arith, c.1)

no_place : {A : Type 0} (k : ℕ) (x : A) → slice_get [] k ≡ Some x → ⊥
no_place k x e = cc e

all_of_none : {A : Type 0} (P : A → Type 0) → All P []
all_of_none P = λ k d lt. absurd (omega (arith, lt))

pairs_of_none : {A : Type 0} (R : A → A → Type 0) → AllPairs R []
pairs_of_none R = λ i j d lt within. absurd (omega (arith, within))

empty_read : IsReadProgram empty
empty_read = record {
  classes = λ i j d lt within. absurd (omega (arith, within));
  bodies = λ i j d lt within. absurd (omega (arith, within));
  coded = λ b c. absurd (no_member b c);
  instructions = λ b c. absurd (no_member b c);
  once = λ key d e x y same. absurd (no_place d.class x.0 x.2);
  types = λ m d x name bytes of. absurd (no_place m.0 d of.0);
  operands = λ s t instance i d call is operand. absurd (no_member operand.0 operand.2.0);
  members = λ s op. absurd (no_member op.0 op.2.0);
  arrays = λ s op. absurd (no_member op.0 op.2.0);
  dimensions = λ s b i text t at op names is. absurd (no_member b at.0);
  entries = λ e c. absurd (no_member e c);
}

empty_of_none : IsOfClasses [] empty
empty_of_none = record {
  classes_are = refl;
  methods_are = record { each = all_of_none (IsThere (IsMethod [])); order = pairs_of_none (MemberBefore (IsMethod [])); whole = λ d (x, n, e, (k, is, rest)). absurd (no_place d.class k is) };
  fields_are = record { each = all_of_none (IsThere (IsField [])); order = pairs_of_none (MemberBefore (IsField [])); whole = λ d (x, n, e, (k, is, rest)). absurd (no_place d.class k is) };
  fields_once = λ key d e (k, x, is, rest) other same. absurd (no_place d.class k is);
  methods_once = λ key d e (k, x, is, rest) other same. absurd (no_place d.class k is);
  read = empty_read;
}

no_bodies : (classes : List ClassFile) (bodies : List Body) → classes ≡ [] → bodies ≡ [] → HasBodies classes bodies
no_bodies classes bodies e f = (empty, subst (λ (ks : List ClassFile). IsOfClasses ks empty) (sym e) empty_of_none, sym f)

none_of : {A : Type 0} (xs : List A) → length xs ≡ 0 → xs ≡ []
none_of [] e = refl
none_of (x ∷ xs) e = absurd (omega (arith, e))

-- .. of a hierarchy of no class files
pub no_classes : (classes : List ClassFile) (bodies : List Body) → IsHierarchyOf [] classes → bodies ≡ [] → HasBodies classes bodies
no_classes classes bodies h none = no_bodies classes bodies (none_of classes (length_permutation [] classes h.same)) none

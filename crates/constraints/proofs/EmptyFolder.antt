-- A folder without classes has a program without bodies and entries.
use Rattle.std.proofs.Common.{◌≡◌, List, [], Contains, sym, subst, arith}
use Rattle.class_form.specs.Folders.{IsHierarchyOf}
use Rattle.class_form.specs.declared.class_file.ClassFile.{ClassFile}
use Rattle.class_form.specs.declared.body.Body.{Body}
use Rattle.dep_form.specs.declared.rules.Entry.{Entry}
use Rattle.program_form.specs.Programs.{Program}
use Rattle.constraint_form.specs.Asked.{IsReadProgram}
use Rattle.signature_tables.specs.Programs.{IsOfClasses}
use Rattle.site_tables.proofs.EmptyProgram.{no_classes}
use Rattle.constraints.specs.Programs.{IsGiven, HasProgram}

nothing : {A : Type 0} {P : Type 0} (x : A) → Contains [] x → P
nothing x c = absurd (omega (arith, c.1))

module _ (p : Program) (none : p.bodies ≡ []) where
  -- .. with no entries
  abbrev alone : Program
  alone = record { classes = p.classes; methods = p.methods; fields = p.fields; bodies = p.bodies; entries = [] }

  no_body : {P : Type 0} (b : Body) → Contains p.bodies b → P
  no_body {P} b c = nothing {P = P} b (subst (λ (bs : List Body). Contains bs b) none c)

  read_alone : IsReadProgram p → IsReadProgram alone
  read_alone read = record {
    classes = read.classes;
    bodies = read.bodies;
    coded = read.coded;
    instructions = read.instructions;
    once = read.once;
    types = read.types;
    operands = λ s t instance i d call is operand. no_body operand.0 operand.2.0;
    members = λ s op. no_body op.0 op.2.0;
    arrays = λ s op. no_body op.0 op.2.0;
    dimensions = λ s b i text t at op names is. no_body b at.0;
    entries = λ e c. nothing e c;
  }

  alone_given : (classes : List ClassFile) (bodies : List Body) (entries : List Entry) → IsOfClasses classes p → p.bodies ≡ bodies → entries ≡ [] → IsGiven classes bodies entries alone
  alone_given classes bodies entries of e f = record {
    of = record {
      classes_are = of.classes_are;
      methods_are = of.methods_are;
      fields_are = of.fields_are;
      fields_once = of.fields_once;
      methods_once = of.methods_once;
      read = read_alone of.read;
    };
    bodies_are = e;
    entries_are = sym f;
    entered = λ e c. nothing e c;
  }

pub no_program : (classes : List ClassFile) (bodies : List Body) (entries : List Entry) → IsHierarchyOf [] classes → bodies ≡ [] → entries ≡ [] → HasProgram classes bodies entries
no_program classes bodies entries h none f =
    let (p, of, e) = no_classes classes bodies h none in
    (alone p (subst (λ (bs : List Body). p.bodies ≡ bs) none e), alone_given p (subst (λ (bs : List Body). p.bodies ≡ bs) none e) classes bodies entries of e f)

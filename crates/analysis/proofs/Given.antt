-- A program that was loaded has what is asked of it before it is analysed.
use Rattle.std.proofs.Common.{◌≡◌, ◌<◌, ℕ, true, List, Option, Some, Contains, length, get_or, refl, sym, ap, subst, ◌∙◌}
use Rattle.std.specs.Prelude.{All, slice_get}
use Rattle.std.proofs.lemmas.Option.{same_Some, slice_get_within}
use Rattle.std.proofs.lemmas.List.Elements.{All-contains}
use Rattle.class_form.specs.Pools.{MemberKey}
use Rattle.class_form.specs.ClassRules.{IsClassFile}
use Rattle.class_form.specs.Numbers.{AreMethods, AreFields}
use Rattle.class_form.specs.Resolution.{DeclaresField, DeclaresMethod}
use Rattle.class_form.specs.declared.class_file.ClassFile.{ClassFile}
use Rattle.class_form.specs.declared.body.Body.{Body}
use Rattle.class_form.proofs.Indices.{there_at}
use Rattle.dep_form.specs.declared.rules.Entry.{Entry}
use Rattle.dep_form.specs.declared.system.System.{System}
use Rattle.program_form.specs.Programs.{Program, HasFormal, DeclaresOnce}
use Rattle.program_code.specs.Codes.{IsProgramOfCode, IsOfMethod}
use Rattle.body_form.specs.Bodies.{IsBodyOf}
use Rattle.constraint_form.specs.Asked.{IsReadProgram}
use Rattle.constraint_form.specs.ConstraintSystems.{IsConstraintSystem}
use Rattle.variable_tables.specs.Statements.{IsFollowed, AreFollowed}
use Rattle.body_rules.specs.Methods.{IsCoded, number_of}
use Rattle.body_rules.proofs.Octets.{flow_of}
use Rattle.fact_form.specs.Handed.{IsProgramWith}
use Rattle.call_graph.specs.Entries.{IsEntry}
use Rattle.signature_tables.specs.Programs.{IsOfClasses}
use Rattle.constraints.specs.Programs.{IsGiven}
use Rattle.folder_loader.specs.declared.parts.Loaded.{Loaded}
use Rattle.analysis.specs.Analysed.{IsOf}

-- what laws of call_graph and of read_programs say
abbrev pub HaveArguments : Type 0
HaveArguments = (p : Program) (main : Option (List ℕ)) (e : Entry) → IsEntry p.classes p.methods main e → HasFormal p e.method 0

abbrev pub AreRead : Type 0
AreRead = (p : Program) → IsProgramOfCode p → All IsClassFile p.classes → ((e : Entry) → Contains p.entries e → e.arguments ≡ true → HasFormal p e.method 0) → IsReadProgram p

abbrev pub DeclareFieldsOnce : Type 0
DeclareFieldsOnce = (p : Program) (key : MemberKey) → All IsClassFile p.classes → DeclaresOnce (DeclaresField p.classes key)

abbrev pub DeclareMethodsOnce : Type 0
DeclareMethodsOnce = (p : Program) (key : MemberKey) → All IsClassFile p.classes → DeclaresOnce (DeclaresMethod p.classes key)

-- BODIES

module _ (p : Program) (coded : IsProgramOfCode p) (files : All IsClassFile p.classes) where
  body_followed : (b : Body) → IsOfMethod p b → IsFollowed b
  body_followed b (d, m, name, descriptor, k, code, (number, (j, of_class, (member, named, typed))), class, has, body) =
      let same : j ≡ k = same_Some j k (sym of_class ∙ class) in
      let there : IsCoded k d.index m code = (subst (λ (z : ClassFile). slice_get z.methods d.index ≡ Some m) same member, has) in
      let kept : IsClassFile k = All-contains IsClassFile p.classes k files (there_at p.classes d.class k class) in
      let numbered : IsBodyOf k.pool (number_of d.index) m code (record b { method = number_of d.index }) = record { method = refl; instrs = body.instrs; shape = body.shape; reach = body.reach } in
      record { flow = flow_of k d.index m code (record b { method = number_of d.index }) kept there numbered; reach = body.reach }

  pub bodies_followed : AreFollowed p.bodies
  bodies_followed = λ k d lt. body_followed (get_or p.bodies k d) (coded.bodies k d lt)

-- PROGRAMS

module _ (argued : HaveArguments) (read : AreRead) (l : Loaded) (p : Program) (is : IsOf l p) where
  entry : (e : Entry) → Contains p.entries e → IsEntry p.classes p.methods is.main e
  entry e c = All-contains (IsEntry p.classes p.methods is.main) p.entries e (is.loaded.entries.each p.methods is.loaded.code.methods).each c

  entry_within : (e : Entry) → IsEntry p.classes p.methods is.main e → e.method.0 < length p.methods
  entry_within e (given, d, at, main) = slice_get_within p.methods e.method.0 d at

  pub is_read : IsReadProgram p
  is_read = read p is.loaded.code is.loaded.files (λ e c given. argued p is.main e (entry e c))

  pub files_of : All IsClassFile l.hierarchy
  files_of = subst (All IsClassFile) is.parts.classes_are is.loaded.files

  pub followed_of : AreFollowed l.bodies.items
  followed_of = subst AreFollowed is.parts.bodies_are (bodies_followed p is.loaded.code is.loaded.files)

  pub is_given : DeclareFieldsOnce → DeclareMethodsOnce → IsGiven l.hierarchy l.bodies.items l.entries p
  is_given fields methods = record {
    of = record {
      classes_are = is.parts.classes_are;
      methods_are = subst (λ (ks : List ClassFile). AreMethods ks p.methods) is.parts.classes_are is.loaded.code.methods;
      fields_are = subst (λ (ks : List ClassFile). AreFields ks p.fields) is.parts.classes_are is.loaded.code.fields;
      fields_once = λ key. subst (λ (ks : List ClassFile). DeclaresOnce (DeclaresField ks key)) is.parts.classes_are (fields p key is.loaded.files);
      methods_once = λ key. subst (λ (ks : List ClassFile). DeclaresOnce (DeclaresMethod ks key)) is.parts.classes_are (methods p key is.loaded.files);
      read = is_read;
    };
    bodies_are = is.parts.bodies_are;
    entries_are = is.parts.entries_are;
    entered = λ e c. entry_within e (entry e c);
  }

  pub is_with : (s : System) → IsConstraintSystem p s → IsProgramWith l.hierarchy l.bodies.items s p
  is_with s made = record { classes_are = is.parts.classes_are; bodies_are = is.parts.bodies_are; asked = is_read; coded = is.loaded.code; constraints = made }

-- The texts of a program tell what is said of a statement.
use Rattle.std.proofs.Common.{◌≡◌, ℕ, List, Option, Some, None, Result, Ok, Err, Contains, refl, sym, ap, subst, ◌∙◌}
use Rattle.std.specs.Prelude.{slice_get, All, IfSome, IfOk}
use Rattle.std.proofs.lemmas.Option.{same_Some}
use Rattle.std.proofs.lemmas.List.Elements.{All-contains}
use Rattle.slicer_ids.specs.declared.ids.MethodId.{MethodId}
use Rattle.slicer_ids.specs.declared.ids.NoMemory.{NoMemory}
use Rattle.slicer_ids.specs.declared.ids.Statement.{Statement}
use Rattle.class_form.specs.Classes.{Declared, IsClass, IsNamed, class_name}
use Rattle.class_form.specs.Opcodes.{IsCall}
use Rattle.class_form.specs.declared.class_file.ClassFile.{ClassFile}
use Rattle.class_form.specs.declared.class_file.Member.{Member}
use Rattle.dep_form.specs.declared.system.System.{System}
use Rattle.dep_form.specs.declared.texts.MethodText.{MethodText}
use Rattle.program_form.specs.Programs.{Program, MethodOf}
use Rattle.program_form.specs.Effects.{StatementIs}
use Rattle.program_form.specs.Systems.{IsSystemOf}
use Rattle.program_code.specs.Codes.{IsProgramOfCode, IsOfMethod}
use Rattle.program_code.proofs.Outside.{reached_there}
use Rattle.fact_form.specs.FactTables.{RunsIn, AreClassNames, AreMethodTexts}
use Rattle.call_graph.specs.Refusals.{IsRefused}
use Rattle.call_graph.specs.declared.refusals.Refused.{Refused}
use Rattle.acceptance.specs.Statements.{IsStatementText, statement_text, statement_refusal}
use Rattle.refused_statements.specs.Saying.{IsLineIn, IsSaidOf, IsSaidBy}

-- LOOKING UP

pub line_there : (lines : List (ℕ × Option ℕ)) (pc k : ℕ) (item : ℕ × Option ℕ) (o : Option (Option ℕ)) → slice_get lines k ≡ Some item
    → IfSome o (λ line. (item.0 ≡ pc) × (item.1 ≡ line)) → IfSome o (λ line. IsLineIn lines pc line)
line_there lines pc k item None at h = tt
line_there lines pc k item (Some line) at h = (k, item, at, h.0, h.1)

pub said_there : (r : Refused) (t : MethodText) (class : List ℕ) (l : Option ℕ) (o : Result (List ℕ) NoMemory) → IsLineIn t.lines r.place.pc l
    → IfOk o (λ said. said ≡ statement_refusal r.kind (statement_text class t.name t.descriptor r.place.pc l)) → IfOk o (IsSaidOf r t class)
said_there r t class l (Ok said) there e = (l, there, e)
said_there r t class l (Err e) there h = h

pub class_there : (r : Refused) (t : MethodText) (names : List (List ℕ)) (class : List ℕ) (o : Result (List ℕ) NoMemory) → slice_get names t.class.0 ≡ Some class
    → IfOk o (IsSaidOf r t class) → IfOk o (λ said. (class : List ℕ) × (slice_get names t.class.0 ≡ Some class) × IsSaidOf r t class said)
class_there r t names class (Ok said) at h = (class, at, h)
class_there r t names class (Err e) at h = h

pub text_there : (r : Refused) (texts : List MethodText) (names : List (List ℕ)) (t : MethodText) (o : Result (List ℕ) NoMemory) → slice_get texts r.place.method.0 ≡ Some t
    → IfOk o (λ said. (class : List ℕ) × (slice_get names t.class.0 ≡ Some class) × IsSaidOf r t class said) → IfOk o (IsSaidBy texts names r)
text_there r texts names t (Ok said) at h = (t, h.0, at, h.1, h.2)
text_there r texts names t (Err e) at h = h

-- OF THE PROGRAM

module _ (p : Program) (s : System) (coded : IsProgramOfCode p) (tie : IsSystemOf p s) (texts : List MethodText) (names : List (List ℕ)) (told : AreMethodTexts p s texts) (named : AreClassNames p names) where
  runs : (t : Statement) → StatementIs p t IsCall → RunsIn p s t (λ op. Unit {0})
  runs t (reached, (b, i, at, call)) = (reached_there p s coded tie t.method reached, (b, i, at, tt))

  -- the method of a statement
  method_of : (t : Statement) → StatementIs p t IsCall → (d : Declared) × (x : Member) × (name : List ℕ) × (descriptor : List ℕ) × MethodOf p t.method d x name descriptor
  method_of t (reached, (b, i, (among, of, inside, here, point), call)) =
      let (d, x, name, descriptor, k, code, method, class, has, body) = All-contains (IsOfMethod p) p.bodies b coded.bodies among in
      (d, x, name, descriptor, subst (λ (m : MethodId). MethodOf p m d x name descriptor) of method)

  -- the class of a number has the name that stands there
  name_of : (c : ℕ) (k : ClassFile) (class : List ℕ) → IsClass p.classes c k → slice_get names c ≡ Some class → IsNamed p.classes class c
  name_of c k class is at =
      let n = named.each c k is in
      (k, is, n.1 ∙ sym n.2 ∙ at)

  pub statement_said : (r : Refused) (line : List ℕ) → IsRefused p r → IsSaidBy texts names r line → (text : List ℕ) × IsStatementText p r.place text × (line ≡ statement_refusal r.kind text)
  statement_said r line (is, why) (t, class, at, class_at, (l, there, said)) =
      let (d, x, name, descriptor, method) = method_of r.place is in
      let w = told.texts r.place.method d x name descriptor method in
      let same : t ≡ w.0 = same_Some t w.0 (sym at ∙ w.1) in
      let of_class : t.class.0 ≡ d.class = ap (λ (z : MethodText). z.class.0) same ∙ w.2 in
      let named_so : name ≡ t.name = sym (ap (λ (z : MethodText). z.name) same ∙ w.3) in
      let described_so : descriptor ≡ t.descriptor = sym (ap (λ (z : MethodText). z.descriptor) same ∙ w.4) in
      let file = method.1 in
      let class_named = name_of d.class file.0 class file.1 (subst (λ n. slice_get names n ≡ Some class) of_class class_at) in
      let line_is = (told.lines r.place l (runs r.place is)).0 (t, at, there) in
      let text = statement_text class t.name t.descriptor r.place.pc l in (
        text,
        (
          d,
          x,
          class,
          t.name,
          t.descriptor,
          l,
          subst (λ n. MethodOf p r.place.method d x n t.descriptor) named_so (subst (λ n. MethodOf p r.place.method d x name n) described_so method),
          class_named,
          line_is,
          refl,
        ),
        said,
      )

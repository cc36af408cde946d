-- A program of code has all that is asked of it.
use Rattle.std.proofs.Common.{◌≡◌, ℕ, true, List, All, Contains, sym, subst, ◌∙◌}
use Rattle.std.proofs.lemmas.Option.{same_Some}
use Rattle.std.proofs.lemmas.List.Elements.{All-contains}
use Rattle.slicer_ids.specs.declared.ids.MethodId.{MethodId}
use Rattle.class_form.specs.Classes.{Declared}
use Rattle.class_form.specs.ClassRules.{IsClassFile, IsMethodMember}
use Rattle.class_form.specs.Numbers.{IsNamedClass}
use Rattle.class_form.specs.Pools.{MemberKey}
use Rattle.class_form.specs.Resolution.{DeclaresInstance}
use Rattle.class_form.specs.Types.{IsMethodType}
use Rattle.class_form.specs.declared.class_file.ClassFile.{ClassFile}
use Rattle.class_form.specs.declared.class_file.Member.{Member}
use Rattle.class_form.specs.declared.class_file.CodeBody.{CodeBody}
use Rattle.class_form.specs.declared.types.MethodType.{MethodType}
use Rattle.class_form.specs.declared.body.Body.{Body}
use Rattle.class_form.proofs.Indices.{there_at}
use Rattle.dep_form.specs.declared.rules.Entry.{Entry}
use Rattle.program_form.specs.Programs.{Program, MethodOf, CodeOf, HasFormal, DeclaresOnce}
use Rattle.program_code.specs.Codes.{IsOfMethod, IsProgramOfCode}
use Rattle.constraint_form.specs.Asked.{IsReadProgram}
use Rattle.read_programs.proofs.Named.{all_named}
use Rattle.read_programs.proofs.Order.{instructions_in_order}
use Rattle.read_programs.proofs.Members.{virtual_member}
use Rattle.read_programs.proofs.Arrays.{array_type, few_dimensions}
use Rattle.read_programs.proofs.Operands.{operands_fit}

pub code_of : (p : Program) → IsProgramOfCode p → (b : Body) → Contains p.bodies b → (c : CodeBody) × CodeOf p b.method c
code_of p coded b c =
    let h : IsOfMethod p b = All-contains (IsOfMethod p) p.bodies b coded.bodies c in
    (h.5, (h.0, h.1, h.2, h.3, h.6, h.8))

type_of : (p : Program) → All IsClassFile p.classes → (m : MethodId) (d : Declared) (x : Member) (name bytes : List ℕ) → MethodOf p m d x name bytes → (t : MethodType) × IsMethodType bytes t
type_of p sound m d x name bytes (at, (k, class, (member, named, described))) =
    let file = All-contains IsClassFile p.classes k sound (there_at p.classes d.class k class) in
    let keeps = All-contains (IsMethodMember k.pool k.flags) k.methods x file.methods (there_at k.methods d.index x member) in
    let texts = keeps.texts in
    let same = same_Some texts.1 bytes (sym texts.3 ∙ described) in
    (texts.5.0, subst (λ b. IsMethodType b texts.5.0) same texts.5.1)

pub has_what_is_asked : (p : Program) → IsProgramOfCode p → All IsClassFile p.classes
    → ((e : Entry) → Contains p.entries e → e.arguments ≡ true → HasFormal p e.method 0)
    → ((classes : List ClassFile) (key : MemberKey) → All IsNamedClass classes → DeclaresOnce (DeclaresInstance classes key)) → IsReadProgram p
has_what_is_asked p coded sound entries once = record {
  classes = coded.classes;
  bodies = coded.order;
  coded = code_of p coded;
  instructions = instructions_in_order p coded;
  once = λ key. once p.classes key (all_named p.classes sound);
  types = type_of p sound;
  operands = λ s t instance i d call is operand. operands_fit p coded sound s t instance i d call is operand;
  members = virtual_member p coded sound;
  arrays = λ s is. array_type p coded s sound is;
  dimensions = λ s b i text t at multi names is. few_dimensions p coded s b i text t at names is;
  entries = entries;
}

-- The least program is one of which constraints can be made.
use Rattle.std.proofs.Common.{◌≡◌, ◌<◌, ℕ, zero, suc, List, [], ◌∷◌, length, get_or, Some, None, refl, sym, subst, ap, ◌∙◌, inl, inr, arith}
use Rattle.std.specs.Prelude.{slice_get, codes, AllPairs}
use Rattle.std.proofs.lemmas.Option.{same_Some}
use Rattle.slicer_ids.specs.declared.ids.MethodId.{MethodId}
use Rattle.class_form.specs.Pools.{utf_at}
use Rattle.class_form.specs.Types.{IsMethodType}
use Rattle.class_form.specs.Opcodes.{IsCall, IsVirtualCall, IsNewArray, IsMultiNewArray}
use Rattle.class_form.specs.Classes.{Declared, IsStatic}
use Rattle.class_form.specs.declared.class_file.ClassFile.{ClassFile}
use Rattle.class_form.specs.declared.class_file.Member.{Member}
use Rattle.class_form.specs.declared.class_file.Content.TheVariants.{Code}
use Rattle.class_form.specs.declared.body.Body.{Body}
use Rattle.class_form.specs.declared.types.MethodType.{MethodType}
use Rattle.class_form.specs.declared.types.BaseType.TheVariants.{Class as OfClass}
use Rattle.class_form.proofs.ClassNames.{is_class_name-Decides}
use Rattle.class_form.proofs.OneType.{one_method_type}
use Rattle.dep_form.specs.declared.rules.Entry.{Entry}
use Rattle.program_form.specs.Programs.{MethodOf, CodeOf, HasFormal, Initializes}
use Rattle.program_form.specs.Tiny.{tiny_program, tiny_class, tiny_pool, tiny_member, tiny_place, tiny_code, tiny_body, tiny_method, tiny_entry}
use Rattle.program_form.proofs.Tiny.{single, never, class_place, is_main}
use Rattle.constraint_form.specs.Asked.{IsReadProgram}

pub one_alone : {A : Type 0} (R : A → A → Type 0) (x : A) → AllPairs R (x ∷ [])
one_alone R x i j d lt within = absurd (omega (arith, lt, within))

abbrev pub text : List ℕ
text = codes "([Ljava/lang/String;)V"

abbrev pub main_type : MethodType
main_type = record { arguments = record { dims = 1; base = OfClass (codes "java/lang/String") } ∷ []; result = None }

pub main_spelled : IsMethodType text main_type
main_spelled = ((((is_class_name-Decides (codes "java/lang/String")).0 refl, omega arith), tt), omega arith, tt, refl)

-- its only method is main
pub class_number : (n : ℕ) (k : ClassFile) → slice_get tiny_program.classes n ≡ Some k → n ≡ 0
class_number zero k e = refl
class_number (suc n) k e = absurd cc

pub member_number : (n : ℕ) (x : Member) → slice_get tiny_class.methods n ≡ Some x → (n ≡ 0) × (x ≡ tiny_member)
member_number zero x e = (refl, same_Some x tiny_member (sym e))
member_number (suc n) x e = absurd cc

pub method_number : (m : MethodId) (d : Declared) (x : Member) (name bytes : List ℕ) → MethodOf tiny_program m d x name bytes → (m.0 ≡ 0) × (x ≡ tiny_member) × (bytes ≡ text)
method_number m d x name bytes (at, (k, is, (declared, named, described))) =
    let file : k ≡ tiny_class = class_place d.class k is in
    let member = member_number d.index x (subst (λ (c : ClassFile). slice_get c.methods d.index ≡ Some x) file declared) in
    let typed : utf_at tiny_pool 4 ≡ Some bytes = subst (λ (y : Member). utf_at tiny_pool y.descriptor ≡ Some bytes) member.1 (subst (λ (c : ClassFile). utf_at c.pool x.descriptor ≡ Some bytes) file described) in
    (first m.0 d at, member.1, same_Some bytes text (sym typed))
  where
    first : (n : ℕ) (d : Declared) → slice_get tiny_program.methods n ≡ Some d → n ≡ 0
    first zero d e = refl
    first (suc n) d e = absurd cc

pub main_method : MethodOf tiny_program tiny_method tiny_place tiny_member (codes "main") text
main_method = (refl, (tiny_class, refl, (refl, refl, refl)))

pub static_main : IsStatic 9
static_main = λ e. omega (arith, e)

pub main_formal : HasFormal tiny_program tiny_method 0
main_formal = (tiny_place, tiny_member, codes "main", text, main_type, main_method, main_spelled, inl (static_main, omega arith))

-- .. which has one argument
pub only_formal : (m : MethodId) (i : ℕ) → HasFormal tiny_program m i → (m ≡ tiny_method) × (i ≡ 0)
only_formal m i (d, x, name, bytes, t, method, typed, which) =
    let (number, member, bytes_are) = method_number m d x name bytes method in
    let same : t ≡ main_type = one_method_type text t main_type (subst (λ b. IsMethodType b t) bytes_are typed) main_spelled in
    let arguments : length t.arguments ≡ 1 = ap (λ (z : MethodType). length z.arguments) same in (
      ap (λ k. record { 0 = k }) number,
      elim which [
        | inl (static, lt) ↦ omega (arith, lt, arguments)
        | inr (instance, lt) ↦ absurd (instance (subst (λ (y : Member). IsStatic y.flags) (sym member) static_main))
      ],
    )

main_code : CodeOf tiny_program tiny_method tiny_code
main_code = (tiny_place, tiny_member, codes "main", text, main_method, (record { name = 5; content = Code tiny_code }, (0, omega arith, refl), refl))

static_members : (d : Declared) (k : ClassFile) (x : Member) → slice_get tiny_program.classes d.class ≡ Some k → slice_get k.methods d.index ≡ Some x → IsStatic x.flags
static_members d k x is at =
    let member = member_number d.index x (subst (λ (c : ClassFile). slice_get c.methods d.index ≡ Some x) (class_place d.class k is) at) in
    subst (λ (y : Member). IsStatic y.flags) (sym member.1) static_main

not_virtual : IsVirtualCall 177 → ⊥
not_virtual (inl e) = omega (arith, e)
not_virtual (inr e) = omega (arith, e)

pub tiny_asked : IsReadProgram tiny_program
tiny_asked = record {
  classes = λ i j d lt within. absurd (omega (arith, lt, within));
  bodies = one_alone (λ (a b : Body). a.method.0 < b.method.0) tiny_body;
  coded = λ b c. (tiny_code, subst (λ (x : Body). CodeOf tiny_program x.method tiny_code) (single tiny_body b c) main_code);
  instructions = λ b c. subst (λ (x : Body). AllPairs (λ i j. i.pc < j.pc) x.instrs) (single tiny_body b c) (λ i j d lt within. absurd (omega (arith, lt, within)));
  once = λ key d e (k, x, is, (at, named, described), priv, instance) other same. absurd (instance (static_members d k x is at));
  types = λ m d x name bytes method. (main_type, subst (λ b. IsMethodType b main_type) (sym (method_number m d x name bytes method).2) main_spelled);
  operands = λ s t instance i d type has is. absurd (never s IsCall (λ k. omega (arith, k.0, k.1)) type.0);
  members = λ s o. absurd (never s IsVirtualCall not_virtual o);
  arrays = λ s o. absurd (never s IsNewArray (λ k. omega (arith, k.0, k.1)) o);
  dimensions = λ s b i bytes t at is named typed. absurd (never s IsMultiNewArray (λ k. omega (arith, k)) (b, i, at, is));
  entries = λ e c given. subst (λ (x : Entry). HasFormal tiny_program x.method 0) (single tiny_entry e c) main_formal;
}

pub no_initializer : (c : ℕ) (m : MethodId) → Initializes tiny_program c m → ⊥
no_initializer c m (d, x, name, bytes, method, e, up) =
    let main = is_main m d x name bytes method in
    let same : codes "main" ≡ codes "<clinit>" = sym main.1 ∙ e in
    omega (arith, ap (λ (xs : List ℕ). get_or xs 0 0) same)

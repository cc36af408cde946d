-- What there is in the least program, and what facts hold of it.
use Rattle.std.proofs.Common.{◌≡◌, ◌⊎◌, ℕ, zero, suc, List, [], ◌∷◌, get_or, Some, Contains, refl, sym, subst, ap, ◌∙◌, inl, inr, arith}
use Rattle.std.specs.Prelude.{slice_get, codes}
use Rattle.std.proofs.lemmas.Option.{same_Some}
use Rattle.slicer_ids.specs.declared.ids.MethodId.{MethodId}
use Rattle.slicer_ids.specs.declared.ids.Statement.{Statement}
use Rattle.class_form.specs.Opcodes.{IsLoad, IsStore, IsReferenceLoad, IsReferenceStore, IsConstant, IsValueReturn, IsGetStatic, IsPutStatic, IsGetField, IsPutField, IsCall, IsVirtualCall, IsSpecialCall, IsStaticCall, IsNew, IsThrow, IsCheckCast, IsMultiNewArray}
use Rattle.class_form.specs.Classes.{Declared}
use Rattle.class_form.specs.declared.body.Body.{Body}
use Rattle.class_form.specs.declared.body.Instr.{Instr}
use Rattle.class_form.specs.declared.types.FieldType.{FieldType}
use Rattle.class_form.specs.declared.class_file.ClassFile.{ClassFile}
use Rattle.class_form.specs.declared.class_file.Member.{Member}
use Rattle.dep_form.specs.declared.rules.Entry.{Entry}
use Rattle.dep_form.specs.PointsTo.{Reached, Has, Cell}
use Rattle.program_form.specs.Programs.{MethodOf, Initializes}
use Rattle.program_form.specs.Statements.{HasOpcode}
use Rattle.program_form.specs.Sites.{Site, Made, OfRoot, HasType, of_new, of_primitive_array, of_reference_array, of_dimension, of_constant, of_result, of_arguments, of_argument}
use Rattle.program_form.specs.Facts.{ProgramFact, IsAllocation, ArgumentOf, Elements, Follows, Holds, enters, given, given_elements, entry_initializes, initializes, allocates, nests, reads_fresh, copies, casts, answers, reads_field, reads_element, reads_static, writes_field, writes_element, writes_static, calls, calls_enter, calls_receive, goes_outside, goes_outside_at, selects, selects_enter, selects_receive, selects_outside, passes, receives, throws, catches, leaves, answers_fresh, outside_gives, outside_writes}
use Rattle.program_form.proofs.Closed.{all_in}
use Rattle.program_form.specs.Tiny.{tiny_program, tiny_body, tiny_instruction, tiny_method, tiny_place, tiny_class, tiny_member, tiny_pool, tiny_entry}
use Rattle.class_form.specs.Pools.{utf_at}
use Rattle.class_form.specs.declared.types.BaseType.TheVariants.{Class as OfClass}

pub single : {A : Type 0} (x y : A) → Contains (x ∷ []) y → x ≡ y
single x y (zero, h, e) = e
single x y (suc k, h, e) = absurd (omega (arith, h))

-- its only instruction returns
pub returns_only : (s : Statement) (Kind : ℕ → Type 0) → HasOpcode tiny_program s Kind → Kind 177
returns_only s Kind h =
    let body = single tiny_body h.0 h.2.0 in
    let instruction = single tiny_instruction h.1 (subst (λ (b : Body). Contains b.instrs h.1) (sym body) h.2.2) in
    subst (λ (i : Instr). Kind i.op) (sym instruction) h.3

pub never : (s : Statement) (Kind : ℕ → Type 0) → (Kind 177 → ⊥) → HasOpcode tiny_program s Kind → ⊥
never s Kind not h = not (returns_only s Kind h)

pub method_place : (n : ℕ) (d : Declared) → slice_get tiny_program.methods n ≡ Some d → (n ≡ 0) × (d ≡ tiny_place)
method_place zero d e = (refl, same_Some d tiny_place (sym e))
method_place (suc n) d e = absurd cc

pub class_place : (n : ℕ) (k : ClassFile) → slice_get tiny_program.classes n ≡ Some k → k ≡ tiny_class
class_place zero k e = same_Some k tiny_class (sym e)
class_place (suc n) k e = absurd cc

member_place : (n : ℕ) (x : Member) → slice_get tiny_class.methods n ≡ Some x → x ≡ tiny_member
member_place zero x e = same_Some x tiny_member (sym e)
member_place (suc n) x e = absurd cc

-- its only method is main
pub is_main : (m : MethodId) (d : Declared) (x : Member) (name bytes : List ℕ) → MethodOf tiny_program m d x name bytes → (x ≡ tiny_member) × (name ≡ codes "main")
is_main m d x name bytes h =
    let k = h.1.0 in
    let file : k ≡ tiny_class = class_place d.class k h.1.1 in
    let member : x ≡ tiny_member = member_place d.index x (subst (λ (c : ClassFile). slice_get c.methods d.index ≡ Some x) file h.1.2.0) in
    let spelled : utf_at tiny_pool 3 ≡ Some name = subst (λ (y : Member). utf_at tiny_pool y.name ≡ Some name) member (subst (λ (c : ClassFile). utf_at c.pool x.name ≡ Some name) file h.1.2.1) in
    (member, same_Some name (codes "main") (sym spelled))

no_initializer : (c : ℕ) (m : MethodId) → Initializes tiny_program c m → ⊥
no_initializer c m i =
    let name = is_main m i.0 i.1 i.2 i.3 i.4 in
    let e : codes "main" ≡ codes "<clinit>" = sym name.1 ∙ i.5 in
    omega (arith, ap (λ (xs : List ℕ). get_or xs 0 0) e)

no_call : (s : Statement) → HasOpcode tiny_program s IsCall → ⊥
no_call s h = never s IsCall (λ k. omega (arith, k.0, k.1)) h

-- an allocation, a constant and a read of a field is no return
no_field : (s : Statement) → HasOpcode tiny_program s (λ op. IsGetStatic op ⊎ IsGetField op) → ⊥
no_field s h = never s (λ op. IsGetStatic op ⊎ IsGetField op) (λ k. elim k [ inl a ↦ omega (arith, a) | inr b ↦ omega (arith, b) ]) h

not_allocation : IsAllocation 177 → ⊥
not_allocation (inl a) = omega (arith, a)
not_allocation (inr (inl a)) = omega (arith, a.0, a.1)
not_allocation (inr (inr (inl a))) = omega (arith, a)
not_allocation (inr (inr (inr a))) = omega (arith, a.0, a.1)

abbrev pub strings : FieldType
strings = record { dims = 1; base = OfClass (codes "java/lang/String") }

abbrev pub string : FieldType
string = record { dims = 0; base = OfClass (codes "java/lang/String") }

-- its sites are the root's two
pub typed : {h : Site} {t : FieldType} → HasType tiny_program h t → ((h ≡ OfRoot 0) × (t ≡ strings)) ⊎ ((h ≡ OfRoot 1) × (t ≡ string))
typed (of_new {s} o a b) = absurd (never s IsNew (λ k. omega (arith, k)) o)
typed (of_primitive_array {s} o a b) = absurd (never s (λ op. op ≡ 188) (λ k. omega (arith, k)) o)
typed (of_reference_array {s} o a b d) = absurd (never s (λ op. op ≡ 189) (λ k. omega (arith, k)) o)
typed (of_dimension {s} {b} {i} at m a d e f) = absurd (never s IsMultiNewArray (λ k. omega (arith, k)) (b, i, at, m))
typed (of_constant {s} o a b) = absurd (never s IsConstant (λ k. omega (arith, k.0, k.1)) o)
typed (of_result {s} (inl r) a b d) = absurd (no_call s r.1.0)
typed (of_result {s} (inr r) a b d) = absurd (no_field s r.0)
typed (of_arguments e) = inl (refl, e)
typed (of_argument e) = inr (refl, e)

none_made : {s : Statement} {k : ℕ} {t : FieldType} → HasType tiny_program (Made s k) t → ⊥
none_made h = elim (typed h) [ inl e ↦ absurd (cc e.0) | inr e ↦ absurd (cc e.0) ]

-- the facts that hold
abbrev pub Known : ProgramFact → Type 0
Known f = (f ≡ Reached tiny_method) ⊎ ((f ≡ Has (ArgumentOf tiny_method 0) (OfRoot 0)) ⊎ (f ≡ Cell (OfRoot 0) Elements (OfRoot 1)))

no_virtual : (s : Statement) → HasOpcode tiny_program s IsVirtualCall → ⊥
no_virtual s h = never s IsVirtualCall (λ k. elim k [ inl a ↦ omega (arith, a) | inr b ↦ omega (arith, b) ]) h

closed : {f : ProgramFact} → Follows tiny_program Known f → Known f
closed (enters {e} c) = inl (ap (λ (x : Entry). Reached x.method) (sym (single tiny_entry e c)))
closed (given {e} c a) = inr (inl (ap (λ (x : Entry). Has (ArgumentOf x.method 0) (OfRoot 0)) (sym (single tiny_entry e c))))
closed given_elements = inr (inr refl)
closed (entry_initializes {c} {m} a b i) = absurd (no_initializer c m i)
closed (initializes {c} {m} a b i) = absurd (no_initializer c m i)
closed (allocates {s} r t) = absurd (never s IsAllocation not_allocation r.1)
closed (nests {s} r t u) = absurd (none_made t)
closed (reads_fresh {s} r n t) = absurd (none_made t)
closed (copies {s} r o) = absurd (never s (λ op. IsLoad op ⊎ IsStore op) (λ k. elim k [ inl a ↦ omega (arith, a.0, a.1) | inr b ↦ omega (arith, b.0, b.1) ]) r.1)
closed (casts {s} r o n q) = absurd (never s IsCheckCast (λ k. omega (arith, k)) r.1)
closed (answers {s} r o) = absurd (never s IsValueReturn (λ k. omega (arith, k.0, k.1)) r.1)
closed (reads_field {s} f r n o q) = absurd (never s IsGetField (λ k. omega (arith, k)) r.1)
closed (reads_element {s} r o q) = absurd (never s IsReferenceLoad (λ k. omega (arith, k)) r.1)
closed (reads_static {s} r v q) = absurd (never s IsGetStatic (λ k. omega (arith, k)) r.1)
closed (writes_field {s} f r n o q) = absurd (never s IsPutField (λ k. omega (arith, k)) r.1)
closed (writes_element {s} r o q) = absurd (never s IsReferenceStore (λ k. omega (arith, k)) r.1)
closed (writes_static {s} r v q) = absurd (never s IsPutStatic (λ k. omega (arith, k)) r.1)
closed (calls {s} r g) = absurd (no_call s r.1)
closed (calls_enter {s} r g) = absurd (no_call s r.1)
closed (calls_receive {s} r g a b) = absurd (never s IsSpecialCall (λ k. omega (arith, k)) r.1)
closed (goes_outside {s} r n) = absurd (never s IsStaticCall (λ k. omega (arith, k)) r.1)
closed (goes_outside_at {s} r n o) = absurd (never s IsSpecialCall (λ k. omega (arith, k)) r.1)
closed (selects {s} r o t) = absurd (no_virtual s r.1)
closed (selects_enter {s} r o t) = absurd (no_virtual s r.1)
closed (selects_receive {s} r o t) = absurd (no_virtual s r.1)
closed (selects_outside {s} r o t) = absurd (no_virtual s r.1)
closed (passes {s} r k i n a o) = absurd (no_call s r.1)
closed (receives {s} r k h) = absurd (no_call s r.1)
closed (throws {s} r k h) = absurd (no_call s r.1)
closed (catches {s} (inl r) c t) = absurd (never s IsThrow (λ k. omega (arith, k)) r.0.1)
closed (catches {s} (inr r) c t) = absurd (no_call s r.0.1)
closed (leaves {s} (inl r) m) = absurd (never s IsThrow (λ k. omega (arith, k)) r.0.1)
closed (leaves {s} (inr r) m) = absurd (no_call s r.0.1)
closed (answers_fresh {s} r k t) = absurd (no_call s r.1)
closed (outside_gives {s} r o t g) = absurd (no_call s r.1)
closed (outside_writes {s} r o w g) = absurd (no_call s r.1)

pub known : (f : ProgramFact) → Holds tiny_program f → Known f
known f h = all_in tiny_program Known (λ g x. closed x) h.0 h.1 f h.2

-- .. and they do
pub reached_holds : Holds tiny_program (Reached tiny_method)
reached_holds = (Reached tiny_method ∷ [], (enters {e = tiny_entry} (0, omega arith, refl), tt), (0, omega arith, refl))

pub given_holds : Holds tiny_program (Has (ArgumentOf tiny_method 0) (OfRoot 0))
given_holds = (Has (ArgumentOf tiny_method 0) (OfRoot 0) ∷ [], (given {e = tiny_entry} (0, omega arith, refl) refl, tt), (0, omega arith, refl))

pub elements_hold : Holds tiny_program (Cell (OfRoot 0) Elements (OfRoot 1))
elements_hold = (Cell (OfRoot 0) Elements (OfRoot 1) ∷ [], (given_elements, tt), (0, omega arith, refl))

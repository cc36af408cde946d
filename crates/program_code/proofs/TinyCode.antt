-- The body of the least program is that of its code: one class, with one method, main, that returns at once.
use Rattle.std.proofs.Common.{◌≡◌, ◌⊎◌, ◌↔◌, ◌<◌, ◌≤◌, ◌-◌, ℕ, zero, suc, false, List, [], ◌∷◌, All, AllPairs, Contains, Some, None, IsTrue, codes, inl, inr, refl, sym, ap, subst, ◌∙◌, arith}
use Rattle.std.specs.Prelude.{slice_get}
use Rattle.std.specs.List.{slice_range}
use Rattle.std.proofs.lemmas.Bool.{false≢true, cases_lt, cases_eq}
use Rattle.std.proofs.lemmas.Option.{same_Some}
use Rattle.std.proofs.lemmas.List.Elements.{All-cons}
use Rattle.slicer_ids.specs.Sets.{IsOrderedListOf}
use Rattle.slicer_ids.specs.Walks.{IsWalk}
use Rattle.slicer_ids.specs.declared.ids.MethodId.{MethodId}
use Rattle.class_form.specs.Classes.{Declared, IsMethod, IsField, HasCode, IsStatic}
use Rattle.class_form.specs.Numbers.{MemberBefore, IsThere, AreMethods, AreFields}
use Rattle.class_form.specs.Types.{IsMethodType}
use Rattle.class_form.specs.Table.{opcode_of}
use Rattle.class_form.specs.Instructions.{Stands, Instrs}
use Rattle.class_form.specs.Shapes.{GoesTo, Catches, ControlPasses, IsReachable, IsReached, Uses, MovesSlot, MakesSlot, HasLocal, AreDepths, IsPointOf, ArePoints, Shaped, local_slots, taken, depth_after}
use Rattle.class_form.specs.Names.{IsClassName}
use Rattle.class_form.specs.Reaching.{Place, Begins, Carries, HoldsAt}
use Rattle.class_form.specs.declared.body.Operand.{Operand}
use Rattle.class_form.specs.Reaches.{DefBefore, IsReachOf}
use Rattle.class_form.specs.declared.class_file.ClassFile.{ClassFile}
use Rattle.class_form.specs.declared.class_file.Member.{Member}
use Rattle.class_form.specs.declared.types.FieldType.{FieldType}
use Rattle.class_form.specs.declared.types.BaseType.TheVariants.{Class}
use Rattle.class_form.specs.declared.types.MethodType.{MethodType}
use Rattle.class_form.proofs.ClassNames.{is_class_name-Decides}
use Rattle.class_form.specs.declared.body.Instr.{Instr}
use Rattle.class_form.specs.declared.body.Point.{Point}
use Rattle.class_form.specs.declared.body.Shape.{Shape}
use Rattle.class_form.specs.declared.body.SlotUse.{SlotUse}
use Rattle.class_form.specs.declared.body.Def.{Def}
use Rattle.class_form.specs.declared.body.Def.TheVariants.{Formal, Value, Caught}
use Rattle.body_form.specs.Bodies.{AreSlotsOf, IsBodyOf}
use Rattle.program_form.specs.Programs.{CodeOf}
use Rattle.program_form.specs.Tiny.{tiny_method, tiny_place, tiny_member, tiny_code, tiny_instruction, tiny_point, tiny_pool, tiny_class, tiny_body, tiny_program}
use Rattle.program_form.proofs.Tiny.{single}
use Rattle.program_code.specs.Codes.{IsOfMethod, MethodBefore, IsProgramOfCode}

abbrev shape : Shape
shape = tiny_body.shape

-- LISTS OF NONE AND OF ONE

all_none : {A : Type 0} (P : A → Type 0) → All P []
all_none P = λ k d lt. absurd (omega (arith, lt))

all_one : {A : Type 0} (P : A → Type 0) (x : A) → P x → All P (x ∷ [])
all_one P x h = All-cons P x [] h (all_none P)

pairs_none : {A : Type 0} (R : A → A → Type 0) → AllPairs R []
pairs_none R = λ i j d lt within. absurd (omega (arith, within))

pairs_one : {A : Type 0} (R : A → A → Type 0) (x : A) → AllPairs R (x ∷ [])
pairs_one R x = λ i j d lt within. absurd (omega (arith, lt, within))

nothing : {A : Type 0} (x : A) → Contains [] x → ⊥
nothing x c = absurd (omega (arith, c.1))

none_of : {A : Type 0} (R : A → A → Type 0) (P : A → Type 0) → ((x : A) → P x → ⊥) → IsOrderedListOf R [] P
none_of R P never = record { each = all_none P; order = pairs_none R; whole = λ x h. absurd (never x h) }

-- THE CLASS

class_place : (n : ℕ) (k : ClassFile) → slice_get (tiny_class ∷ []) n ≡ Some k → (n ≡ 0) × (k ≡ tiny_class)
class_place zero k e = (refl, same_Some k tiny_class (sym e))
class_place (suc n) k e = absurd cc

member_place : (n : ℕ) (x : Member) → slice_get (tiny_member ∷ []) n ≡ Some x → n ≡ 0
member_place zero x e = refl
member_place (suc n) x e = absurd cc

method_place : (n : ℕ) (d : Declared) → slice_get (tiny_place ∷ []) n ≡ Some d → n ≡ 0
method_place zero d e = refl
method_place (suc n) d e = absurd cc

main_there : IsMethod (tiny_class ∷ []) tiny_place tiny_member (codes "main") (codes "([Ljava/lang/String;)V")
main_there = (tiny_class, refl, (refl, refl, refl))

same_place : (d : Declared) → d.class ≡ 0 → d.index ≡ 0 → tiny_place ≡ d
same_place d c i = by_parts d.class d.index c i
  where
    by_parts : (c i : ℕ) → c ≡ 0 → i ≡ 0 → tiny_place ≡ record { class = c; index = i }
    by_parts c i p q = rw (p, q) refl

methods_are : AreMethods (tiny_class ∷ []) (tiny_place ∷ [])
methods_are = record {
  each = all_one (IsThere (IsMethod (tiny_class ∷ []))) tiny_place (tiny_member, codes "main", codes "([Ljava/lang/String;)V", main_there);
  order = pairs_one (MemberBefore (IsMethod (tiny_class ∷ []))) tiny_place;
  whole = λ d h.
      let file = class_place d.class h.3.0 h.3.1 in
      let index = member_place d.index h.0 (subst (λ (k : ClassFile). slice_get k.methods d.index ≡ Some h.0) file.1 h.3.2.0) in
      (0, omega arith, same_place d file.0 index);
}

fields_are : AreFields (tiny_class ∷ []) []
fields_are = none_of (MemberBefore (IsField (tiny_class ∷ []))) (IsThere (IsField (tiny_class ∷ []))) (λ d h.
    let file = class_place d.class h.3.0 h.3.1 in
    no_field d.index h.0 (subst (λ (k : ClassFile). slice_get k.fields d.index ≡ Some h.0) file.1 h.3.2.0))
  where
    no_field : (n : ℕ) (x : Member) → slice_get [] n ≡ Some x → ⊥
    no_field n x e = absurd cc

-- THE CODE

stands : Stands (177 ∷ []) tiny_pool 0 tiny_instruction
unfolding opcode_of
stands = record {
  place = refl;
  inside = omega arith;
  passes = (refl, (refl, (omega arith, (tt, (omega arith, (tt, (tt, tt)))))));
  size = refl;
  op = refl;
  wide = refl;
  index = refl;
  dims = refl;
  takes = refl;
  leaves = refl;
}

instrs_are : Instrs (177 ∷ []) tiny_pool (tiny_instruction ∷ [])
unfolding opcode_of
instrs_are = (stands, refl, λ k d lt. absurd (omega (arith, lt)), refl)

ends_there : (opcode_of 177).goes_on ≡ false
unfolding opcode_of
ends_there = refl

no_local : local_slots tiny_instruction ≡ 0
unfolding opcode_of
no_local = refl

takes_none : taken tiny_instruction ≡ 0
unfolding opcode_of
takes_none = refl

after_none : depth_after tiny_instruction 0 ≡ 0
unfolding opcode_of
after_none = refl

no_makes : (opcode_of 177).makes ≡ 0
unfolding opcode_of
no_makes = refl

goes_nowhere : (i : Instr) (pc : ℕ) → tiny_instruction ≡ i → GoesTo i pc → ⊥
goes_nowhere i pc e g = never (subst (λ (j : Instr). GoesTo j pc) (sym e) g)
  where
    never : GoesTo tiny_instruction pc → ⊥
    never (inl c) = nothing pc c
    never (inr on) = false≢true (sym ends_there ∙ on.0)

catches_none : (a h : ℕ) → Catches tiny_code a h → ⊥
catches_none a h c = nothing c.0 c.1

only : (i : Instr) → Contains (tiny_instruction ∷ []) i → tiny_instruction ≡ i
only i c = single tiny_instruction i c

passes_nowhere : (a b : ℕ) → ControlPasses tiny_code (tiny_instruction ∷ []) a b → ⊥
passes_nowhere a b (i, at, inl g) = goes_nowhere i b (only i at.0) g
passes_nowhere a b (i, at, inr c) = catches_none a b c

reached_start : (pc : ℕ) → IsReachable tiny_code (tiny_instruction ∷ []) pc → 0 ≡ pc
reached_start pc (xs, w) = by_walk xs w
  where
    by_walk : (xs : List ℕ) → IsWalk (ControlPasses tiny_code (tiny_instruction ∷ [])) 0 xs pc → 0 ≡ pc
    by_walk [] w = w
    by_walk (x ∷ xs) w = absurd (passes_nowhere 0 x w.0)

depths_are : AreDepths tiny_code (tiny_instruction ∷ []) (λ n. 0)
depths_are = record {
  start = refl;
  handler = λ i h at c. absurd (catches_none i.pc h c);
  operands = λ i at. let e = ap taken (only i at.0) in omega (arith, e, takes_none);
  result = λ i at. let e = ap (λ (j : Instr). depth_after j 0) (only i at.0) in omega (arith, e, after_none);
  after = λ i pc at g. absurd (goes_nowhere i pc (only i at.0) g);
}

point_is : IsPointOf tiny_code tiny_instruction tiny_point
point_is = record {
  pc = refl;
  op = refl;
  next = none_of (λ (a b : ℕ). a < b) (GoesTo tiny_instruction) (λ pc g. goes_nowhere tiny_instruction pc refl g);
  handlers = none_of (λ (a b : ℕ). a < b) (Catches tiny_code 0) (λ h c. catches_none 0 h c);
  uses = none_of (λ (a b : SlotUse). a.slot < b.slot) (Uses tiny_code tiny_instruction 0) (λ u h. no_operand u.operand h.0 h.1);
  moves = none_of (λ (a b : ℕ × ℕ). a.1 < b.1) (MovesSlot tiny_code tiny_instruction 0) (λ m h. no_source h.0 h.1 h.2);
  makes = none_of (λ (a b : ℕ). a < b) (MakesSlot tiny_code tiny_instruction 0) (λ slot h. no_slot slot h);
}
  where
    no_operand : (n : ℕ) (o : Operand) → slice_get [] n ≡ Some o → ⊥
    no_operand n o e = absurd cc

    no_source : (n m : ℕ) → slice_get [] n ≡ Some m → ⊥
    no_source n m e = absurd cc

    no_slot : (slot : ℕ) → MakesSlot tiny_code tiny_instruction 0 slot → ⊥
    no_slot slot (inl h) = absurd (omega (arith, h))
    no_slot slot (inr h) = absurd (omega (arith, h, no_makes))

points_are : ArePoints tiny_code (tiny_instruction ∷ []) (λ n. 0) (tiny_point ∷ [])
points_are = record {
  each = λ p c. let e = single tiny_point p c in subst (λ (q : Point). (i : Instr) × IsReached tiny_code (tiny_instruction ∷ []) i × IsPointOf tiny_code i q × (q.depth ≡ 0)) e (tiny_instruction, ((0, omega arith, refl), ([], refl)), point_is, refl);
  order = pairs_one (λ (a b : Point). a.pc < b.pc) tiny_point;
  whole = λ pc h. (tiny_point, (0, omega arith, refl), reached_start pc h);
}

shape_is : Shaped tiny_code (tiny_instruction ∷ []) (1 ∷ []) shape
shape_is = record {
  count = refl;
  formals = refl;
  entries = λ k d lt. absurd (omega (arith, lt));
  locals = all_one (HasLocal tiny_code) tiny_instruction (λ some. absurd (omega (arith, some, no_local)));
  ends = λ i at off. let e = only i at.0 in false≢true (sym ends_there ∙ subst (λ (j : Instr). IsTrue (opcode_of j.op).goes_on) (sym e) off.0);
  depths = (λ n. 0, depths_are, points_are);
}

abbrev strings : FieldType
strings = record { dims = 1; base = Class (codes "java/lang/String") }

abbrev main_of : MethodType
main_of = record { arguments = strings ∷ []; result = None }

main_type : IsMethodType (codes "([Ljava/lang/String;)V") main_of
main_type =
    let name : IsClassName (codes "java/lang/String") = (is_class_name-Decides (codes "java/lang/String")).0 refl in
    let few : 1 ≤ 255 = omega arith in
    (((name, few), tt), few, tt, refl)

static : IsStatic 9
static e = absurd cc

slots_are : AreSlotsOf tiny_pool tiny_member (1 ∷ [])
slots_are = (main_of, (codes "([Ljava/lang/String;)V", refl, main_type), [], inl (static, refl), refl)

-- WHAT HOLDS: THE ARGUMENT, AT THE START

begins_here : (d : Def) (a : Place) → Begins shape d a → (d ≡ Formal 0) × (a.pc ≡ 0) × (a.slot ≡ 0)
begins_here (Formal zero) a (start, (width, is, low, high)) = (refl, start, let e : width ≡ 1 = same_Some width 1 (sym is) in omega (arith, high, e))
begins_here (Formal (suc i)) a (start, (width, is, low, high)) = absurd cc
begins_here (Value pc) a (p, at, next, makes) = let e = single tiny_point p at.0 in absurd (nothing a.pc (subst (λ (q : Point). Contains q.next a.pc) (sym e) next))
begins_here (Caught h) a (p, c, handlers, at, slot) = let e = single tiny_point p c in absurd (nothing h (subst (λ (q : Point). Contains q.handlers h) (sym e) handlers))

carries_nowhere : (a b : Place) → Carries shape a b → ⊥
carries_nowhere a b (p, q, at, to, inl next) = let e = single tiny_point p at.0 in nothing b.pc (subst (λ (r : Point). Contains r.next b.pc) (sym e) next.0)
carries_nowhere a b (p, q, at, to, inr caught) = let e = single tiny_point p at.0 in nothing b.pc (subst (λ (r : Point). Contains r.handlers b.pc) (sym e) caught.0)

holds_here : (pc slot : ℕ) (d : Def) → HoldsAt shape pc slot d → (d ≡ Formal 0) × (pc ≡ 0) × (slot ≡ 0)
holds_here pc slot d (a, begins, (xs, w)) = by_walk xs w
  where
    by_walk : (xs : List Place) → IsWalk (Carries shape) a xs (record { pc = pc; slot = slot }) → (d ≡ Formal 0) × (pc ≡ 0) × (slot ≡ 0)
    by_walk [] w = let b = begins_here d a begins in (b.0, ap (λ (x : Place). x.pc) (sym w) ∙ b.1, ap (λ (x : Place). x.slot) (sym w) ∙ b.2)
    by_walk (x ∷ xs) w = absurd (carries_nowhere a x w.0)

argument_holds : HoldsAt shape 0 0 (Formal 0)
argument_holds = (record { pc = 0; slot = 0 }, (refl, (1, refl, omega arith, omega arith)), ([], refl))

at_start : IsOrderedListOf DefBefore (Formal 0 ∷ []) (HoldsAt shape 0 0)
at_start = record {
  each = all_one (HoldsAt shape 0 0) (Formal 0) argument_holds;
  order = pairs_one DefBefore (Formal 0);
  whole = λ d h. (0, omega arith, sym (holds_here 0 0 d h).0);
}

-- the table has one line
place_is : (k : ℕ) (x : ℕ × ℕ) → slice_get tiny_body.reach.places k ≡ Some x → (k ≡ 0) × (x ≡ (0, 0))
place_is zero x e = (refl, same_Some x (0, 0) (sym e))
place_is (suc k) x e = absurd cc

module _ (pc slot low high : ℕ) (each : (k : ℕ) → ((low ≤ k) × (k < high)) ↔ (slice_get tiny_body.reach.places k ≡ Some (pc, slot))) where
  start_lines : (pc ≡ 0) × (slot ≡ 0) → (low ≡ 0) × (high ≡ 1)
  start_lines (p, s) =
      let here = (each 0).1 (rw (p, s) refl) in (
        omega (arith, here.0),
        elim (cases_lt 1 high) [
          | inl more ↦ let wrong = place_is 1 (pc, slot) ((each 1).0 (omega (arith, here.0), more)) in absurd (omega (arith, wrong.0))
          | inr few ↦ omega (arith, here.1, few)
        ],
      )

  other_lines : ((pc ≡ 0) × (slot ≡ 0) → ⊥) → high ≤ low
  other_lines never = elim (cases_lt low high) [
    | inl lt ↦ let is = place_is low (pc, slot) ((each low).0 (omega arith, lt)) in absurd (never (ap (λ (x : ℕ × ℕ). x.0) is.1, ap (λ (x : ℕ × ℕ). x.1) is.1))
    | inr le ↦ le
  ]

empty : (low high : ℕ) → high ≤ low → slice_range (Formal 0 ∷ []) low high ≡ []
empty low high le = let e : high - low ≡ 0 = omega (arith, le) in rw e refl

is_start : (pc slot : ℕ) → ((pc ≡ 0) × (slot ≡ 0)) ⊎ ((pc ≡ 0) × (slot ≡ 0) → ⊥)
is_start pc slot = elim (cases_eq pc 0) [
  | inl p ↦ elim (cases_eq slot 0) [ inl s ↦ inl (p, s) | inr no_slot ↦ inr (λ h. no_slot h.1) ]
  | inr no_pc ↦ inr (λ h. no_pc h.0)
]

reach_is : IsReachOf shape tiny_body.reach
reach_is pc slot defs (low, high, is, each) = elim (is_start pc slot) [
  | inl start ↦
      let lines = start_lines pc slot low high each start in
      let one : defs ≡ Formal 0 ∷ [] = is ∙ ap (λ n. slice_range (Formal 0 ∷ []) n high) lines.0 ∙ ap (λ n. slice_range (Formal 0 ∷ []) 0 n) lines.1 in
      subst (λ (ds : List Def). IsOrderedListOf DefBefore ds (HoldsAt shape pc slot)) (sym one) (rw (start.0, start.1) at_start)
  | inr other ↦
      let none : defs ≡ [] = is ∙ empty low high (other_lines pc slot low high each other) in
      subst (λ (ds : List Def). IsOrderedListOf DefBefore ds (HoldsAt shape pc slot)) (sym none)
      (none_of DefBefore (HoldsAt shape pc slot) (λ d h. let b = holds_here pc slot d h in other (b.1, b.2)))
]

body_is : IsBodyOf tiny_pool tiny_method tiny_member tiny_code tiny_body
body_is = record { method = refl; instrs = instrs_are; shape = (1 ∷ [], slots_are, shape_is); reach = reach_is }

pub tiny_is_of_code : IsProgramOfCode tiny_program
tiny_is_of_code = record {
  classes = λ i j d lt within. absurd (omega (arith, lt, within));
  methods = methods_are;
  fields = fields_are;
  bodies = all_one (IsOfMethod tiny_program) tiny_body
      (tiny_place, tiny_member, codes "main", codes "([Ljava/lang/String;)V", tiny_class, tiny_code, (refl, main_there), refl, main_code, body_is);
  order = pairs_one MethodBefore tiny_body;
  whole = λ m code h. (tiny_body, (0, omega arith, refl), same_method m (method_place m.0 h.0 h.4.0));
}
  where
    main_code : HasCode tiny_member tiny_code
    main_code = (_, (0, omega arith, refl), refl)

    same_method : (m : MethodId) → m.0 ≡ 0 → tiny_method ≡ m
    same_method m e = by_number m.0 e
      where
        by_number : (n : ℕ) → n ≡ 0 → tiny_method ≡ record { 0 = n }
        by_number n e = rw e refl

pub tiny_has_code : CodeOf tiny_program tiny_method tiny_code
tiny_has_code = (tiny_place, tiny_member, codes "main", codes "([Ljava/lang/String;)V", (refl, main_there), (_, (0, omega arith, refl), refl))

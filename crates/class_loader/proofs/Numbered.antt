-- Bodies, listed method by method.
use Rattle.std.proofs.Common.{◌≡◌, ◌<◌, ◌+◌, ℕ, get_or, List, [], ◌∷◌, ◌++◌, All, length, map, Some, inl, inr, sym, ap, subst, ◌∙◌, arith}
use Rattle.std.specs.Prelude.{slice_get, option_map}
use Rattle.std.proofs.lemmas.Bool.{cases_lt}
use Rattle.std.proofs.lemmas.Option.{same_Some, slice_get-map, slice_get_within}
use Rattle.std.proofs.lemmas.List.Elements.{All-push, All-weaker, All-contains, Contains-push, Contains-append_left}
use Rattle.std.proofs.lemmas.List.Quantifiers.{all_pairs_push}
use Rattle.slicer_ids.specs.declared.ids.ClassId.{ClassId}
use Rattle.slicer_ids.specs.declared.ids.MethodId.{MethodId}
use Rattle.class_form.specs.Classes.{Declared, IsClass, IsMethod, AreInOrder}
use Rattle.class_form.specs.Numbers.{AreMethods, AreFields, IsThere}
use Rattle.class_form.specs.declared.class_file.ClassFile.{ClassFile}
use Rattle.class_form.specs.declared.class_file.Member.{Member}
use Rattle.class_form.specs.declared.class_file.CodeBody.{CodeBody}
use Rattle.class_form.specs.declared.body.Body.{Body}
use Rattle.class_form.proofs.Indices.{there_at, read_at}
use Rattle.body_form.specs.Bodies.{IsBodyOf}
use Rattle.program_form.specs.Programs.{Program, CodeOf}
use Rattle.program_code.specs.Codes.{IsOfMethod, IsProgramOfCode, MethodBefore}
use Rattle.hierarchy.specs.Places.{declared_at}
use Rattle.call_graph.proofs.OneNumbering.{one_numbering}
use Rattle.body_rules.specs.Methods.{IsCoded, number_of}
use Rattle.class_loader.specs.Sound.{IsSoundClass}
use Rattle.class_loader.specs.Below.{program_with, AreBodiesBelow, AddsBody, AddsBodyAt}

pub no_bodies : (classes : List ClassFile) (methods : List Declared) (bodies : List Body) → bodies ≡ [] → AreBodiesBelow classes methods bodies 0
no_bodies classes methods bodies nil = subst (λ (bs : List Body). AreBodiesBelow classes methods bs 0) (sym nil)
    (record { each = λ k d lt. absurd (omega (arith, lt)); order = λ i j d lt within. absurd (omega (arith, within)); whole = λ m code lt c. absurd (omega (arith, lt)) })

same_number : (m n : MethodId) → m.0 ≡ n.0 → m ≡ n
same_number m n e = λ i. record { 0 = e i }

-- what stands at a number
pub stands : (classes : List ClassFile) (places : List (ClassId × ℕ)) (n : ℕ) (p : ClassId × ℕ) → AreMethods classes (map declared_at places) → slice_get places n ≡ Some p → IsThere (IsMethod classes) (declared_at p)
stands classes places n p are at =
    let d : slice_get (map declared_at places) n ≡ Some (declared_at p) = slice_get-map declared_at places n ∙ ap (option_map declared_at) at in
    All-contains (IsThere (IsMethod classes)) (map declared_at places) (declared_at p) are.each (there_at (map declared_at places) n (declared_at p) d)

pub class_within : (classes : List ClassFile) (places : List (ClassId × ℕ)) (n : ℕ) (p : ClassId × ℕ) → AreMethods classes (map declared_at places) → slice_get places n ≡ Some p → p.0.0 < length classes
class_within classes places n p are at =
    let (x, name, type, (k, is, rest)) = stands classes places n p are at in
    slice_get_within classes p.0.0 k is

pub place_within : (classes : List ClassFile) (places : List (ClassId × ℕ)) (n : ℕ) (p : ClassId × ℕ) (k : ClassFile) → AreMethods classes (map declared_at places) → slice_get places n ≡ Some p → IsClass classes p.0.0 k
    → p.1 < length k.methods
place_within classes places n p k are at is =
    let (x, name, type, (other, has, (member, named, typed))) = stands classes places n p are at in
    let same : other ≡ k = same_Some other k (sym has ∙ is) in
    subst (λ (z : ClassFile). p.1 < length z.methods) same (slice_get_within other.methods p.1 x member)

module _ (classes : List ClassFile) (methods : List Declared) (n : ℕ) (d : Declared) (k : ClassFile) (at : slice_get methods n ≡ Some d) (is : IsClass classes d.class k) (there : IsThere (IsMethod classes) d)
    (before after : List Body) (below : AreBodiesBelow classes methods before n) where
  -- the body of a method below a number
  abbrev IsUpTo : ℕ → Body → Type 0
  IsUpTo most b = (b.method.0 < most) × IsOfMethod (program_with classes methods) b

  -- the method at the place, by its texts
  method_is : (m : Member) → slice_get k.methods d.index ≡ Some m → (name : List ℕ) × (type : List ℕ) × IsMethod classes d m name type
  method_is m member =
      let (x, name, type, (other, has, (found, named, typed))) = there in
      let same : other ≡ k = same_Some other k (sym has ∙ is) in
      let one : x ≡ m = same_Some x m (sym found ∙ ap (λ (z : ClassFile). slice_get z.methods d.index) same ∙ member) in
      (name, type, subst (λ (y : Member). IsMethod classes d y name type) one (other, has, (found, named, typed)))

  -- the code of the method of the number stands there
  coded : (m : MethodId) (code : CodeBody) → m.0 ≡ n → CodeOf (program_with classes methods) m code → (x : Member) × IsCoded k d.index x code
  coded m code e (other, x, name, type, (get, (file, has, (found, named, typed))), code_is) =
      let same : other ≡ d = same_Some other d (sym get ∙ ap (slice_get methods) e ∙ at) in
      let class : file ≡ k = same_Some file k (sym has ∙ ap (λ (z : Declared). slice_get classes z.class) same ∙ is) in
      (x, (subst (λ (z : ClassFile). slice_get z.methods d.index ≡ Some x) class (subst (λ (z : Declared). slice_get file.methods z.index ≡ Some x) same found), code_is))

  with_body : (m : Member) (code : CodeBody) (b : Body) → IsCoded k d.index m code → IsBodyOf k.pool (number_of n) m code b → AreBodiesBelow classes methods (before ++ b ∷ []) (n + 1)
  with_body m code b (member, code_is) read =
      let number : b.method.0 ≡ n = ap (λ (z : MethodId). z.0) read.method in
      let (name, type, method) = method_is m member in
      let mine : IsOfMethod (program_with classes methods) b =
      (d, m, name, type, k, code, (ap (slice_get methods) number ∙ at, method), is, code_is, subst (λ (z : MethodId). IsBodyOf k.pool z m code b) (sym read.method) read) in
      record {
        each = All-push (IsUpTo (n + 1)) before b (All-weaker (IsUpTo n) (IsUpTo (n + 1)) (λ x h. (omega (arith, h.0), h.1)) before below.each) (omega (arith, number), mine);
        order = all_pairs_push MethodBefore before b below.order (λ i e lt. let h = (below.each i e lt).0 in omega (arith, h, number));
        whole = λ x c lt has. elim (cases_lt x.0 n) [
          | inl less ↦ let (y, in_list, e) = below.whole x c less has in (y, Contains-append_left before (b ∷ []) y in_list, e)
          | inr le ↦ (b, Contains-push before b, same_number b.method x (omega (arith, number, le, lt)))
        ];
      }

  without_body : ((m : Member) (code : CodeBody) → IsCoded k d.index m code → ⊥) → AreBodiesBelow classes methods before (n + 1)
  without_body never = record {
    each = All-weaker (IsUpTo n) (IsUpTo (n + 1)) (λ x h. (omega (arith, h.0), h.1)) before below.each;
    order = below.order;
    whole = λ x c lt has. elim (cases_lt x.0 n) [
      | inl less ↦ below.whole x c less has
      | inr le ↦ let (m, is_coded) = coded x c (omega (arith, le, lt)) has in absurd (never m c is_coded)
    ];
  }

  more : AddsBody k d.index (number_of n) before after → AreBodiesBelow classes methods after (n + 1)
  more (inl (code, (m, b, there, read, e))) = subst (λ (bs : List Body). AreBodiesBelow classes methods bs (n + 1)) (sym e) (with_body m code b there read)
  more (inr (never, e)) = subst (λ (bs : List Body). AreBodiesBelow classes methods bs (n + 1)) (sym e) (without_body never)

pub more_bodies : (classes : List ClassFile) (places : List (ClassId × ℕ)) (n : ℕ) (before after : List Body) → AreMethods classes (map declared_at places) → AreBodiesBelow classes (map declared_at places) before n
    → AddsBodyAt classes places n before after → AreBodiesBelow classes (map declared_at places) after (n + 1)
more_bodies classes places n before after are below (p, k, at, is, adds) =
    let d : slice_get (map declared_at places) n ≡ Some (declared_at p) = slice_get-map declared_at places n ∙ ap (option_map declared_at) at in
    more classes (map declared_at places) n (declared_at p) k d is (stands classes places n p are at) before after below adds

-- the program of all of them
program_of : (p : Program) → AreInOrder p.classes → AreMethods p.classes p.methods → AreFields p.classes p.fields → AreBodiesBelow p.classes p.methods p.bodies (length p.methods) → IsProgramOfCode p
program_of p order methods fields below = record {
  classes = order;
  methods = methods;
  fields = fields;
  bodies = All-weaker (λ (b : Body). (b.method.0 < length p.methods) × IsOfMethod (program_with p.classes p.methods) b) (IsOfMethod p) (λ b h. h.1) p.bodies below.each;
  order = below.order;
  whole = λ m code has. below.whole m code (slice_get_within p.methods m.0 has.0 has.4.0) has;
}

pub program_is : (classes : List ClassFile) (methods : List Declared) (bodies : List Body) → AreInOrder classes → AreMethods classes methods → AreBodiesBelow classes methods bodies (length methods)
    → (p : Program) → p.classes ≡ classes → AreMethods p.classes p.methods → AreFields p.classes p.fields → p.bodies ≡ bodies → IsProgramOfCode p
program_is classes methods bodies order are below p e here fields f =
    let numbers : p.methods ≡ methods = one_numbering classes p.methods methods (subst (λ (ks : List ClassFile). AreMethods ks p.methods) e here) are in
    let first = subst (λ (ks : List ClassFile). AreBodiesBelow ks methods bodies (length methods)) (sym e) below in
    let second = subst (λ (ms : List Declared). AreBodiesBelow p.classes ms bodies (length ms)) (sym numbers) first in
    let third = subst (λ (bs : List Body). AreBodiesBelow p.classes p.methods bs (length p.methods)) (sym f) second in
    program_of p (subst AreInOrder (sym e) order) here fields third

-- what the method at a number has

pub sound_class : (classes : List ClassFile) (c : ℕ) (k : ClassFile) → All IsSoundClass classes → IsClass classes c k → IsSoundClass k
sound_class classes c k sound is = All-contains IsSoundClass classes k sound (there_at classes c k is)

-- the class that was read is that of the place
pub class_read : (classes : List ClassFile) (places : List (ClassId × ℕ)) (n : ℕ) (p q : ClassId × ℕ) (k : ClassFile) → slice_get places n ≡ Some p → p.0.0 < length classes → k ≡ get_or classes p.0.0 k
    → slice_get places n ≡ Some q → IsClass classes q.0.0 k
class_read classes places n p q k at lt is other =
    subst (λ (x : ClassId × ℕ). IsClass classes x.0.0 k) (same_Some p q (sym at ∙ other)) (read_at classes p.0.0 k lt is)

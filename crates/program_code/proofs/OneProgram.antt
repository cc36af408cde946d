-- A program has one list of bodies.
use Rattle.std.proofs.Common.{◌≡◌, ◌<◌, ℕ, List, Contains, Some, All, AllPairs, inl, inr, sym, ap, subst, ◌∙◌, arith}
use Rattle.std.specs.Prelude.{slice_get}
use Rattle.std.proofs.lemmas.Bool.{cases_order}
use Rattle.std.proofs.lemmas.Option.{same_Some, slice_get_within, get_or_from_slice_get}
use Rattle.std.proofs.lemmas.List.Elements.{All-contains}
use Rattle.byte_form.specs.Places.{IsBytes}
use Rattle.slicer_ids.specs.declared.ids.MethodId.{MethodId}
use Rattle.class_form.specs.Classes.{Declared, HasCode}
use Rattle.class_form.specs.ClassRules.{IsCode, IsMethodMember, IsClassFile}
use Rattle.class_form.specs.declared.class_file.ClassFile.{ClassFile}
use Rattle.class_form.specs.declared.class_file.Attribute.{Attribute}
use Rattle.class_form.specs.declared.class_file.Content.{Content}
use Rattle.class_form.specs.declared.class_file.Content.TheVariants.{Code}
use Rattle.class_form.specs.declared.class_file.Member.{Member}
use Rattle.class_form.specs.declared.class_file.CodeBody.{CodeBody}
use Rattle.class_form.specs.declared.body.Body.{Body}
use Rattle.class_form.proofs.Indices.{index_in, there_at, same_list}
use Rattle.body_form.specs.Bodies.{IsBodyOf}
use Rattle.body_form.proofs.Members.{methods_are_readable}
use Rattle.body_form.proofs.OneBody.{one_body}
use Rattle.program_form.specs.Programs.{Program, CodeOf}
use Rattle.program_code.specs.Codes.{IsOfMethod, MethodBefore, IsProgramOfCode}

-- ONE CODE

abbrev code_in : Content → CodeBody → CodeBody
code_in (Code body) d = body
code_in content d = d

same_code : (c d : CodeBody) → Code c ≡ Code d → c ≡ d
same_code c d e = ap (λ (x : Content). code_in x c) e

is_code : (a : Attribute) (c : CodeBody) → a.content ≡ Code c → IsCode a
is_code a c e = by_content a.content c e
  where
    by_content : (x : Content) (c : CodeBody) → x ≡ Code c → IsCode (record a { content = x })
    by_content x c e = rw e tt

pub one_code : (m : Member) (c d : CodeBody) → AllPairs (λ a b. IsCode a → IsCode b → ⊥) m.attributes → HasCode m c → HasCode m d → c ≡ d
one_code m c d once (a, ca, ea) (b, cb, eb) =
    let j = index_in m.attributes a ca in
    let k = index_in m.attributes b cb in
    elim (cases_order j.0 k.0) [
      | inl e ↦ let same = same_Some a b (sym j.1 ∙ ap (λ n. slice_get m.attributes n) e ∙ k.1) in same_code c d (sym ea ∙ ap (λ (x : Attribute). x.content) same ∙ eb)
      | inr (inl lt) ↦ absurd (apart j.0 k.0 a b lt j.1 k.1 (is_code a c ea) (is_code b d eb))
      | inr (inr gt) ↦ absurd (apart k.0 j.0 b a gt k.1 j.1 (is_code b d eb) (is_code a c ea))
    ]
  where
    apart : (m' n : ℕ) (x y : Attribute) → m' < n → slice_get m.attributes m' ≡ Some x → slice_get m.attributes n ≡ Some y → IsCode x → IsCode y → ⊥
    apart m' n x y lt ex ey cx cy =
        once m' n y lt (slice_get_within m.attributes n y ey)
        (subst IsCode (sym (get_or_from_slice_get m.attributes m' x y ex)) cx) (subst IsCode (sym (get_or_from_slice_get m.attributes n y y ey)) cy)

-- ONE BODY OF A METHOD

-- a class of the program, a method of it and its code
pub record IsAtPlace (p : Program) (n : MethodId) (k : ClassFile) (m : Member) (code : CodeBody) : Type 0 where
  pub place : Declared
  pub number : slice_get p.methods n.0 ≡ Some place
  pub class : slice_get p.classes place.class ≡ Some k
  pub member : slice_get k.methods place.index ≡ Some m
  pub has : HasCode m code

module _ (p : Program) (sound : All IsClassFile p.classes) where
  member_sound : (n : MethodId) (k : ClassFile) (m : Member) (code : CodeBody) → IsAtPlace p n k m code → IsMethodMember k.pool k.flags m
  member_sound n k m code h =
      let file = All-contains IsClassFile p.classes k sound (there_at p.classes h.place.class k h.class) in
      All-contains (IsMethodMember k.pool k.flags) k.methods m file.methods (there_at k.methods h.place.index m h.member)

  one_place : (n : MethodId) (k l : ClassFile) (m o : Member) (c d : CodeBody) → IsAtPlace p n k m c → IsAtPlace p n l o d → (k ≡ l) × (m ≡ o) × (c ≡ d)
  one_place n k l m o c d h g =
      let place : h.place ≡ g.place = same_Some h.place g.place (sym h.number ∙ g.number) in
      let class : k ≡ l = same_Some k l (sym h.class ∙ ap (λ (x : Declared). slice_get p.classes x.class) place ∙ g.class) in
      let member : m ≡ o = same_Some m o (sym h.member ∙ ap (λ (x : Declared). slice_get k.methods x.index) place ∙ ap (λ (x : ClassFile). slice_get x.methods g.place.index) class ∙ g.member) in
      (class, member, one_code m c d (member_sound n k m c h).one_code h.has (subst (λ (x : Member). HasCode x d) (sym member) g.has))

-- the class, the method and the code of a body, and that it is their body
pub record Found (p : Program) (b : Body) : Type 0 where
  pub class : ClassFile
  pub member : Member
  pub code : CodeBody
  pub at : IsAtPlace p b.method class member code
  pub of_code : CodeOf p b.method code
  pub is : IsBodyOf class.pool b.method member code b

found : (p : Program) (b : Body) → IsOfMethod p b → Found p b
found p b (d, m, name, descriptor, k, code, of, class, has, is) =
    let same : of.1.0 ≡ k = same_Some of.1.0 k (sym of.1.1 ∙ class) in
    record {
      class = k;
      member = m;
      code = code;
      at = record { place = d; number = of.0; class = class; member = subst (λ (x : ClassFile). slice_get x.methods d.index ≡ Some m) same of.1.2.0; has = has };
      of_code = (d, m, name, descriptor, of, has);
      is = is;
    }

moved : (k l : ClassFile) (n o : MethodId) (m r : Member) (c d : CodeBody) (b : Body) → k ≡ l → n ≡ o → m ≡ r → c ≡ d → IsBodyOf l.pool o r d b → IsBodyOf k.pool n m c b
moved k l n o m r c d b ek en em ec is = rw (ek, en, em, ec) is

module _ (p : Program) (sound : All IsClassFile p.classes) (bytes : (n : MethodId) (c : CodeBody) → CodeOf p n c → IsBytes c.code) where
  same_body : (a b : Body) → IsOfMethod p a → IsOfMethod p b → a.method ≡ b.method → a ≡ b
  same_body a b h g e =
      let x = found p a h in
      let y = found p b g in
      let same = one_place p sound a.method x.class y.class x.member y.member x.code y.code x.at (subst (λ n. IsAtPlace p n y.class y.member y.code) (sym e) y.at) in
      let other : IsBodyOf x.class.pool a.method x.member x.code b = moved x.class y.class a.method b.method x.member y.member x.code y.code b same.0 e same.1 same.2 y.is in
      let readable = methods_are_readable x.class.pool x.class.flags x.member x.code (member_sound p sound a.method x.class x.member x.code x.at) x.at.has in
      one_body x.class.pool a.method x.member x.code (bytes a.method x.code x.of_code) readable.size.0 a b x.is other

  pub one_list_of_bodies : (bodies : List Body) → IsProgramOfCode p → IsProgramOfCode (record p { bodies = bodies }) → p.bodies ≡ bodies
  one_list_of_bodies bodies first second =
      same_list MethodBefore (λ a b h g. absurd (omega (arith, h, g))) p.bodies bodies first.order second.order (λ b c. there p.bodies bodies first.bodies second.whole second.bodies b c) (λ b c. there bodies p.bodies second.bodies first.whole first.bodies b c)
    where
      there : (xs ys : List Body) → All (IsOfMethod p) xs → ((n : MethodId) (code : CodeBody) → CodeOf p n code → (b : Body) × Contains ys b × (b.method ≡ n)) → All (IsOfMethod p) ys
          → (b : Body) → Contains xs b → Contains ys b
      there xs ys each whole others b c =
          let h = All-contains (IsOfMethod p) xs b each c in
          let other = whole b.method (found p b h).code (found p b h).of_code in
          let same = same_body other.0 b (All-contains (IsOfMethod p) ys other.0 others other.1) h other.2 in
          subst (Contains ys) same other.1

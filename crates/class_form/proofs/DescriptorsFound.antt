use Rattle.std.proofs.Common.{cond, nat_eq, ◌≡◌, ℕ, suc, ◌+◌, ◌≤◌, ◌⊎◌, inl, inr, Bool, true, false, ◌&&◌, List, [], ◌∷◌, ◌++◌, Option, Some, None, refl, sym, subst, ◌∙◌, ap, arith, append_assoc}
use Rattle.std.proofs.lemmas.Bool.Decides.{nat_tests, Decides-eqb}
use Rattle.std.specs.Prelude.{option_map, replicate, nat_lt}
use Rattle.class_form.specs.declared.types.BaseType.{BaseType}
use Rattle.class_form.specs.declared.types.BaseType.TheVariants.{Primitive, Class}
use Rattle.class_form.specs.Types.{spell_base, IsBase}
use Rattle.class_form.specs.NameTests.{reached, Nothing, InName, Fresh, Begun, go_on_name, is_whole, Place, Alone, Argument, Outcome, InDescriptor, InType, InClass, End, after_type, is_letter, letter_width, go_on_type, go_on_descriptor}
use Rattle.class_form.proofs.Steps.{stepped}
use Rattle.class_form.proofs.ClassNames.{name_is, whole_is}
use Rattle.class_form.proofs.DescriptorsRead.{base_width, is_letter-Decides, and_false}

-- nothing follows the end
pub end_stays : (k j : ℕ) (bytes : List ℕ) → reached go_on_descriptor (End k) bytes ≡ Some (End j) → (bytes ≡ []) × (k ≡ j)
end_stays k j [] h = (refl, cc)
end_stays k j (b ∷ bytes) h = cc

pub both_true : (x y : Bool) → (x && y) ≡ true → (x ≡ true) × (y ≡ true)
both_true true true h = (refl, refl)
both_true true false h = cc
both_true false y h = cc

-- from within a name, the name ends at a `;`, and the rest leads to the end
abbrev ClassFound : Place → ℕ → InName → List ℕ → Type 0
ClassFound place j n bytes =
    (name : List ℕ) × (rest : List ℕ) × (bytes ≡ name ++ 59 ∷ rest) × (reached go_on_name n name ≡ Some (Begun Nothing))
    × (u : InDescriptor) × (after_type place 1 ≡ Some u) × (reached go_on_descriptor u rest ≡ Some (End j))

class_found : (place : Place) (n : InName) (bytes : List ℕ) (j : ℕ) → reached go_on_descriptor (InClass place n) bytes ≡ Some (End j) → ClassFound place j n bytes
class_found place n [] j h = cc
class_found place n (b ∷ bytes) j h =
    let s = stepped go_on_descriptor (InClass place n) (End j) b bytes h in
    by_close (nat_eq b 59 && is_whole n) refl s.0 s.1 s.2 (λ m k. class_found place m bytes j k)
  where
    by_name : (o : Option InName) → go_on_name n b ≡ o → (u : InDescriptor) → option_map (InClass place) o ≡ Some u → reached go_on_descriptor u bytes ≡ Some (End j)
        → ((m : InName) → reached go_on_descriptor (InClass place m) bytes ≡ Some (End j) → ClassFound place j m bytes) → ClassFound place j n (b ∷ bytes)
    by_name None e u k r more = cc
    by_name (Some m) e u k r more =
        let is : u ≡ InClass place m = cc in
        let f = more m (subst (λ x. reached go_on_descriptor x bytes ≡ Some (End j)) is r) in
        (b ∷ f.0, f.1, ap (λ x. b ∷ x) f.2, rw e f.3, f.4, f.5, f.6)

    by_close : (x : Bool) → (nat_eq b 59 && is_whole n) ≡ x → (u : InDescriptor) → cond x (after_type place 1) (option_map (InClass place) (go_on_name n b)) ≡ Some u → reached go_on_descriptor u bytes ≡ Some (End j)
        → ((m : InName) → reached go_on_descriptor (InClass place m) bytes ≡ Some (End j) → ClassFound place j m bytes) → ClassFound place j n (b ∷ bytes)
    by_close true e u k r more =
        let both = both_true (nat_eq b 59) (is_whole n) e in
        let is : b ≡ 59 = (Decides-eqb b 59).0 both.0 in
        ([], bytes, ap (λ x. x ∷ bytes) is, ap (λ x. Some x) (whole_is n both.1), u, k, r)
    by_close false e u k r more = by_name (go_on_name n b) refl u k r more

-- from after so many dimensions: more of them, the base type, and what follows the type
pub record TypeFound (place : Place) (dims : ℕ) (bytes : List ℕ) (j : ℕ) : Type 0 where
  pub more : ℕ
  pub all : ℕ
  pub base : BaseType
  pub rest : List ℕ
  pub is : IsBase base
  pub adds : dims + more ≡ all
  pub within : all ≤ 255
  pub text : bytes ≡ (replicate more 91 ++ spell_base base) ++ rest
  pub next : InDescriptor
  pub stands : after_type place (base_width all base) ≡ Some next
  pub goes : reached go_on_descriptor next rest ≡ Some (End j)

-- `V`, where a result may stand
pub record VoidFound (place : Place) (dims : ℕ) (bytes : List ℕ) (j : ℕ) : Type 0 where
  pub at : place ≡ Outcome j
  pub none : dims ≡ 0
  pub text : bytes ≡ 86 ∷ []

one_dimension_more : (place : Place) (dims : ℕ) (bytes : List ℕ) (j : ℕ) → TypeFound place (dims + 1) bytes j ⊎ VoidFound place (dims + 1) bytes j → TypeFound place dims (91 ∷ bytes) j ⊎ VoidFound place dims (91 ∷ bytes) j
one_dimension_more place dims bytes j (inl f) =
    inl (record {
      more = suc f.more;
      all = f.all;
      base = f.base;
      rest = f.rest;
      is = f.is;
      adds = omega (arith, f.adds);
      within = f.within;
      text = ap (λ x. 91 ∷ x) f.text;
      next = f.next;
      stands = f.stands;
      goes = f.goes;
    })
one_dimension_more place dims bytes j (inr v) = absurd (omega (arith, v.none))

class_type_found : (place : Place) (dims : ℕ) (bytes : List ℕ) (j : ℕ) → dims ≤ 255 → reached go_on_descriptor (InClass place Fresh) bytes ≡ Some (End j) → TypeFound place dims (76 ∷ bytes) j
class_type_found place dims bytes j fits h =
    let f = class_found place Fresh bytes j h in
    let narrow : base_width dims (Class f.0) ≡ 1 = rw and_false refl in
    record {
      more = 0;
      all = dims;
      base = Class f.0;
      rest = f.1;
      is = name_is f.0 f.3;
      adds = omega arith;
      within = fits;
      text = ap (λ x. 76 ∷ x) (f.2 ∙ sym (append_assoc f.0 (59 ∷ []) f.1));
      next = f.4;
      stands = ap (after_type place) narrow ∙ f.5;
      goes = f.6;
    }

letter_found : (place : Place) (dims b : ℕ) (bytes : List ℕ) (j : ℕ) (u : InDescriptor) → dims ≤ 255 → is_letter b ≡ true → after_type place (letter_width dims b) ≡ Some u → reached go_on_descriptor u bytes ≡ Some (End j)
    → TypeFound place dims (b ∷ bytes) j
letter_found place dims b bytes j u fits l k h =
    record {
      more = 0;
      all = dims;
      base = Primitive b;
      rest = bytes;
      is = (is_letter-Decides b).0 l;
      adds = omega arith;
      within = fits;
      text = refl;
      next = u;
      stands = k;
      goes = h;
    }

abbrev FoundIn : List ℕ → ℕ → Type 0
FoundIn bytes j = (p : Place) (d : ℕ) → d ≤ 255 → reached go_on_descriptor (InType p d) bytes ≡ Some (End j) → TypeFound p d bytes j ⊎ VoidFound p d bytes j

pub type_found : (place : Place) (dims : ℕ) (bytes : List ℕ) (j : ℕ) → dims ≤ 255 → reached go_on_descriptor (InType place dims) bytes ≡ Some (End j) → TypeFound place dims bytes j ⊎ VoidFound place dims bytes j
type_found place dims [] j fits h = cc
type_found place dims (b ∷ bytes) j fits h =
    let s = stepped go_on_descriptor (InType place dims) (End j) b bytes h in
    by_place place s.0 s.1 s.2 (λ p d f k. type_found p d bytes j f k)
  where
    by_letter : (p : Place) (u : InDescriptor) (z : Bool) → is_letter b ≡ z → cond z (after_type p (letter_width dims b)) None ≡ Some u → reached go_on_descriptor u bytes ≡ Some (End j) → TypeFound p dims (b ∷ bytes) j ⊎ VoidFound p dims (b ∷ bytes) j
    by_letter p u true e k r = inl (letter_found p dims b bytes j u fits e k r)
    by_letter p u false e k r = cc

    by_class : (p : Place) (u : InDescriptor) (y : Bool) → nat_eq b 76 ≡ y → cond y (Some (InClass p Fresh)) (cond (is_letter b) (after_type p (letter_width dims b)) None) ≡ Some u → reached go_on_descriptor u bytes ≡ Some (End j) → TypeFound p dims (b ∷ bytes) j ⊎ VoidFound p dims (b ∷ bytes) j
    by_class p u true e k r =
        let is : b ≡ 76 = (Decides-eqb b 76).0 e in
        let v : u ≡ InClass p Fresh = cc in
        let f : TypeFound p dims (76 ∷ bytes) j = class_type_found p dims bytes j fits (subst (λ x. reached go_on_descriptor x bytes ≡ Some (End j)) v r) in
        inl (subst (λ x. TypeFound p dims (x ∷ bytes) j) (sym is) f)
    by_class p u false e k r = by_letter p u (is_letter b) refl k r

    by_room : (p : Place) (u : InDescriptor) (w : Bool) → nat_lt dims 255 ≡ w → cond w (Some (InType p (dims + 1))) None ≡ Some u → reached go_on_descriptor u bytes ≡ Some (End j) → FoundIn bytes j → TypeFound p dims (91 ∷ bytes) j ⊎ VoidFound p dims (91 ∷ bytes) j
    by_room p u true e k r more =
        let v : u ≡ InType p (dims + 1) = cc in
        let room : dims + 1 ≤ 255 = grind (arith, nat_tests) in
        one_dimension_more p dims bytes j (more p (dims + 1) room (subst (λ x. reached go_on_descriptor x bytes ≡ Some (End j)) v r))
    by_room p u false e k r more = cc

    by_dimension : (p : Place) (u : InDescriptor) (x : Bool) → nat_eq b 91 ≡ x
        → cond x (cond (nat_lt dims 255) (Some (InType p (dims + 1))) None) (cond (nat_eq b 76) (Some (InClass p Fresh)) (cond (is_letter b) (after_type p (letter_width dims b)) None)) ≡ Some u
        → reached go_on_descriptor u bytes ≡ Some (End j) → FoundIn bytes j → TypeFound p dims (b ∷ bytes) j ⊎ VoidFound p dims (b ∷ bytes) j
    by_dimension p u true e k r more =
        let is : b ≡ 91 = (Decides-eqb b 91).0 e in
        subst (λ x. TypeFound p dims (x ∷ bytes) j ⊎ VoidFound p dims (x ∷ bytes) j) (sym is) (by_room p u (nat_lt dims 255) refl k r more)
    by_dimension p u false e k r more = by_class p u (nat_eq b 76) refl k r

    by_void : (k : ℕ) (u : InDescriptor) (x : Bool) → (nat_eq b 86 && nat_eq dims 0) ≡ x → cond x (Some (End k)) (go_on_type (Outcome k) dims b) ≡ Some u → reached go_on_descriptor u bytes ≡ Some (End j) → FoundIn bytes j
        → TypeFound (Outcome k) dims (b ∷ bytes) j ⊎ VoidFound (Outcome k) dims (b ∷ bytes) j
    by_void k u true e m r more =
        let both = both_true (nat_eq b 86) (nat_eq dims 0) e in
        let is : b ≡ 86 = (Decides-eqb b 86).0 both.0 in
        let v : u ≡ End k = cc in
        let last = end_stays k j bytes (subst (λ x. reached go_on_descriptor x bytes ≡ Some (End j)) v r) in
        inr (record { at = ap (λ x. Outcome x) last.1; none = (Decides-eqb dims 0).0 both.1; text = ap (λ x. x ∷ bytes) is ∙ ap (λ x. 86 ∷ x) last.0 })
    by_void k u false e m r more = by_dimension (Outcome k) u (nat_eq b 91) refl m r more

    by_place : (p : Place) (u : InDescriptor) → go_on_descriptor (InType p dims) b ≡ Some u → reached go_on_descriptor u bytes ≡ Some (End j) → FoundIn bytes j → TypeFound p dims (b ∷ bytes) j ⊎ VoidFound p dims (b ∷ bytes) j
    by_place Alone u k r more = by_dimension Alone u (nat_eq b 91) refl k r more
    by_place (Argument n) u k r more = by_dimension (Argument n) u (nat_eq b 91) refl k r more
    by_place (Outcome n) u k r more = by_void n u (nat_eq b 86 && nat_eq dims 0) refl k r more

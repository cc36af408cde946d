-- A search visits one list of classes, and has one answer.
use Rattle.std.proofs.Common.{◌≡◌, ◌<◌, ℕ, List, [], ◌∷◌, get_or, Option, Some, None, refl, sym, subst, ap, ◌∙◌, inl, inr, arith}
use Rattle.std.specs.Prelude.{slice_get}
use Rattle.std.specs.declared.cmp.Ordering.TheVariants.{Equal}
use Rattle.std.specs.Ordering.{nat_cmp}
use Rattle.std.specs.Cmp.Lexicographic.{slice_cmp}
use Rattle.std.proofs.lemmas.Bool.{cases_lt}
use Rattle.std.proofs.lemmas.Cmp.{nat_list_cmp_total, tied_itself}
use Rattle.std.proofs.lemmas.Option.{same_Some, slice_get_within, get_or_from_slice_get}
use Rattle.slicer_ids.specs.Order.{BytesBefore}
use Rattle.class_form.specs.Classes.{class_name, super_name, interface_names, IsClass, IsNamed, AreInOrder, Declared}
use Rattle.class_form.specs.Resolution.{FieldVisits, absent, outside, visits, FieldVisitsEach, none, each, Chain, top, beyond, up, InterfaceVisits, no_name, unknown, interface, InterfaceVisitsEach, no_more, then_more, InterfacesOf, of_none, of_class, FirstIn, nowhere, here, later}
use Rattle.class_form.specs.declared.class_file.ClassFile.{ClassFile}

not_before_itself : (n : List ℕ) → BytesBefore n n → ⊥
not_before_itself n h = let e : slice_cmp nat_cmp n n ≡ Equal = tied_itself nat_list_cmp_total n in absurd (cc (h, e))

-- classes in order are named by one number each
before : (classes : List ClassFile) (name : List ℕ) (a b : ℕ) → AreInOrder classes → IsNamed classes name a → IsNamed classes name b → a < b → ⊥
before classes name a b order x y lt =
    let o = order a b x.0 lt (slice_get_within classes b y.0 y.1) in
    let first : class_name (get_or classes a x.0) ≡ Some name = ap class_name (get_or_from_slice_get classes a x.0 x.0 x.1) ∙ x.2 in
    let second : class_name (get_or classes b x.0) ≡ Some name = ap class_name (get_or_from_slice_get classes b y.0 x.0 y.1) ∙ y.2 in
    let p : o.0 ≡ name = same_Some o.0 name (sym o.2 ∙ first) in
    let q : o.1 ≡ name = same_Some o.1 name (sym o.3 ∙ second) in
    not_before_itself name (subst (λ n. BytesBefore n name) p (subst (λ n. BytesBefore o.0 n) q o.4))

pub one_class : (classes : List ClassFile) (name : List ℕ) (a b : ℕ) → AreInOrder classes → IsNamed classes name a → IsNamed classes name b → a ≡ b
one_class classes name a b order x y = elim (cases_lt a b) [
  | inl lt ↦ absurd (before classes name a b order x y lt)
  | inr ge ↦ elim (cases_lt b a) [ inl lt ↦ absurd (before classes name b a order y x lt) | inr le ↦ omega arith ]
]

-- the class files of one name are one
pub one_file : (classes : List ClassFile) (name : List ℕ) (a b : ℕ) (j k : ClassFile) → AreInOrder classes → IsNamed classes name a → IsNamed classes name b → IsClass classes a j → IsClass classes b k → (a ≡ b) × (j ≡ k)
one_file classes name a b j k order x y p q =
    let same = one_class classes name a b order x y in
    (same, same_Some j k (sym (subst (λ c. slice_get classes c ≡ Some j) same p) ∙ q))

module _ (classes : List ClassFile) (order : AreInOrder classes) where
  mutual
    pub one_field : (o : Option (List ℕ)) {xs ys : List ℕ} → FieldVisits classes o xs → FieldVisits classes o ys → xs ≡ ys
    one_field None absent absent = refl
    one_field (Some n) (outside a) (outside b) = refl
    one_field (Some n) (outside a) (visits {c} x y z w) = absurd (a c x)
    one_field (Some n) (visits {c} x y z w) (outside a) = absurd (a c x)
    one_field (Some n) (visits {c} {k} {is} {up = u} x y z w) (visits {c = c'} {k = k'} {is = is'} {up = u'} x' y' z' w') =
        let e = one_file classes n c' c k' k order x' x y' y in
        let p = one_fields (interface_names k) z (subst (λ (q : ClassFile). FieldVisitsEach classes (interface_names q) is') e.1 z') in
        let r = one_field (super_name k) w (subst (λ (q : ClassFile). FieldVisits classes (super_name q) u') e.1 w') in
        cc (e.0, p, r)

    pub one_fields : (os : List (Option (List ℕ))) {xs ys : List ℕ} → FieldVisitsEach classes os xs → FieldVisitsEach classes os ys → xs ≡ ys
    one_fields [] none none = refl
    one_fields (o ∷ os) (each x y) (each z w) = let p = one_field o x z in let r = one_fields os y w in cc (p, r)

  pub one_chain : (o : Option (List ℕ)) {xs ys : List ℕ} → Chain classes o xs → Chain classes o ys → xs ≡ ys
  one_chain None top top = refl
  one_chain (Some n) (beyond a) (beyond b) = refl
  one_chain (Some n) (beyond a) (up {c} x y z) = absurd (a c x)
  one_chain (Some n) (up {c} x y z) (beyond a) = absurd (a c x)
  one_chain (Some n) (up {c} {k} {cs} x y z) (up {c = c'} {k = k'} {cs = cs'} x' y' z') =
      let e = one_file classes n c' c k' k order x' x y' y in
      let r = one_chain (super_name k) z (subst (λ (q : ClassFile). Chain classes (super_name q) cs') e.1 z') in
      cc (e.0, r)

  mutual
    pub one_interface : (o : Option (List ℕ)) {xs ys : List ℕ} → InterfaceVisits classes o xs → InterfaceVisits classes o ys → xs ≡ ys
    one_interface None no_name no_name = refl
    one_interface (Some n) (unknown a) (unknown b) = refl
    one_interface (Some n) (unknown a) (interface {c} x y z) = absurd (a c x)
    one_interface (Some n) (interface {c} x y z) (unknown a) = absurd (a c x)
    one_interface (Some n) (interface {c} {k} {is} x y z) (interface {c = c'} {k = k'} {is = is'} x' y' z') =
        let e = one_file classes n c' c k' k order x' x y' y in
        let r = one_interfaces (interface_names k) z (subst (λ (q : ClassFile). InterfaceVisitsEach classes (interface_names q) is') e.1 z') in
        cc (e.0, r)

    pub one_interfaces : (os : List (Option (List ℕ))) {xs ys : List ℕ} → InterfaceVisitsEach classes os xs → InterfaceVisitsEach classes os ys → xs ≡ ys
    one_interfaces [] no_more no_more = refl
    one_interfaces (o ∷ os) (then_more x y) (then_more z w) = let p = one_interface o x z in let r = one_interfaces os y w in cc (p, r)

  pub one_above : (cs : List ℕ) {xs ys : List ℕ} → InterfacesOf classes cs xs → InterfacesOf classes cs ys → xs ≡ ys
  one_above [] of_none of_none = refl
  one_above (c ∷ cs) (of_class {k} {xs} x y z) (of_class {k = k'} {xs = xs'} x' y' z') =
      let e : k' ≡ k = same_Some k' k (sym x' ∙ x) in
      let p = one_interfaces (interface_names k) y (subst (λ (q : ClassFile). InterfaceVisitsEach classes (interface_names q) xs') e y') in
      let r = one_above cs z z' in
      cc (p, r)

-- the first in a list of classes is one, where each class declares one at most
pub one_first : (Fits : Declared → Type 0) → ((d e : Declared) → Fits d → Fits e → d.class ≡ e.class → d ≡ e) → (cs : List ℕ) {a b : Option Declared} → FirstIn Fits cs a → FirstIn Fits cs b → a ≡ b
one_first Fits once [] nowhere nowhere = refl
one_first Fits once (c ∷ cs) (here {d} x p) (here {d = e} y q) = ap (λ z. Some z) (once d e p q (x ∙ sym y))
one_first Fits once (c ∷ cs) (here {d} x p) (later none_here y) = absurd (none_here d x p)
one_first Fits once (c ∷ cs) (later none_here y) (here {d} x p) = absurd (none_here d x p)
one_first Fits once (c ∷ cs) (later none_here x) (later none_there y) = one_first Fits once cs x y

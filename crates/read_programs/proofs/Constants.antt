-- What an index of a constant pool that keeps the rules leads to.
use Rattle.std.proofs.Common.{◌≡◌, ◌⊎◌, ℕ, zero, suc, true, List, Contains, Some, ap, ◌∙◌}
use Rattle.std.specs.Prelude.{option_and_then}
use Rattle.std.proofs.lemmas.Bool.{false≢true}
use Rattle.std.proofs.lemmas.List.Elements.{All-contains, All-from_recursion}
use Rattle.class_form.specs.Names.{IsClassName}
use Rattle.class_form.specs.Pools.{MemberKey, constant_at, class_of, class_at, key_at, member_of, member_at}
use Rattle.class_form.specs.PoolRules.{IsPool, HasKinds, HasTexts, IsArray, IsClassIndex, IsMethodAt, name_and_type_at}
use Rattle.class_form.specs.Instructions.{is_class, is_method, is_interface_method}
use Rattle.class_form.specs.declared.pool.Pool.{Pool}
use Rattle.class_form.specs.declared.pool.Constant.{Constant}
use Rattle.class_form.specs.declared.pool.Constant.TheVariants.{Class, Method, InterfaceMethod}
use Rattle.class_form.proofs.Indices.{there_at}

constant_in : (p : Pool) (i : ℕ) (c : Constant) → constant_at p i ≡ Some c → Contains p.constants c
constant_in p zero c e = absurd cc
constant_in p (suc i) c e = there_at p.constants i c e

module _ (p : Pool) (keeps : IsPool p) where
  kinds_at : (i : ℕ) (c : Constant) → constant_at p i ≡ Some c → HasKinds p c
  kinds_at i c e = All-contains (HasKinds p) p.constants c (All-from_recursion (HasKinds p) p.constants keeps.kinds) (constant_in p i c e)

  texts_at : (i : ℕ) (c : Constant) → constant_at p i ≡ Some c → HasTexts p c
  texts_at i c e = All-contains (HasTexts p) p.constants c (All-from_recursion (HasTexts p) p.constants keeps.texts) (constant_in p i c e)

  -- a class has a name, or is an array
  class_text : (i name : ℕ) → constant_at p i ≡ Some (Class name) → (text : List ℕ) × (class_at p i ≡ Some text) × (IsClassName text ⊎ IsArray text)
  class_text i name e =
      let t : HasTexts p (Class name) = texts_at i (Class name) e in
      (t.0, ap (λ o. option_and_then (class_of p) o) e ∙ t.1, t.2)

  pub named_class : (i : ℕ) (c : Constant) → constant_at p i ≡ Some c → is_class c ≡ true → (text : List ℕ) × (class_at p i ≡ Some text) × (IsClassName text ⊎ IsArray text)
  named_class i (Class name) e is = class_text i name e
  named_class i c e is = absurd (false≢true is)

  method_key : (class rest : ℕ) → IsClassIndex p class → IsMethodAt p rest → (key : MemberKey) × (key_at p class rest ≡ Some key)
  method_key class rest c m =
      let t = class_text class c.0 c.1 in (
        record { class = t.0; name = m.0; descriptor = m.1 },
        ap (λ o. option_and_then (λ (x : List ℕ). option_and_then (λ (nt : List ℕ × List ℕ). Some (record { class = x; name = nt.0; descriptor = nt.1 })) (name_and_type_at p rest)) o) t.1
            ∙ ap (λ o. option_and_then (λ (nt : List ℕ × List ℕ). Some (record { class = t.0; name = nt.0; descriptor = nt.1 })) o) m.2,
      )

  -- a method has a class, a name and a descriptor
  pub named_method : (i : ℕ) (c : Constant) → constant_at p i ≡ Some c → is_method c ≡ true → (key : MemberKey) × (member_at p i ≡ Some key)
  named_method i (Method class rest) e is =
      let k : HasKinds p (Method class rest) = kinds_at i (Method class rest) e in
      let t : HasTexts p (Method class rest) = texts_at i (Method class rest) e in
      let m = method_key class rest k.0 t in
      (m.0, ap (λ o. option_and_then (member_of p) o) e ∙ m.1)
  named_method i c e is = absurd (false≢true is)

  pub named_interface_method : (i : ℕ) (c : Constant) → constant_at p i ≡ Some c → is_interface_method c ≡ true → (key : MemberKey) × (member_at p i ≡ Some key)
  named_interface_method i (InterfaceMethod class rest) e is =
      let k : HasKinds p (InterfaceMethod class rest) = kinds_at i (InterfaceMethod class rest) e in
      let t : HasTexts p (InterfaceMethod class rest) = texts_at i (InterfaceMethod class rest) e in
      let m = method_key class rest k.0 t in
      (m.0, ap (λ o. option_and_then (member_of p) o) e ∙ m.1)
  named_interface_method i c e is = absurd (false≢true is)

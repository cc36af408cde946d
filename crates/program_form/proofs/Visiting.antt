-- Each search in classes of which none is its own ancestor visits a list of classes.
use Rattle.std.proofs.Common.{◌≡◌, ◌<◌, ℕ, Bool, true, false, List, [], ◌∷◌, ◌++◌, length, Option, Some, None, Contains, ◌⊎◌, inl, inr, refl, sym, subst, ap, arith, zero, suc}
use Rattle.std.specs.Str.{bytes_eq}
use Rattle.std.proofs.lemmas.Option.{same_Some, slice_get_within}
use Rattle.std.proofs.lemmas.Slice.Eq.{bytes_eq-Decides}
use Rattle.class_form.proofs.CodeLaws.{contains_later}
use Rattle.class_form.specs.Classes.{class_name, super_name, interface_names, IsNamed, IsOutside, IsAbove}
use Rattle.class_form.specs.Folders.{AreAcyclic}
use Rattle.class_form.specs.Resolution.{FieldVisits, absent, outside, visits, FieldVisitsEach, none, each, Chain, top, beyond, up, InterfaceVisits, no_name, unknown, interface, InterfaceVisitsEach, no_more, then_more, InterfacesOf, of_none, of_class, MethodVisits}
use Rattle.class_form.specs.declared.class_file.ClassFile.{ClassFile}
use Rattle.program_form.proofs.Climbing.{ends}

decided : (b : Bool) (xs ys : List ℕ) → b ≡ bytes_eq xs ys → (xs ≡ ys) ⊎ (xs ≡ ys → ⊥)
decided true xs ys e = inl ((bytes_eq-Decides xs ys).0 (sym e))
decided false xs ys e = inr (λ same. let t = (bytes_eq-Decides xs ys).1 same in absurd (cc (t, e)))

has_name : (o : Option (List ℕ)) (name : List ℕ) → (o ≡ Some name) ⊎ (o ≡ Some name → ⊥)
has_name None name = inr (λ e. absurd cc)
has_name (Some x) name = elim (decided (bytes_eq x name) x name refl) [ inl e ↦ inl (ap (λ (y : List ℕ). Some y) e) | inr ne ↦ inr (λ e. ne (same_Some x name e)) ]

-- the folder has a class of the name, or it is outside
pub named_or_outside : (classes : List ClassFile) (name : List ℕ) → ((c : ℕ) × IsNamed classes name c) ⊎ IsOutside classes name
named_or_outside [] name = inr (λ c (k, at, e). absurd (omega (arith, slice_get_within [] c k at)))
named_or_outside (k ∷ ks) name = elim (has_name (class_name k) name) [
  | inl e ↦ inl (0, (k, refl, e))
  | inr ne ↦ elim (named_or_outside ks name) [
    | inl (c, (j, at, e)) ↦ inl (suc c, (j, at, e))
    | inr out ↦ inr (nowhere_else (λ e. ne e) out)
  ]
]
  where
    nowhere_else : (class_name k ≡ Some name → ⊥) → IsOutside ks name → IsOutside (k ∷ ks) name
    nowhere_else not_first out zero (j, at, e) = not_first (subst (λ (x : ClassFile). class_name x ≡ Some name) (sym (same_Some k j at)) e)
    nowhere_else not_first out (suc c) (j, at, e) = out c (j, at, e)

module _ (classes : List ClassFile) (acyclic : AreAcyclic classes) where
  below : (a b : ℕ) → IsAbove classes a b → b < length classes
  below a b (k, name, at, above, (j, there, e)) = slice_get_within classes b j there

  -- .. with the searches of the classes above
  abbrev HasFields : ℕ → Type 0
  HasFields c = (name : List ℕ) → IsNamed classes name c → (xs : List ℕ) × FieldVisits classes (Some name) xs

  field_of : (o : Option (List ℕ)) → ((name : List ℕ) (d : ℕ) → o ≡ Some name → IsNamed classes name d → HasFields d) → (xs : List ℕ) × FieldVisits classes o xs
  field_of None have = ([], absent)
  field_of (Some name) have = elim (named_or_outside classes name) [ inl (d, is) ↦ have name d refl is name is | inr out ↦ ([], outside out) ]

  fields_of : (os : List (Option (List ℕ))) → ((name : List ℕ) (d : ℕ) → Contains os (Some name) → IsNamed classes name d → HasFields d) → (xs : List ℕ) × FieldVisitsEach classes os xs
  fields_of [] have = ([], none)
  fields_of (o ∷ os) have =
      let a = field_of o (λ name d e is. have name d (subst (Contains (o ∷ os)) e (0, omega arith, refl)) is) in
      let b = fields_of os (λ name d c is. have name d (contains_later os o (Some name) c) is) in
      (a.0 ++ b.0, each a.1 b.1)

  field_step : (c : ℕ) → c < length classes → ((d : ℕ) → IsAbove classes c d → HasFields d) → HasFields c
  field_step c lt have name (k, at, e) =
      let is = fields_of (interface_names k) (λ n d m named. have d (k, n, at, inr m, named)) in
      let sup = field_of (super_name k) (λ n d m named. have d (k, n, at, inl m, named)) in
      (c ∷ is.0 ++ sup.0, visits (k, at, e) at is.1 sup.1)

  pub field_visits : (name : List ℕ) → (xs : List ℕ) × FieldVisits classes (Some name) xs
  field_visits name = field_of (Some name) (λ n d e (k, at, is). ends (IsAbove classes) (length classes) acyclic below HasFields field_step d (slice_get_within classes d k at))

  -- the class and its superclasses
  abbrev HasChain : ℕ → Type 0
  HasChain c = (name : List ℕ) → IsNamed classes name c → (xs : List ℕ) × Chain classes (Some name) xs

  chain_of : (o : Option (List ℕ)) → ((name : List ℕ) (d : ℕ) → o ≡ Some name → IsNamed classes name d → HasChain d) → (xs : List ℕ) × Chain classes o xs
  chain_of None have = ([], top)
  chain_of (Some name) have = elim (named_or_outside classes name) [ inl (d, is) ↦ have name d refl is name is | inr out ↦ ([], beyond out) ]

  chain_step : (c : ℕ) → c < length classes → ((d : ℕ) → IsAbove classes c d → HasChain d) → HasChain c
  chain_step c lt have name (k, at, e) = let sup = chain_of (super_name k) (λ n d m named. have d (k, n, at, inl m, named)) in (c ∷ sup.0, up (k, at, e) at sup.1)

  pub chains : (name : List ℕ) → (xs : List ℕ) × Chain classes (Some name) xs
  chains name = chain_of (Some name) (λ n d e (k, at, is). ends (IsAbove classes) (length classes) acyclic below HasChain chain_step d (slice_get_within classes d k at))

  -- the superinterfaces
  abbrev HasInterfaces : ℕ → Type 0
  HasInterfaces c = (name : List ℕ) → IsNamed classes name c → (xs : List ℕ) × InterfaceVisits classes (Some name) xs

  interface_of : (o : Option (List ℕ)) → ((name : List ℕ) (d : ℕ) → o ≡ Some name → IsNamed classes name d → HasInterfaces d) → (xs : List ℕ) × InterfaceVisits classes o xs
  interface_of None have = ([], no_name)
  interface_of (Some name) have = elim (named_or_outside classes name) [ inl (d, is) ↦ have name d refl is name is | inr out ↦ ([], unknown out) ]

  interfaces_of : (os : List (Option (List ℕ))) → ((name : List ℕ) (d : ℕ) → Contains os (Some name) → IsNamed classes name d → HasInterfaces d) → (xs : List ℕ) × InterfaceVisitsEach classes os xs
  interfaces_of [] have = ([], no_more)
  interfaces_of (o ∷ os) have =
      let a = interface_of o (λ name d e is. have name d (subst (Contains (o ∷ os)) e (0, omega arith, refl)) is) in
      let b = interfaces_of os (λ name d c is. have name d (contains_later os o (Some name) c) is) in
      (a.0 ++ b.0, then_more a.1 b.1)

  interface_step : (c : ℕ) → c < length classes → ((d : ℕ) → IsAbove classes c d → HasInterfaces d) → HasInterfaces c
  interface_step c lt have name (k, at, e) = let is = interfaces_of (interface_names k) (λ n d m named. have d (k, n, at, inr m, named)) in (c ∷ is.0, interface (k, at, e) at is.1)

  all_interfaces : (d : ℕ) → d < length classes → HasInterfaces d
  all_interfaces d lt = ends (IsAbove classes) (length classes) acyclic below HasInterfaces interface_step d lt

  of_classes : {o : Option (List ℕ)} {cs : List ℕ} → Chain classes o cs → (is : List ℕ) × InterfacesOf classes cs is
  of_classes top = ([], of_none)
  of_classes (beyond out) = ([], of_none)
  of_classes (up {c} {k} is at chain) =
      let xs = interfaces_of (interface_names k) (λ n d m named. all_interfaces d (slice_get_within classes d named.0 named.1)) in
      let ys = of_classes chain in
      (xs.0 ++ ys.0, of_class at xs.1 ys.1)

  pub method_visits : (name : List ℕ) → (xs : List ℕ) × MethodVisits classes name xs
  method_visits name = let cs = chains name in let is = of_classes cs.1 in (cs.0 ++ is.0, (cs.0, is.0, cs.1, is.1, refl))

-- The method that a static or special call finds.
use Rattle.std.proofs.Common.{◌≡◌, ◌⊎◌, ℕ, List, [], ◌∷◌, ◌++◌, Contains, Option, Some, None, inl, inr, refl, sym, ap, subst, ◌∙◌, arith}
use Rattle.std.proofs.lemmas.Option.{same_Some}
use Rattle.std.proofs.lemmas.List.Elements.{Contains-append_left}
use Rattle.slicer_ids.specs.Walks.{IsWalk}
use Rattle.class_form.specs.Pools.{MemberKey}
use Rattle.class_form.specs.Classes.{Declared, IsClass, IsNamed, IsSuper, IsProperSuper, super_name, AreInOrder}
use Rattle.class_form.specs.Resolution.{Chain, beyond, up, InterfacesOf, FirstIn, here, later, FindsMethod, DeclaresMethod, SpecialCalls, CallsSuper}
use Rattle.class_form.specs.declared.class_file.ClassFile.{ClassFile}
use Rattle.class_form.proofs.Indices.{head_or}
use Rattle.class_form.proofs.Indices as indices
use Rattle.program_form.proofs.Visits.{one_class, one_chain, one_above, one_first}

-- ---- the first in a list
first_front : (F : Declared → Type 0) (cs is : List ℕ) (d e : Declared) → Contains cs e.class → F e → FirstIn F (cs ++ is) (Some d) → FirstIn F cs (Some d)
first_front F [] is d e c f first = absurd (omega (arith, c.1))
first_front F (x ∷ cs) is d e c f (here same fits) = here same fits
first_front F (x ∷ cs) is d e c f (later none rest) = elim (head_or x e.class cs c) [
  | inl eq ↦ absurd (none e (sym eq) f)
  | inr more ↦ later none (first_front F cs is d e more f rest)
]

first_some : (F : Declared → Type 0) (xs : List ℕ) (e : Declared) → Contains xs e.class → F e → FirstIn F xs None → ⊥
first_some F [] e c f first = omega (arith, c.1)
first_some F (x ∷ xs) e c f (later none rest) = elim (head_or x e.class xs c) [
  | inl eq ↦ none e (sym eq) f
  | inr more ↦ first_some F xs e more f rest
]

pub first_declares : (F : Declared → Type 0) (xs : List ℕ) (d : Declared) → FirstIn F xs (Some d) → F d
first_declares F [] d first = elim first [ ]
first_declares F (x ∷ xs) d (here same fits) = fits
first_declares F (x ∷ xs) d (later none rest) = first_declares F xs d rest

module _ (classes : List ClassFile) (order : AreInOrder classes) where
  -- a class is in the list of itself and its superclasses
  in_chain : (xs : List ℕ) (name : List ℕ) (a b : ℕ) (cs : List ℕ) → IsNamed classes name a → IsWalk (IsSuper classes) a xs b → Chain classes (Some name) cs → Contains cs b
  in_chain [] name a b cs named walk (beyond out) = absurd (out a named)
  in_chain [] name a b (c ∷ cs) named walk (up {k} found is rest) =
      let same : c ≡ b = one_class classes name c a order found named ∙ walk in
      subst (Contains (c ∷ cs)) same (0, omega arith, refl)
  in_chain (m ∷ xs) name a b cs named walk (beyond out) = absurd (out a named)
  in_chain (m ∷ xs) name a b (c ∷ cs) named walk (up {k} found is rest) =
      let (j, next, has, above, super) = walk.0 in
      let same : c ≡ a = one_class classes name c a order found named in
      let file : k ≡ j = same_Some k j (sym (subst (λ n. IsClass classes n k) same is) ∙ has) in
      let chain : Chain classes (Some next) cs = subst (λ z. Chain classes z cs) above (subst (λ (z : ClassFile). Chain classes (super_name z) cs) file rest) in
      indices.later c b cs (in_chain xs next m b cs super walk.1 chain)

  -- a proper superclass is in the list from the direct one on
  pub proper_in_chain : (c b : ℕ) (k : ClassFile) (cs : List ℕ) → IsClass classes c k → IsProperSuper classes c b → Chain classes (super_name k) cs → Contains cs b
  proper_in_chain c b k cs is (m, (j, next, has, above, super), (xs, walk)) chain =
      let file : k ≡ j = same_Some k j (sym is ∙ has) in
      in_chain xs next m b cs super walk (subst (λ z. Chain classes z cs) above (subst (λ (z : ClassFile). Chain classes (super_name z) cs) file chain))

  module _ (key : MemberKey) (once : (d e : Declared) → DeclaresMethod classes key d → DeclaresMethod classes key e → d.class ≡ e.class → d ≡ e) where
    -- a search finds one method
    pub one_method : (a b : Option Declared) → FindsMethod classes key a → FindsMethod classes key b → a ≡ b
    one_method a b (xs, (cs, is, chain, faces, e), f) (ys, (ds, js, other, others, e'), g) =
        let c : cs ≡ ds = one_chain classes order (Some key.class) chain other in
        let i : is ≡ js = one_above classes order ds (subst (λ zs. InterfacesOf classes zs is) c faces) others in
        let x : xs ≡ ys = e ∙ ap (λ zs. zs ++ is) c ∙ ap (λ zs. ds ++ zs) i ∙ sym e' in
        one_first (DeclaresMethod classes key) once ys (subst (λ zs. FirstIn (DeclaresMethod classes key) zs a) x f) g

    -- how a special call of a class that finds f calls d
    abbrev How : ℕ → Declared → Declared → Type 0
    How c f d =
        ((CallsSuper classes c key f → ⊥) × (d ≡ f))
        ⊎ (CallsSuper classes c key f × (k : ClassFile) × (cs : List ℕ) × IsClass classes c k × Chain classes (super_name k) cs × FirstIn (DeclaresMethod classes key) cs (Some d))

    -- and it calls one
    pub one_special : (c : ℕ) (d e : Declared) → SpecialCalls classes c key d → SpecialCalls classes c key e → d ≡ e
    one_special c d e (f, finds, how) (g, found, other) = both (same_Some f g (one_method (Some f) (Some g) finds found)) how other
      where
        both : {f g : Declared} → f ≡ g → How c f d → How c g e → d ≡ e
        both s (inl (n, x)) (inl (m, y)) = x ∙ s ∙ sym y
        both s (inl (n, x)) (inr (calls, k, cs, is, chain, first)) = absurd (n (subst (λ z. CallsSuper classes c key z) (sym s) calls))
        both s (inr (calls, k, cs, is, chain, first)) (inl (m, y)) = absurd (m (subst (λ z. CallsSuper classes c key z) s calls))
        both s (inr (calls, k, cs, is, chain, first)) (inr (calls', j, ds, has, other, first')) =
            let file : k ≡ j = same_Some k j (sym is ∙ has) in
            let lists : cs ≡ ds = one_chain classes order (super_name j) (subst (λ (z : ClassFile). Chain classes (super_name z) cs) file chain) other in
            same_Some d e (one_first (DeclaresMethod classes key) once ds (subst (λ zs. FirstIn (DeclaresMethod classes key) zs (Some d)) lists first) first')

    -- the first from the direct superclass upwards is what a search from there finds, where a proper superclass declares one
    pub super_found : (c : ℕ) (k : ClassFile) (name : List ℕ) (f : Declared) (o : Option Declared) → IsClass classes c k → super_name k ≡ Some name → CallsSuper classes c key f
        → FindsMethod classes key (Some f) → FindsMethod classes (record { class = name; name = key.name; descriptor = key.descriptor }) o
        → (d : Declared) × (o ≡ Some d) × SpecialCalls classes c key d
    super_found c k name f o is named calls finds (xs, (cs, faces, chain, above, e), first) =
        let declares : DeclaresMethod classes key f = first_declares (DeclaresMethod classes key) finds.0 f finds.2 in
        let proper = calls.4 in
        let among : Contains cs f.class = proper_in_chain c f.class k cs is proper (subst (λ z. Chain classes z cs) (sym named) chain) in
        of_first o (subst (λ zs. FirstIn (DeclaresMethod classes key) zs o) e first) declares among
      where
        of_first : (o : Option Declared) → FirstIn (DeclaresMethod classes key) (cs ++ faces) o → DeclaresMethod classes key f → Contains cs f.class
            → (d : Declared) × (o ≡ Some d) × SpecialCalls classes c key d
        of_first None first declares among = absurd (first_some (DeclaresMethod classes key) (cs ++ faces) f (Contains-append_left cs faces f.class among) declares first)
        of_first (Some d) first declares among =
            (d, refl, (f, finds, inr (calls, k, cs, is, subst (λ z. Chain classes z cs) (sym named) chain, first_front (DeclaresMethod classes key) cs faces d f among declares first)))

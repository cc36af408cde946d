-- A class and its superclasses, upwards.
use Rattle.std.proofs.Common.{◌≡◌, ◌⊎◌, ℕ, List, [], ◌∷◌, ◌++◌, Contains, Option, Some, None, inl, inr, refl, sym, ap, subst, ◌∙◌, arith}
use Rattle.std.specs.Prelude.{◌↔◌, MatchOption}
use Rattle.std.proofs.lemmas.Option.{same_Some}
use Rattle.std.proofs.lemmas.List.Elements.{Contains-push, Contains-push_cases, Contains-append_left}
use Rattle.slicer_ids.specs.Walks.{IsWalk, LeadsBy, LeadsOn}
use Rattle.slicer_ids.specs.declared.ids.ClassId.{ClassId}
use Rattle.class_form.specs.Pools.{class_at}
use Rattle.class_form.specs.Classes.{IsClass, IsNamed, IsOutside, IsSuper, IsSuperOrSelf, IsProperSuper, super_name, AreInOrder}
use Rattle.class_form.specs.Resolution.{Chain, top, beyond, up}
use Rattle.class_form.specs.declared.class_file.ClassFile.{ClassFile}
use Rattle.program_form.proofs.Visits.{one_class}
use Rattle.constraint_rules.specs.One.{IsOne}
use Rattle.constraint_rules.specs.Supers.{IsFromFirst, IsClimbed}
use Rattle.constraint_rules.proofs.Ones.{none_of, some_of}

same_class : (a b : ClassId) → a.0 ≡ b.0 → a ≡ b
same_class a b e = ap (λ k. record { 0 = k }) e

module _ (classes : List ClassFile) where
  -- the class itself, or from its superclass on
  climb : (a b : ℕ) → IsSuperOrSelf classes a b → (a ≡ b) ⊎ ((m : ℕ) × IsSuper classes a m × IsSuperOrSelf classes m b)
  climb a b ([], e) = inl e
  climb a b (m ∷ xs, (step, rest)) = inr (m, step, (xs, rest))

  pub climbed_none : (first : Option ClassId) → IsClimbed classes first [] first
  climbed_none first = λ c. (λ h. inr h, λ e. elim e [ inl o ↦ absurd (omega (arith, o.1)) | inr h ↦ h ])

  pub climbed_more : (first : Option ClassId) (old : List ClassId) (a : ClassId) (next : Option ClassId) → IsOne (λ (c : ClassId). IsSuper classes a.0 c.0) next
      → IsClimbed classes first old (Some a) → IsClimbed classes first (old ++ a ∷ []) next
  climbed_more first old a next one inv = λ c. (to c, from c)
    where
      beyond_of : (c : ClassId) (n : Option ClassId) (m : ℕ) → n ≡ Some (record { 0 = m }) → IsSuperOrSelf classes m c.0 → IsFromFirst classes n c
      beyond_of c n m e h = subst (λ z. IsFromFirst classes z c) (sym e) h

      to : (c : ClassId) → IsFromFirst classes first c → Contains (old ++ a ∷ []) c ⊎ IsFromFirst classes next c
      to c h = elim ((inv c).0 h) [
        | inl o ↦ inl (Contains-append_left old (a ∷ []) c o)
        | inr w ↦ elim (climb a.0 c.0 w) [
          | inl e ↦ inl (subst (Contains (old ++ a ∷ [])) (same_class a c e) (Contains-push old a))
          | inr g ↦ inr (beyond_of c next g.0 ((one (record { 0 = g.0 })).0 g.1) g.2)
        ]
      ]

      above : (c : ClassId) (n : Option ClassId) → next ≡ n → IsFromFirst classes n c → IsSuperOrSelf classes a.0 c.0
      above c None e h = elim h [ ]
      above c (Some m) e (xs, rest) = (m.0 ∷ xs, ((one m).1 e, rest))

      from : (c : ClassId) → Contains (old ++ a ∷ []) c ⊎ IsFromFirst classes next c → IsFromFirst classes first c
      from c (inl h) = elim (Contains-push_cases old a c h) [
        | inl o ↦ (inv c).1 (inl o)
        | inr e ↦ (inv c).1 (inr ([], ap (λ (z : ClassId). z.0) e))
      ]
      from c (inr h) = (inv c).1 (inr (above c next refl h))

  pub climbed_all : (first : Option ClassId) (xs : List ClassId) → IsClimbed classes first xs None → (c : ClassId) → Contains xs c ↔ IsFromFirst classes first c
  climbed_all first xs inv c = (λ h. (inv c).1 (inl h), λ h. elim ((inv c).0 h) [ inl o ↦ o | inr never ↦ elim never [ ] ])

  -- the direct superclass, as the class file names it
  module _ (order : AreInOrder classes) (c : ℕ) (k : ClassFile) (is : IsClass classes c k) where
    file_of : (j : ClassFile) → IsClass classes c j → j ≡ k
    file_of j has = same_Some j k (sym has ∙ is)

    name_of : (d : ℕ) → IsSuper classes c d → (name : List ℕ) × (super_name k ≡ Some name) × IsNamed classes name d
    name_of d (j, name, has, named, found) = (name, subst (λ (z : ClassFile). super_name z ≡ Some name) (file_of j has) named, found)

    pub super_named : (name : List ℕ) (o : Option ClassId) → super_name k ≡ Some name → MatchOption o (IsOutside classes name) (λ d. IsNamed classes name d.0) → IsOne (λ (d : ClassId). IsSuper classes c d.0) o
    super_named name None named out = none_of (λ (d : ClassId). IsSuper classes c d.0) (λ d h.
        let (other, at, found) = name_of d.0 h in
        out d.0 (subst (λ z. IsNamed classes z d.0) (same_Some other name (sym at ∙ named)) found))
    super_named name (Some d) named found = some_of (λ (d : ClassId). IsSuper classes c d.0) d (k, name, is, named, found) (λ e h.
        let (other, at, has) = name_of e.0 h in
        same_class d e (one_class classes name d.0 e.0 order found (subst (λ z. IsNamed classes z e.0) (same_Some other name (sym at ∙ named)) has)))

    pub no_super_named : super_name k ≡ None → IsOne (λ (d : ClassId). IsSuper classes c d.0) None
    no_super_named none = none_of (λ (d : ClassId). IsSuper classes c d.0) (λ d h. let (name, at, found) = name_of d.0 h in let e : None ≡ Some name = sym none ∙ at in cc e)

  pub no_class : (c : ℕ) → ((k : ClassFile) → IsClass classes c k → ⊥) → IsOne (λ (d : ClassId). IsSuper classes c d.0) None
  no_class c never = none_of (λ (d : ClassId). IsSuper classes c d.0) (λ d h. never h.0 h.2)

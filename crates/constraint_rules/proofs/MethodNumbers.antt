-- Methods by number: where they stand, whether they are abstract, and which one a search finds.
use Rattle.std.proofs.Common.{◌≡◌, ◌≢◌, ◌≤◌, ℕ, Bool, List, length, map, Contains, Option, Some, None, inl, refl, sym, ap, subst, ◌∙◌, arith}
use Rattle.std.specs.Prelude.{◌↔◌, IsTrue, slice_get, option_map}
use Rattle.std.proofs.lemmas.List.{length-map}
use Rattle.std.proofs.lemmas.List.Elements.{All-contains}
use Rattle.std.proofs.lemmas.Option.{same_Some, slice_get_within, slice_get-map}
use Rattle.slicer_ids.specs.declared.ids.ClassId.{ClassId}
use Rattle.slicer_ids.specs.declared.ids.MethodId.{MethodId}
use Rattle.class_form.specs.Pools.{MemberKey}
use Rattle.class_form.specs.Classes.{Declared, IsClass, IsMethod, IsAbstract, IsSuper, IsSuperOrSelf, IsProperSuper, HasSuperFlag, super_name}
use Rattle.class_form.specs.Numbers.{AreMethods, IsThere}
use Rattle.class_form.specs.Resolution.{IsAbstractMethod, DeclaresMethod, FindsMethod, CallsSuper, SpecialCalls, init_name}
use Rattle.class_form.specs.declared.class_file.ClassFile.{ClassFile}
use Rattle.class_form.specs.declared.class_file.Member.{Member}
use Rattle.class_form.proofs.Indices.{index_in, there_at}
use Rattle.hierarchy.specs.Places.{declared_at}
use Rattle.hierarchy.specs.Selections.{member_key, IsFoundMethod, IsMethodNumber}
use Rattle.program_form.specs.Programs.{Program}
use Rattle.signature_tables.specs.Programs.{IsOfClasses}
use Rattle.constraint_rules.specs.One.{IsOne}
use Rattle.constraint_rules.specs.Calls.{IsAbstractAt, IsAbstractNumber, IsConcreteNumber, IsNumberOf, IsMethodFound}
use Rattle.constraint_rules.specs.Supers.{IsFromFirst}
use Rattle.constraint_rules.proofs.Ones.{none_of, some_of}
use Rattle.constraint_rules.proofs.MemberLists.{one_members, one_number}
use Rattle.constraint_rules.proofs.MethodsFound.{one_method, one_special, super_found, first_declares}

same_id : (a b : ClassId) → a.0 ≡ b.0 → a ≡ b
same_id a b e = ap (λ n. record { 0 = n }) e

-- what is climbed from the direct superclass on are the proper superclasses
pub proper_from : (classes : List ClassFile) (a b : ClassId) (first : Option ClassId) → IsOne (λ (d : ClassId). IsSuper classes a.0 d.0) first → IsFromFirst classes first b ↔ IsProperSuper classes a.0 b.0
proper_from classes a b None one = (
  λ h. elim h [ ],
  λ (m, above, walk). let d : ClassId = record { 0 = m } in let e : None ≡ Some d = (one d).0 above in absurd (cc e),
)
proper_from classes a b (Some f) one = (
  λ h. (f.0, (one f).1 refl, h),
  λ (m, above, walk).
      let d : ClassId = record { 0 = m } in
      let e : f ≡ d = same_Some f d ((one d).0 above) in
      subst (λ (z : ClassId). IsSuperOrSelf classes z.0 b.0) (sym e) walk,
)

module _ (classes : List ClassFile) (p : Program) (of : IsOfClasses classes p) where
  -- ---- the method at a place
  one_there : (d : Declared) (k : ClassFile) (m x : Member) (n u : List ℕ) → IsClass p.classes d.class k → slice_get k.methods d.index ≡ Some m → IsMethod p.classes d x n u → x ≡ m
  one_there d k m x n u is at (j, has, (here, named, described)) =
      let file : j ≡ k = same_Some j k (sym has ∙ is) in
      same_Some x m (sym (subst (λ (z : ClassFile). slice_get z.methods d.index ≡ Some x) file here) ∙ at)

  declared : (d : Declared) → Contains p.methods d → (x : Member) × (n : List ℕ) × (u : List ℕ) × IsMethod p.classes d x n u
  declared d among = subst (λ (ks : List ClassFile). IsThere (IsMethod ks) d) (sym of.classes_are) (All-contains (IsThere (IsMethod classes)) p.methods d of.methods_are.each among)

  abstract_there : (list : List ClassFile) → list ≡ classes → (d : Declared) → Contains p.methods d → IsAbstractAt list d → IsAbstractMethod p.classes d
  abstract_there list same d among (k, is, (m, at, flag)) =
      let here : IsClass p.classes d.class k = subst (λ (ks : List ClassFile). IsClass ks d.class k) (same ∙ sym of.classes_are) is in
      let (x, n, u, method) = declared d among in
      (x, n, u, method, subst (λ (z : Member). IsAbstract z.flags) (sym (one_there d k m x n u here at method)) flag)

  abstract_at : (list : List ClassFile) → list ≡ classes → (d : Declared) → IsAbstractMethod p.classes d → IsAbstractAt list d
  abstract_at list same d (x, n, u, (k, is, (at, named, described)), flag) = (k, subst (λ (ks : List ClassFile). IsClass ks d.class k) (of.classes_are ∙ sym same) is, (x, at, flag))

  -- ---- methods by number, as code has their places
  module _ (places : List (ClassId × ℕ)) (are : AreMethods classes (map declared_at places)) where
    methods_are : p.methods ≡ map declared_at places
    methods_are = one_members classes (λ (k : ClassFile). k.methods) p.methods (map declared_at places) of.methods_are are

    stands : (m : ℕ) (q : ClassId × ℕ) → slice_get places m ≡ Some q → slice_get p.methods m ≡ Some (declared_at q)
    stands m q at = subst (λ (ds : List Declared). slice_get ds m ≡ Some (declared_at q)) (sym methods_are) (slice_get-map declared_at places m ∙ ap (λ o. option_map declared_at o) at)

    beyond : (m : ℕ) (d : Declared) → length places ≤ m → slice_get p.methods m ≡ Some d → ⊥
    beyond m d le at = omega (arith, le, slice_get_within p.methods m d at, ap (λ (ds : List Declared). length ds) methods_are, length-map places declared_at)

    pub class_one : (m : MethodId) (q : ClassId × ℕ) → slice_get places m.0 ≡ Some q → IsOne (λ (c : ClassId). (d : Declared) × (slice_get p.methods m.0 ≡ Some d) × (d.class ≡ c.0)) (Some q.0)
    class_one m q at = some_of (λ (c : ClassId). (d : Declared) × (slice_get p.methods m.0 ≡ Some d) × (d.class ≡ c.0)) q.0 (declared_at q, stands m.0 q at, refl) (λ c (d, there, e).
        same_id q.0 c (ap (λ (z : Declared). z.class) (same_Some (declared_at q) d (sym (stands m.0 q at) ∙ there)) ∙ e))

    pub no_class_there : (m : MethodId) → length places ≤ m.0 → IsOne (λ (c : ClassId). (d : Declared) × (slice_get p.methods m.0 ≡ Some d) × (d.class ≡ c.0)) None
    no_class_there m le = none_of (λ (c : ClassId). (d : Declared) × (slice_get p.methods m.0 ≡ Some d) × (d.class ≡ c.0)) (λ c (d, there, e). beyond m.0 d le there)

    pub abstract_number : (m : MethodId) (q : ClassId × ℕ) (list : List ClassFile) (r : Bool) → slice_get places m.0 ≡ Some q → list ≡ classes → IsTrue r ↔ IsAbstractAt list (declared_at q) → IsTrue r ↔ IsAbstractNumber p m
    abstract_number m q list r at same told =
        let there = stands m.0 q at in
        let among = there_at p.methods m.0 (declared_at q) there in (
          λ yes. (declared_at q, there, abstract_there list same (declared_at q) among (told.0 yes)),
          λ (d, has, abs). told.1 (abstract_at list same (declared_at q) (subst (λ (z : Declared). IsAbstractMethod p.classes z) (same_Some d (declared_at q) (sym has ∙ there)) abs)),
        )

    pub no_abstract_number : (m : MethodId) → length places ≤ m.0 → IsAbstractNumber p m → ⊥
    no_abstract_number m le (d, has, abs) = beyond m.0 d le has

  -- a method has one class
  pub class_is : (m : MethodId) (c : ClassId) (d : Declared) → IsOne (λ (c : ClassId). (d : Declared) × (slice_get p.methods m.0 ≡ Some d) × (d.class ≡ c.0)) (Some c) → slice_get p.methods m.0 ≡ Some d → d.class ≡ c.0
  class_is m c d one at =
      let (e, there, same) = (one c).1 refl in
      ap (λ (z : Declared). z.class) (same_Some d e (sym at ∙ there)) ∙ same

  pub class_of_none : (m : MethodId) (d : Declared) → IsOne (λ (c : ClassId). (d : Declared) × (slice_get p.methods m.0 ≡ Some d) × (d.class ≡ c.0)) None → slice_get p.methods m.0 ≡ Some d → ⊥
  class_of_none m d one at =
      let c : ClassId = record { 0 = d.class } in
      let e : None ≡ Some c = (one c).0 (d, at, refl) in cc e

  -- ---- the method of which a fact holds
  pub number_one : (D : Declared → Type 0) → ((d e : Declared) → D d → D e → d ≡ e) → (m : MethodId) (d : Declared) → D d → slice_get p.methods m.0 ≡ Some d → IsOne (IsNumberOf p D) (Some m)
  number_one D only m d is at = some_of (IsNumberOf p D) m (d, is, at) (λ n (e, has, there).
      let same : d ≡ e = only d e is has in
      ap (λ i. record { 0 = i }) (one_number classes (λ (k : ClassFile). k.methods) p.methods e m.0 n.0 of.methods_are (subst (λ z. slice_get p.methods m.0 ≡ Some z) same at) there))

  -- a method that a class declares has a number
  declared_number : (key : MemberKey) (d : Declared) → DeclaresMethod p.classes key d → (m : MethodId) × (slice_get p.methods m.0 ≡ Some d)
  declared_number key d (k, x, is, declares) =
      let there : IsThere (IsMethod classes) d = (x, key.name, key.descriptor, (k, subst (λ (ks : List ClassFile). IsClass ks d.class k) of.classes_are is, declares)) in
      let (i, at) = index_in p.methods d (of.methods_are.whole d there) in
      (record { 0 = i }, at)

  pub found_number : (key : MemberKey) (d : Declared) → FindsMethod p.classes key (Some d) → (m : MethodId) × (slice_get p.methods m.0 ≡ Some d)
  found_number key d (xs, visits, first) = declared_number key d (first_declares (DeclaresMethod p.classes key) xs d first)

  module _ (key : MemberKey) where
    once : (d e : Declared) → DeclaresMethod p.classes key d → DeclaresMethod p.classes key e → d.class ≡ e.class → d ≡ e
    once = subst (λ (ks : List ClassFile). (d e : Declared) → DeclaresMethod ks key d → DeclaresMethod ks key e → d.class ≡ e.class → d ≡ e) (sym of.classes_are) (of.methods_once key)

    here : (o : Option Declared) → FindsMethod classes key o → FindsMethod p.classes key o
    here o finds = subst (λ (ks : List ClassFile). FindsMethod ks key o) (sym of.classes_are) finds

    number_here : (m : MethodId) (d : Declared) → IsMethodNumber classes m.0 d → slice_get p.methods m.0 ≡ Some d
    number_here m d (methods, are, at) =
        subst (λ (ds : List Declared). slice_get ds m.0 ≡ Some d) (one_members classes (λ (k : ClassFile). k.methods) methods p.methods are of.methods_are) at

    some_found : (d e : Declared) → FindsMethod p.classes key (Some d) → FindsMethod p.classes key (Some e) → d ≡ e
    some_found d e f g = same_Some d e (one_method p.classes of.read.classes key once (Some d) (Some e) f g)

    pub not_both : (d : Declared) → FindsMethod p.classes key None → FindsMethod p.classes key (Some d) → ⊥
    not_both d f g = let e : None ≡ Some d = one_method p.classes of.read.classes key once None (Some d) f g in cc e

    -- what a search finds
    pub found_one : (o : Option MethodId) → IsFoundMethod classes key o → IsOne (IsNumberOf p (IsMethodFound p key)) o
    found_one None none = none_of (IsNumberOf p (IsMethodFound p key)) (λ m (d, finds, at). not_both d (here None none) finds)
    found_one (Some m) (d, finds, number) = number_one (IsMethodFound p key) some_found m d (here (Some d) finds) (number_here m d number)

    -- whether a search finds nothing
    pub finds_nothing : (o : Option MethodId) (r : Bool) → IsFoundMethod classes key o → IsTrue r ↔ (o ≡ None) → IsTrue r ↔ FindsMethod p.classes key None
    finds_nothing None r none told = (λ yes. here None none, λ f. told.1 refl)
    finds_nothing (Some m) r (d, finds, number) told = (
      λ yes. let e : Some m ≡ None = told.0 yes in absurd (cc e),
      λ none. absurd (not_both d none (here (Some d) finds)),
    )

    -- ---- special calls of a class
    module _ (c : ℕ) (k : ClassFile) (is : IsClass p.classes c k) where
      file_here : (j : ClassFile) → IsClass p.classes c j → j ≡ k
      file_here j has = same_Some j k (sym has ∙ is)

      pub calls_proper : (d : Declared) (a : ℕ) (may r : Bool) → IsTrue may ↔ (HasSuperFlag k.flags × (key.name ≢ init_name)) → IsTrue may → d.class ≡ a → IsTrue r ↔ IsProperSuper p.classes c a
          → IsTrue r ↔ CallsSuper p.classes c key d
      calls_proper d a may r flag told e proper =
          let (has, name) = flag.0 told in (
            λ t. (k, is, has, name, subst (λ n. IsProperSuper p.classes c n) (sym e) (proper.0 t)),
            λ h. proper.1 (subst (λ n. IsProperSuper p.classes c n) e h.4),
          )

      pub calls_none : (d : Declared) (may : Bool) → IsTrue may ↔ (HasSuperFlag k.flags × (key.name ≢ init_name)) → (IsTrue may → ⊥) → CallsSuper p.classes c key d → ⊥
      calls_none d may flag never (j, has, flagged, name, proper) = never (flag.1 (subst (λ (z : ClassFile). HasSuperFlag z.flags) (file_here j has) flagged, name))

      special_same : (d e : Declared) → SpecialCalls p.classes c key d → SpecialCalls p.classes c key e → d ≡ e
      special_same d e f g = one_special p.classes of.read.classes key once c d e f g

      -- the method found is the one called, where it is no superclass's
      pub special_itself : (m : MethodId) (d : Declared) → IsMethodFound p key d → slice_get p.methods m.0 ≡ Some d → (CallsSuper p.classes c key d → ⊥) → IsOne (IsNumberOf p (SpecialCalls p.classes c key)) (Some m)
      special_itself m d finds at never = number_one (SpecialCalls p.classes c key) special_same m d (d, finds, inl (never, refl)) at

      -- .. and else the one that a search from the direct superclass finds
      pub special_above : (f : Declared) (name : List ℕ) (o : Option MethodId) → super_name k ≡ Some name → CallsSuper p.classes c key f → IsMethodFound p key f
          → IsFoundMethod classes (member_key name key.name key.descriptor) o → IsOne (IsNumberOf p (SpecialCalls p.classes c key)) o
      special_above f name None named calls finds none =
          let above : FindsMethod p.classes (member_key name key.name key.descriptor) None = subst (λ (ks : List ClassFile). FindsMethod ks (member_key name key.name key.descriptor) None) (sym of.classes_are) none in
          let (d, e, special) = super_found p.classes of.read.classes key once c k name f None is named calls finds above in
          absurd (cc e)
      special_above f name (Some m) named calls finds (g, found, number) =
          let above : FindsMethod p.classes (member_key name key.name key.descriptor) (Some g) = subst (λ (ks : List ClassFile). FindsMethod ks (member_key name key.name key.descriptor) (Some g)) (sym of.classes_are) found in
          let (d, e, special) = super_found p.classes of.read.classes key once c k name f (Some g) is named calls finds above in
          let same : g ≡ d = same_Some g d e in
          number_one (SpecialCalls p.classes c key) special_same m g (subst (λ z. SpecialCalls p.classes c key z) (sym same) special) (number_here m g number)

      pub no_super_called : (f : Declared) → super_name k ≡ None → CallsSuper p.classes c key f → ⊥
      no_super_called f none (l, there, flagged, init, (m, (j, name, has, named, found), walk)) =
          let e : None ≡ Some name = sym none ∙ subst (λ (z : ClassFile). super_name z ≡ Some name) (file_here j has) named in cc e

      pub no_special : IsOne (IsNumberOf p (IsMethodFound p key)) None → IsOne (IsNumberOf p (SpecialCalls p.classes c key)) None
      no_special none = none_of (IsNumberOf p (SpecialCalls p.classes c key)) (λ m (d, (f, finds, how), at).
          let (n, there) = found_number key f finds in
          let e : None ≡ Some n = (none n).0 (f, finds, there) in cc e)

-- ---- the method found, where it isn't abstract
module _ (p : Program) where
  moved : (n m : MethodId) (d : Declared) → n ≡ m → slice_get p.methods n.0 ≡ Some d → slice_get p.methods m.0 ≡ Some d
  moved n m d e at = subst (λ (z : MethodId). slice_get p.methods z.0 ≡ Some d) e at

  pub abstract_one : (n m : MethodId) → IsAbstractNumber p n → (◌≡◌ {A = Option MethodId} None (Some m)) ↔ ((n ≡ m) × IsConcreteNumber p m)
  abstract_one n m (d, at, abs) = (λ e. absurd (cc e), λ (e, never). absurd (never d (moved n m d e at) abs))

  pub concrete_one : (n m : MethodId) → (IsAbstractNumber p n → ⊥) → (Some n ≡ Some m) ↔ ((n ≡ m) × IsConcreteNumber p m)
  concrete_one n m never = (
    λ e. let same : n ≡ m = same_Some n m e in (same, λ d at abs. never (d, moved m n d (sym same) at, abs)),
    λ (e, rest). ap (λ (z : MethodId). Some z) e,
  )

  pub concrete_found : (found : Option MethodId) (n m : MethodId) (o : Option MethodId) → found ≡ Some n → (o ≡ Some m) ↔ ((n ≡ m) × IsConcreteNumber p m) → (o ≡ Some m) ↔ ((found ≡ Some m) × IsConcreteNumber p m)
  concrete_found found n m o is one = (
    λ e. let (same, rest) = one.0 e in (is ∙ ap (λ (z : MethodId). Some z) same, rest),
    λ (e, rest). one.1 (same_Some n m (sym is ∙ e), rest),
  )

  pub none_found : (found : Option MethodId) (m : MethodId) → found ≡ None → (◌≡◌ {A = Option MethodId} None (Some m)) ↔ ((found ≡ Some m) × IsConcreteNumber p m)
  none_found found m is = (λ e. absurd (cc e), λ (e, rest). sym is ∙ e)

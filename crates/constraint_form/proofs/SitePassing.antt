-- What the rules ask of a site means the same of the program and of its system, by numbers.
use Rattle.std.proofs.Common.{◌≡◌, ◌⊎◌, ℕ, Bool, true, false, List, [], Option, Some, None, refl, sym, subst, ◌∙◌, inl, inr}
use Rattle.std.specs.Prelude.{Contains}
use Rattle.std.proofs.lemmas.Bool.{false≢true}
use Rattle.std.proofs.lemmas.Option.{same_Some, slice_get_within}
use Rattle.slicer_ids.specs.declared.ids.ClassId.{ClassId}
use Rattle.slicer_ids.specs.declared.ids.MethodId.{MethodId}
use Rattle.slicer_ids.specs.declared.ids.SiteId.{SiteId}
use Rattle.slicer_ids.specs.declared.ids.FieldId.{FieldId}
use Rattle.slicer_ids.specs.declared.ids.Statement.{Statement}
use Rattle.class_form.specs.Pools.{MemberKey}
use Rattle.class_form.specs.Classes.{Declared, class_name, IsNamed, IsOutside, IsSub}
use Rattle.class_form.specs.Resolution.{DeclaresInstance, Selects, FirstIn, nowhere, here, later}
use Rattle.class_form.specs.declared.class_file.ClassFile.{ClassFile}
use Rattle.dep_form.specs.declared.rules.SiteInfo.{SiteInfo}
use Rattle.dep_form.specs.declared.system.System.{System}
use Rattle.dep_form.specs.Constraints.{IsSite, IsElements, IsState, Passes, SelectsMethod, SelectsOutside}
use Rattle.program_form.specs.Programs.{Program}
use Rattle.program_form.specs.Statements.{NamesMember}
use Rattle.program_form.specs.Sites.{Site, IsArraySite, IsObjectOf, PassesClass}
use Rattle.program_form.specs.Facts.{FieldName, Elements, State, IsElements as HasElements, IsState as HasState, SelectsTarget, SelectsOutside as GoesOutsideAt}
use Rattle.program_form.specs.Systems.{SiteNumber, FieldNumber}
use Rattle.program_form.proofs.Visits.{one_class, one_chain, one_first}
use Rattle.constraint_form.specs.Asked.{IsReadProgram}
use Rattle.constraint_form.specs.Variables.{Meaning}
use Rattle.constraint_form.specs.Signatures.{SignatureNumber}
use Rattle.constraint_form.specs.Rules.{IsFilter}
use Rattle.constraint_form.specs.ConstraintSystems.{AreTables, AreSites}
use Rattle.constraint_form.proofs.Instructions.{one_member}
use Rattle.constraint_form.proofs.Types.{no_array_object, one_object, array_or_object}
use Rattle.constraint_form.proofs.SiteNumbers.{info_of, site_type, one_signature}

-- an answer that isn't true is false
not_true : (b : Bool) → (b ≡ true → ⊥) → b ≡ false
not_true true n = absurd (n refl)
not_true false n = refl

-- a number of a class is of one name
pub one_name : (classes : List ClassFile) (n m : List ℕ) (c : ℕ) → IsNamed classes n c → IsNamed classes m c → n ≡ m
one_name classes n m c (j, at, e) (k, there, f) = same_Some n m (sym (subst (λ (x : ClassFile). class_name x ≡ Some n) (same_Some j k (sym at ∙ there)) e) ∙ f)

abbrev Fits : List ClassFile → List ℕ → List ℕ → Declared → Type 0
Fits classes n d = DeclaresInstance classes (record { class = []; name = n; descriptor = d })

-- a selection reads the name and descriptor of a key alone
pub same_selection : (classes : List ClassFile) (name : List ℕ) (k l : MemberKey) (found : Option Declared) → k.name ≡ l.name → k.descriptor ≡ l.descriptor →
    Selects classes name k found → Selects classes name l found
same_selection classes name k l found e f (cs, chain, first) = (cs, chain, same_first first)
  where
    same_fit : (x : Declared) → DeclaresInstance classes k x → DeclaresInstance classes l x
    same_fit x h = subst (λ n. Fits classes n l.descriptor x) e (subst (λ d. Fits classes k.name d x) f h)

    back : (x : Declared) → DeclaresInstance classes l x → DeclaresInstance classes k x
    back x h = subst (λ n. Fits classes n k.descriptor x) (sym e) (subst (λ d. Fits classes l.name d x) (sym f) h)

    same_first : {cs : List ℕ} {o : Option Declared} → FirstIn (DeclaresInstance classes k) cs o → FirstIn (DeclaresInstance classes l) cs o
    same_first nowhere = nowhere
    same_first (here {d} is fits) = here is (same_fit d fits)
    same_first (later never rest) = later (λ d is fits. never d is (back d fits)) (same_first rest)

abbrev SelectsNone : System → ℕ → SiteInfo → Type 0
SelectsNone s g info = (info.class ≡ None) ⊎ ((c : ClassId) × (info.class ≡ Some c) × ((m : Option MethodId) → Contains s.selects (g, c, m) → ⊥))

module _ (p : Program) (s : System) (names : List Meaning) (asked : IsReadProgram p) (tables : AreTables p s names) where
  sites : AreSites p s.sites
  sites = tables.sites

  module _ (n : SiteId) (h : Site) (number : SiteNumber p n h) where
    array_flag : (info : SiteInfo) → IsSite s n info → IsArraySite p h → info.array ≡ true
    array_flag info is a = (tables.sites.arrays n h info number is).1 a

    object_flag : (info : SiteInfo) (name : List ℕ) → IsSite s n info → IsObjectOf p h name → info.array ≡ false
    object_flag info name is o = not_true info.array (λ e. no_array_object p asked h name ((tables.sites.arrays n h info number is).0 e) o)

    object_of : (info : SiteInfo) → IsSite s n info → info.array ≡ false → (name : List ℕ) × IsObjectOf p h name
    object_of info is e =
        let t = site_type p n h number in
        elim (array_or_object p asked h t.0 t.1) [ inl a ↦ absurd (false≢true (sym e ∙ array_flag info is a)) | inr o ↦ o ]

    -- the elements and the state of a site
    pub to_elements : (f : FieldName) (g : FieldId) → FieldNumber s f g → HasElements p h f → IsElements s n g
    to_elements f g x (a, e) =
        let i = info_of p s tables.sites n h number in
        (i.0, i.1, array_flag i.0 i.1 a, subst (λ k. FieldNumber s k g) e x)

    pub from_elements : (g : FieldId) → IsElements s n g → HasElements p h Elements × FieldNumber s Elements g
    from_elements g (info, is, e, f) = (((tables.sites.arrays n h info number is).0 e, refl), f)

    pub to_state : (f : FieldName) (g : FieldId) → FieldNumber s f g → HasState p h f → IsState s n g
    to_state f g x (inl a) = inl (to_elements f g x a)
    to_state f g x (inr (name, o, e)) =
        let i = info_of p s tables.sites n h number in
        inr (i.0, i.1, object_flag i.0 name i.1 o, subst (λ k. FieldNumber s k g) e x)

    pub from_state : (g : FieldId) → IsState s n g → (f : FieldName) × HasState p h f × FieldNumber s f g
    from_state g (inl a) = let x = from_elements g a in (Elements, inl x.0, x.1)
    from_state g (inr (info, is, e, f)) = let o = object_of info is e in (State, inr (o.0, o.1, refl), f)

    -- what a filter passes
    pub to_passes : (text : List ℕ) (keep : Option ClassId) → IsFilter p text keep → PassesClass p text h → Passes s keep n
    to_passes text None filter pass = tt
    to_passes text (Some c) filter pass =
        let i = info_of p s tables.sites n h number in
        let ok = pass c.0 filter in
        let no_array : i.0.array ≡ false = not_true i.0.array (λ e. ok.0 ((tables.sites.arrays n h i.0 number i.1).0 e)) in
        (i.0, i.1, no_array, classed i.0 i.1 ok.1 i.0.class refl)
      where
        classed : (info : SiteInfo) → IsSite s n info → ((name : List ℕ) (d : ℕ) → IsObjectOf p h name → IsNamed p.classes name d → IsSub p.classes d c.0) →
            (o : Option ClassId) → info.class ≡ o → (info.class ≡ None) ⊎ ((d : ClassId) × (info.class ≡ Some d) × Contains s.subclasses (d, c))
        classed info is sub None e = inl e
        classed info is sub (Some d) e =
            let o = (tables.sites.objects n h info d number is).0 e in
            inr (d, e, (tables.types.subs d c).1 (slice_get_within p.classes d.0 o.2.0 o.2.1, slice_get_within p.classes c.0 filter.0 filter.1, sub o.0 d.0 o.1 o.2))

    pub from_passes : (text : List ℕ) (keep : Option ClassId) → IsFilter p text keep → Passes s keep n → PassesClass p text h
    from_passes text None outside pass = λ c named. absurd (outside c named)
    from_passes text (Some d) filter (info, is, e, k) = λ c named.
        let same : c ≡ d.0 = one_class p.classes text c d.0 asked.classes named filter in
        (λ a. false≢true (sym e ∙ array_flag info is a), λ name b o of. subst (λ z. IsSub p.classes b z) (sym same) (below name b o of k))
      where
        below : (name : List ℕ) (b : ℕ) → IsObjectOf p h name → IsNamed p.classes name b → (info.class ≡ None) ⊎ ((x : ClassId) × (info.class ≡ Some x) × Contains s.subclasses (x, d)) → IsSub p.classes b d.0
        below name b o of k =
            let mine : info.class ≡ Some (record { 0 = b }) = (tables.sites.objects n h info (record { 0 = b }) number is).1 (name, o, of) in
            elim k [
              | inl none ↦ absurd (let e : None ≡ Some (record { 0 = b }) = sym none ∙ mine in cc)
              | inr (x, has, c) ↦
                  let one : record { 0 = b } ≡ x = same_Some (record { 0 = b }) x (sym mine ∙ has) in
                  subst (λ (z : ClassId). IsSub p.classes z.0 d.0) (sym one) ((tables.types.subs x d).0 c).2
            ]

    -- what a class selects
    pub to_selects : (u : Statement) (t : MethodId) → SelectsTarget p u h t →
        (key : MemberKey) × NamesMember p u key × ((g : ℕ) → SignatureNumber p key g → SelectsMethod s g n t)
    to_selects u t (key, d, name, c, names, o, of, sel, target) =
        let i = info_of p s tables.sites n h number in
        let id : ClassId = record { 0 = c } in
        (key, names, λ g sig. (i.0, id, i.1, object_flag i.0 name i.1 o, (tables.sites.objects n h i.0 id number i.1).1 (name, o, of), (tables.types.selected g id (Some t)).1 (key, name, d, sig, of, sel, target)))

    pub from_selects : (u : Statement) (t : MethodId) (key : MemberKey) (g : ℕ) → NamesMember p u key → SignatureNumber p key g → SelectsMethod s g n t → SelectsTarget p u h t
    from_selects u t key g names sig (info, c, is, e, class, listed) =
        let (other, name, d, number_of, named, sel, target) = (tables.types.selected g c (Some t)).0 listed in
        let o = (tables.sites.objects n h info c number is).0 class in
        let same = one_signature p other key g number_of sig in
        let here : Selects p.classes o.0 other (Some d) = subst (λ z. Selects p.classes z other (Some d)) (one_name p.classes name o.0 c.0 named o.2) sel in
        (key, d, o.0, c.0, names, o.1, o.2, same_selection p.classes o.0 other key (Some d) same.0 same.1 here, target)

    -- where it selects none
    pub to_outside : (u : Statement) (key : MemberKey) (g : ℕ) → NamesMember p u key → SignatureNumber p key g → GoesOutsideAt p u h → SelectsOutside s g n
    to_outside u key g names sig (inl a) = let i = info_of p s tables.sites n h number in (i.0, i.1, inl (array_flag i.0 i.1 a))
    to_outside u key g names sig (inr (name, o, way)) =
        let i = info_of p s tables.sites n h number in
        (i.0, i.1, inr (by_class i.0 i.1 way i.0.class refl))
      where
        is_named : (info : SiteInfo) → IsSite s n info → (c : ClassId) → info.class ≡ Some c → IsNamed p.classes name c.0
        is_named info is c e = let x = (tables.sites.objects n h info c number is).0 e in subst (λ z. IsNamed p.classes z c.0) (one_object p asked h x.0 name x.1 o) x.2

        by_class : (info : SiteInfo) → IsSite s n info → IsOutside p.classes name ⊎ ((k : MemberKey) × NamesMember p u k × Selects p.classes name k None) →
            (m : Option ClassId) → info.class ≡ m → SelectsNone s g info
        by_class info is way None e = inl e
        by_class info is (inl outside) (Some c) e = absurd (outside c.0 (is_named info is c e))
        by_class info is (inr (k, names_k, none)) (Some c) e = inr (
          c,
          e,
          λ m listed.
              let (other, other_name, d, number_of, named, sel, target) = (tables.types.selected g c m).0 listed in
              let same = one_signature p other key g number_of sig in
              let there : Selects p.classes name other (Some d) = subst (λ z. Selects p.classes z other (Some d)) (one_name p.classes other_name name c.0 named (is_named info is c e)) sel in
              let found : Selects p.classes name key (Some d) = same_selection p.classes name other key (Some d) same.0 same.1 there in
              let nothing : Selects p.classes name key None = subst (λ z. Selects p.classes name z None) (one_member p asked u k key names_k names) none in
              let chain = one_chain p.classes asked.classes (Some name) nothing.1 found.1 in
              let F = DeclaresInstance p.classes key in
              let one : Some d ≡ None = one_first F (asked.once key) found.0 found.2 (subst (λ cs. FirstIn F cs None) chain nothing.2) in
              absurd (cc one),
        )

    pub from_outside : (u : Statement) (key : MemberKey) (g : ℕ) → NamesMember p u key → SignatureNumber p key g → SelectsOutside s g n → GoesOutsideAt p u h
    from_outside u key g names sig (info, is, inl e) = inl ((tables.sites.arrays n h info number is).0 e)
    from_outside u key g names sig (info, is, inr (inl none)) =
        let t = site_type p n h number in
        elim (array_or_object p asked h t.0 t.1) [
          | inl a ↦ inl a
          | inr (name, o) ↦ inr (name, o, inl (λ c named. let e : None ≡ Some (record { 0 = c }) = sym none ∙ (tables.sites.objects n h info (record { 0 = c }) number is).1 (name, o, named) in absurd (cc e)))
        ]
    from_outside u key g names sig (info, is, inr (inr (c, e, unlisted))) =
        let o = (tables.sites.objects n h info c number is).0 e in
        inr (o.0, o.1, inr (key, names, tables.types.others g c key o.0 sig o.2 unlisted))

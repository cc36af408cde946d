-- The sites of one statement, and of the root, with what is kept of them.
use Rattle.std.proofs.Common.{◌≡◌, ◌⊎◌, ◌<◌, ◌≤◌, ◌+◌, ◌^◌, ℕ, zero, suc, true, false, List, [], ◌∷◌, ◌++◌, length, Option, Some, None, refl, sym, ap, subst, ◌∙◌, inl, inr, append_assoc, length-append, codes, arith}
use Rattle.std.proofs.lemmas.Bool.{false≢true, cases_lt}
use Rattle.std.proofs.lemmas.Option.{same_Some}
use Rattle.slicer_ids.specs.Sets.{IsOrderedListOf}
use Rattle.slicer_ids.specs.declared.ids.ClassId.{ClassId}
use Rattle.slicer_ids.specs.declared.ids.Statement.{Statement}
use Rattle.slicer_ids.proofs.GrowingOrder.{pushed, reworded}
use Rattle.class_form.specs.Classes.{IsNamed, AreInOrder}
use Rattle.class_form.specs.declared.class_file.ClassFile.{ClassFile}
use Rattle.class_form.specs.declared.types.BaseType.{BaseType}
use Rattle.class_form.specs.declared.types.BaseType.TheVariants.{Class}
use Rattle.class_form.specs.declared.types.FieldType.{FieldType}
use Rattle.dep_form.specs.declared.rules.SiteInfo.{SiteInfo}
use Rattle.hierarchy.proofs.Rows.{one_number}
use Rattle.program_form.specs.Programs.{Program}
use Rattle.program_form.specs.Sites.{Site, Made, OfRoot, HasType, of_arguments, of_argument, SiteBefore, IsArraySite, IsObjectOf}
use Rattle.signature_tables.specs.Programs.{IsOfClasses}
use Rattle.site_tables.specs.declared.fresh.Fresh.{Fresh}
use Rattle.site_tables.specs.declared.table.Table.{Table}
use Rattle.site_tables.specs.Making.{class_in, count_of, objects_of, AreMade}
use Rattle.site_tables.specs.Tables.{IsInfoOf, AreInfosOf, Adds, IsMadeAt, IsOfRoot, IsFound, IsObjectAdded, AreAdded, AreStringsAdded, arrays_at}
use Rattle.site_tables.proofs.Adding.{infos_append}
use Rattle.site_tables.proofs.Layers.{no_more, one_more}

-- the first sites of a statement
abbrev first_sites : Statement → ℕ → List Site
first_sites t zero = []
first_sites t (suc k) = first_sites t k ++ Made t k ∷ []

abbrev IsFirstSite : Statement → ℕ → Site → Type 0
IsFirstSite t n h = (k : ℕ) × (k < n) × (h ≡ Made t k)

first_length : (t : Statement) (n : ℕ) → length (first_sites t n) ≡ n
first_length t zero = refl
first_length t (suc n) = length-append (first_sites t n) (Made t n ∷ []) ∙ ap (λ m. m + 1) (first_length t n) ∙ omega arith

first_ordered : (t : Statement) (n : ℕ) → IsOrderedListOf SiteBefore (first_sites t n) (IsFirstSite t n)
first_ordered t zero = record {
  each = λ k d lt. absurd (omega (arith, lt));
  order = λ i j d lt within. absurd (omega (arith, within));
  whole = λ h x. absurd (omega (arith, x.1));
}
first_ordered t (suc n) = pushed SiteBefore (first_sites t n) (Made t n) (IsFirstSite t n) (IsFirstSite t (suc n)) (first_ordered t n)
    (λ h (k, lt, e). subst (λ g. SiteBefore g (Made t n)) (sym e) (inr (refl, lt)))
    (λ h (k, lt, e). (k, omega (arith, lt), e))
    (n, omega arith, refl)
    (λ h (k, lt, e). last h k lt e (cases_lt k n))
  where
    last : (h : Site) (k : ℕ) → k < suc n → h ≡ Made t k → (k < n) ⊎ (n ≤ k) → IsFirstSite t n h ⊎ (Made t n ≡ h)
    last h k lt e (inl less) = inl (k, less, e)
    last h k lt e (inr le) = let same : n ≡ k = omega (arith, lt, le) in inr (ap (λ m. Made t m) same ∙ sym e)

module _ (classes : List ClassFile) (p : Program) (of : IsOfClasses classes p) where
  -- the class that was found is the class of the name
  found_is : (name : List ℕ) (o : Option ClassId) → IsFound classes name o → (c : ClassId) → ((o ≡ Some c) → IsNamed p.classes name c.0) × (IsNamed p.classes name c.0 → o ≡ Some c)
  found_is name None out c = (
    λ e. absurd (cc e),
    λ named. absurd (out c.0 (subst (λ (ks : List ClassFile). IsNamed ks name c.0) of.classes_are named)),
  )
  found_is name (Some d) named c = (
    λ e. subst (λ (x : ClassId). IsNamed p.classes name x.0) (same_Some d c e) (subst (λ (ks : List ClassFile). IsNamed ks name d.0) (sym of.classes_are) named),
    λ here.
        let one : d.0 ≡ c.0 = one_number p.classes name d.0 c.0 of.read.classes (subst (λ (ks : List ClassFile). IsNamed ks name d.0) (sym of.classes_are) named) here in
        ap (λ n. Some (record { 0 = n })) one,
  )

  -- what is kept of a site of objects of one class
  object_info : (h : Site) (name : List ℕ) (o : Option ClassId) (info : SiteInfo) → IsObjectOf p h name → ((other : List ℕ) → IsObjectOf p h other → other ≡ name) → (IsArraySite p h → ⊥) → IsFound classes name o →
      info.array ≡ false → info.class ≡ o → ((info.array ≡ true) → IsArraySite p h) × (IsArraySite p h → info.array ≡ true)
      × ((c : ClassId) → ((info.class ≡ Some c) → (other : List ℕ) × IsObjectOf p h other × IsNamed p.classes other c.0) × ((other : List ℕ) × IsObjectOf p h other × IsNamed p.classes other c.0 → info.class ≡ Some c))
  object_info h name o info is one never found plain class = (
    λ e. absurd (false≢true (sym plain ∙ e)),
    λ s. absurd (never s),
    λ c. (
      λ e. (name, is, (found_is name o found c).0 (sym class ∙ e)),
      λ (other, object, named). class ∙ (found_is name o found c).1 (subst (λ n. IsNamed p.classes n c.0) (one other object) named),
    ),
  )

  -- what is kept of a site of arrays
  array_info : (h : Site) (info : SiteInfo) → IsArraySite p h → ((name : List ℕ) → IsObjectOf p h name → ⊥) → info.array ≡ true → info.class ≡ None →
      ((info.array ≡ true) → IsArraySite p h) × (IsArraySite p h → info.array ≡ true)
      × ((c : ClassId) → ((info.class ≡ Some c) → (other : List ℕ) × IsObjectOf p h other × IsNamed p.classes other c.0) × ((other : List ℕ) × IsObjectOf p h other × IsNamed p.classes other c.0 → info.class ≡ Some c))
  array_info h info is never array none = (
    λ e. is,
    λ s. array,
    λ c. (λ e. let f : None ≡ Some c = sym none ∙ e in absurd (cc f), λ (other, object, named). absurd (never other object)),
  )

  module _ (t : Statement) (x : Fresh) (made : AreMade p t x) where
    arrays_kept : (n : ℕ) → n ≤ x.dims → AreInfosOf p (first_sites t n) (arrays_at t n)
    arrays_kept zero le = tt
    arrays_kept (suc n) le =
        let info : SiteInfo = record { class = None; array = true; place = Some t; k = n } in
        let lt : n < x.dims = omega (arith, le) in
        let kept = array_info (Made t n) info ((made.arrays n).0 lt) (λ name object. absurd (omega (arith, lt, ((made.objects n name).1 object).0))) refl refl in
        infos_append p (first_sites t n) (Made t n ∷ []) (arrays_at t n) (info ∷ []) (arrays_kept n (omega (arith, le))) (record { place = (refl, refl); array = (kept.0, kept.1); class = kept.2 }, tt)

    -- the object after them
    object_kept : (name : List ℕ) (o : Option ClassId) → class_in x ≡ Some name → IsFound classes name o → IsInfoOf p (Made t x.dims) (record { class = o; array = false; place = Some t; k = x.dims })
    object_kept name o e found =
        let info : SiteInfo = record { class = o; array = false; place = Some t; k = x.dims } in
        let kept = object_info (Made t x.dims) name o info ((made.objects x.dims name).0 (refl, e)) (λ other object. one other object) (λ s. absurd (omega (arith, (made.arrays x.dims).1 s))) found refl refl in
        record { place = (refl, refl); array = (kept.0, kept.1); class = kept.2 }
      where
        one : (other : List ℕ) → IsObjectOf p (Made t x.dims) other → other ≡ name
        one other object = same_Some other name (sym ((made.objects x.dims other).1 object).1 ∙ e)

    -- what was added for a statement is kept of its sites
    pub added : (old new : List SiteInfo) → AreAdded classes t x old new → (more : List SiteInfo) × (new ≡ old ++ more) × AreInfosOf p (first_sites t (count_of x)) more
    added old new add = by_class (class_in x) refl add
      where
        by_class : (o : Option (List ℕ)) → class_in x ≡ o → IsObjectAdded classes t x.dims o (old ++ arrays_at t x.dims) new → (more : List SiteInfo) × (new ≡ old ++ more) × AreInfosOf p (first_sites t (count_of x)) more
        by_class None e same =
            let count : x.dims ≡ count_of x = sym (no_more x.dims) ∙ ap (λ o. x.dims + objects_of o) (sym e) in
            (arrays_at t x.dims, same, subst (λ n. AreInfosOf p (first_sites t n) (arrays_at t x.dims)) count (arrays_kept x.dims (omega arith)))
        by_class (Some name) e (o, found, f) =
            let info : SiteInfo = record { class = o; array = false; place = Some t; k = x.dims } in
            let count : suc x.dims ≡ count_of x = sym (one_more x.dims name) ∙ ap (λ o. x.dims + objects_of o) (sym e) in (
              arrays_at t x.dims ++ info ∷ [],
              f ∙ append_assoc old (arrays_at t x.dims) (info ∷ []),
              subst (λ n. AreInfosOf p (first_sites t n) (arrays_at t x.dims ++ info ∷ [])) count
                  (infos_append p (first_sites t x.dims) (Made t x.dims ∷ []) (arrays_at t x.dims) (info ∷ []) (arrays_kept x.dims (omega arith)) (object_kept name o e found, tt)),
            )

    pub adds_made : (old new : Table) → new.count ≡ old.count + count_of x → (new.count ≤ 2 ^ 20 → AreAdded classes t x old.infos.items new.infos.items) → Adds p old new (IsMadeAt p t)
    adds_made old new count listed = record {
      sites = first_sites t (count_of x);
      ordered = reworded SiteBefore (first_sites t (count_of x)) (IsFirstSite t (count_of x)) (IsMadeAt p t)
          (λ h (k, lt, e). let typed = (made.each k).0 lt in (k, typed.0, e, subst (λ g. HasType p g typed.0) (sym e) typed.1))
          (λ h (k, u, e, typed). (k, (made.each k).1 (u, subst (λ g. HasType p g u) e typed), e)) (first_ordered t (count_of x));
      count = count ∙ ap (λ n. old.count + n) (sym (first_length t (count_of x)));
      listed = λ le. added old.infos.items new.infos.items (listed le);
    }

  -- THE ROOT

  root_array : IsArraySite p (OfRoot 0)
  root_array = (record { dims = 1; base = Class (codes "java/lang/String") }, of_arguments refl, omega arith)

  root_object : IsObjectOf p (OfRoot 1) (codes "java/lang/String")
  root_object = (record { dims = 0; base = Class (codes "java/lang/String") }, of_argument refl, refl, refl)

  root_type : (k : ℕ) (u : FieldType) → HasType p (OfRoot k) u →
      ((k ≡ 0) × (u.dims ≡ 1)) ⊎ ((k ≡ 1) × (u.dims ≡ 0) × (u.base ≡ Class (codes "java/lang/String")))
  root_type k u (of_arguments e) = inl (refl, ap (λ (z : FieldType). z.dims) e)
  root_type k u (of_argument e) = inr (refl, ap (λ (z : FieldType). z.dims) e, ap (λ (z : FieldType). z.base) e)

  root_number : (k : ℕ) (u : FieldType) → HasType p (OfRoot k) u → k < 2
  root_number k u typed = elim (root_type k u typed) [ inl a ↦ omega (arith, a.0) | inr a ↦ omega (arith, a.0) ]

  abbrev root_sites : List Site
  root_sites = OfRoot 0 ∷ OfRoot 1 ∷ []

  root_ordered : IsOrderedListOf SiteBefore root_sites (IsOfRoot p)
  root_ordered =
      pushed SiteBefore (OfRoot 0 ∷ []) (OfRoot 1) (λ h. h ≡ OfRoot 0) (IsOfRoot p)
      (pushed SiteBefore [] (OfRoot 0) (λ h. ⊥) (λ h. h ≡ OfRoot 0) (record {
        each = λ k d lt. absurd (omega (arith, lt));
        order = λ i j d lt within. absurd (omega (arith, within));
        whole = λ h x. absurd x;
      }) (λ h x. absurd x) (λ h x. absurd x) refl (λ h e. inr (sym e)))
      (λ h e. subst (λ g. SiteBefore g (OfRoot 1)) (sym e) (omega arith))
      (λ h e. (0, root_array.0, e, subst (λ g. HasType p g root_array.0) (sym e) root_array.1))
      (1, root_object.0, refl, root_object.1)
      (λ h (k, u, e, typed). elim (root_type k u (subst (λ g. HasType p g u) e typed)) [
        | inl a ↦ inl (e ∙ ap (λ n. OfRoot n) a.0)
        | inr a ↦ inr (sym (e ∙ ap (λ n. OfRoot n) a.0))
      ])

  root_kept : (o : Option ClassId) → IsFound classes (codes "java/lang/String") o →
      AreInfosOf p root_sites (record { class = None; array = true; place = None; k = 0 } ∷ record { class = o; array = false; place = None; k = 1 } ∷ [])
  root_kept o found =
      let array = array_info (OfRoot 0) (record { class = None; array = true; place = None; k = 0 }) root_array (λ name (u, typed, none, base). elim (root_type 0 u typed) [ inl a ↦ omega (arith, none, a.1) | inr a ↦ omega (arith, a.0) ]) refl refl in
      let object = object_info (OfRoot 1) (codes "java/lang/String") o (record { class = o; array = false; place = None; k = 1 }) root_object
      (λ other (u, typed, none, base). elim (root_type 1 u typed) [ inl a ↦ absurd (omega (arith, a.0)) | inr a ↦ let f : (let z : BaseType = Class other in z) ≡ Class (codes "java/lang/String") = sym base ∙ a.2 in cc f ])
      (λ (u, typed, lt). elim (root_type 1 u typed) [ inl a ↦ omega (arith, a.0) | inr a ↦ omega (arith, lt, a.1) ]) found refl refl in
      (record { place = (refl, refl); array = (array.0, array.1); class = array.2 }, (record { place = (refl, refl); array = (object.0, object.1); class = object.2 }, tt))

  pub adds_root : (old new : Table) → new.count ≡ old.count + 2 → (new.count ≤ 2 ^ 20 → AreStringsAdded classes old.infos.items new.infos.items) → Adds p old new (IsOfRoot p)
  adds_root old new count listed = record {
    sites = root_sites;
    ordered = root_ordered;
    count = count;
    listed = λ le.
        let (o, found, e) = listed le in (
          record { class = None; array = true; place = None; k = 0 } ∷ record { class = o; array = false; place = None; k = 1 } ∷ [],
          e ∙ append_assoc old.infos.items (record { class = None; array = true; place = None; k = 0 } ∷ []) (record { class = o; array = false; place = None; k = 1 } ∷ []),
          root_kept o found,
        );
  }

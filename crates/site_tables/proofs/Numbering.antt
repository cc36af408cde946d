-- The numbers of the sites of a statement.
use Rattle.std.proofs.Common.{◌≡◌, ◌⊎◌, ◌<◌, ◌≤◌, ◌+◌, ◌-◌, ℕ, zero, suc, Bool, true, false, List, length, get_or, drop, Option, Some, None, inl, inr, refl, sym, ap, subst, ◌∙◌, arith}
use Rattle.std.specs.Prelude.{slice_get, nat_lt, nat_eq, ◌&&◌, codes}
use Rattle.std.specs.Bool.{Decides}
use Rattle.std.specs.List.Sorted.{IsPartitionedBy, IsPartitionPoint}
use Rattle.std.proofs.lemmas.Bool.{false≢true, cases_lt}
use Rattle.std.proofs.lemmas.Bool.Decides.{Decides-or, Decides-and, Decides-ltb, Decides-eqb}
use Rattle.std.proofs.lemmas.Option.{same_Some, slice_get_within, slice_get-get_or, get_or_from_slice_get}
use Rattle.std.proofs.lemmas.List.{length-drop, get_or-drop}
use Rattle.std.proofs.lemmas.List.Elements.{All-contains}
use Rattle.slicer_ids.proofs.Ordered.{one_ordered}
use Rattle.slicer_ids.specs.Sets.{IsOrderedListOf}
use Rattle.slicer_ids.specs.Order.{StatementBefore}
use Rattle.slicer_ids.specs.declared.ids.MethodId.{MethodId}
use Rattle.slicer_ids.specs.declared.ids.SiteId.{SiteId}
use Rattle.slicer_ids.specs.declared.ids.Statement.{Statement}
use Rattle.class_form.proofs.Indices.{index_in, index_at, there_at}
use Rattle.class_form.specs.declared.types.FieldType.{FieldType}
use Rattle.class_form.specs.declared.types.BaseType.TheVariants.{Class}
use Rattle.dep_form.specs.declared.rules.SiteInfo.{SiteInfo}
use Rattle.program_form.specs.Programs.{Program}
use Rattle.program_form.specs.Sites.{Site, Made, OfRoot, HasType, of_new, of_primitive_array, of_reference_array, of_dimension, of_constant, of_result, of_arguments, of_argument, SiteBefore, StandsAt}
use Rattle.program_form.specs.Systems.{SiteNumber}
use Rattle.constraint_form.specs.ConstraintSystems.{AreSites}
use Rattle.constraint_form.proofs.SiteNumbers.{statement_asym}
use Rattle.site_tables.specs.Tables.{AreNumbersOf, IsSiteOf, earlier, place_before, place_at, is_before, is_at}
use Rattle.site_tables.proofs.Adding.{site_asym}
use Rattle.site_tables.proofs.MadeKinds.{array_reference}
use Rattle.site_tables.proofs.Spelling.{type_of}

-- where a site has a number, so have those further out
lower : (p : Program) (t : Statement) (k : ℕ) (u : FieldType) → HasType p (Made t k) u → (j : ℕ) → j < k → (v : FieldType) × HasType p (Made t j) v
lower p t k u (of_new o names is) j lt = absurd (omega (arith, lt))
lower p t k u (of_primitive_array o code e) j lt = absurd (omega (arith, lt))
lower p t k u (of_reference_array o names is e) j lt = absurd (omega (arith, lt))
lower p t k u (of_dimension {t = ty} at op names is less e) j lt = (type_of (ty.dims - j) ty.base, of_dimension at op names is (omega (arith, lt, less)) refl)
lower p t k u (of_constant o loads e) j lt = absurd (omega (arith, lt))
lower p t k u (of_result {t = ty} r le e is) j lt =
    (type_of (ty.dims - j) ty.base, of_result r (omega (arith, lt, le)) refl (array_reference (ty.dims - j) ty.base (omega (arith, lt, le))))

statement_trans : (a b c : Statement) → StatementBefore a b → StatementBefore b c → StatementBefore a c
statement_trans a b c (inl x) (inl y) = inl (omega (arith, x, y))
statement_trans a b c (inl x) (inr (e, y)) = inl (omega (arith, x, ap (λ (m : MethodId). m.0) e))
statement_trans a b c (inr (e, x)) (inl y) = inl (omega (arith, y, ap (λ (m : MethodId). m.0) e))
statement_trans a b c (inr (e, x)) (inr (f, y)) = inr (e ∙ f, omega (arith, x, y))

same_method : (a b : MethodId) → a.0 ≡ b.0 → a ≡ b
same_method a b e = ap (λ n. record { 0 = n }) e

-- the tests
earlier_is : (s t : Statement) → Decides (earlier s t) (StatementBefore s t)
earlier_is s t =
    let d = Decides-or (nat_lt s.method.0 t.method.0) (nat_eq s.method.0 t.method.0 && nat_lt s.pc t.pc) (Decides-ltb s.method.0 t.method.0)
    (Decides-and (nat_eq s.method.0 t.method.0) (nat_lt s.pc t.pc) (Decides-eqb s.method.0 t.method.0) (Decides-ltb s.pc t.pc)) in (
      λ e. elim (d.0 e) [ inl lt ↦ inl lt | inr (same, lt) ↦ inr (same_method s.method t.method same, lt) ],
      λ b. d.1 (elim b [ inl lt ↦ inl lt | inr (same, lt) ↦ inr (ap (λ (m : MethodId). m.0) same, lt) ]),
    )

same_is : (s t : Statement) → Decides (nat_eq s.method.0 t.method.0 && nat_eq s.pc t.pc) (s ≡ t)
same_is s t =
    let d = Decides-and (nat_eq s.method.0 t.method.0) (nat_eq s.pc t.pc) (Decides-eqb s.method.0 t.method.0) (Decides-eqb s.pc t.pc) in (
      λ e. let (m, pc) = d.0 e in ap (λ (n : MethodId). record { method = n; pc = s.pc }) (same_method s.method t.method m) ∙ ap (λ n. record { method = t.method; pc = n }) pc,
      λ e. d.1 (ap (λ (x : Statement). x.method.0) e, ap (λ (x : Statement). x.pc) e),
    )

one_made : (s t : Statement) (k j : ℕ) → Made s k ≡ Made t j → (s ≡ t) × (k ≡ j)
one_made s t k j e = (cc e, cc e)

-- a site that stands somewhere is before a statement, or of it, by the tests
before_is : (t : Statement) (g : Site) (info : SiteInfo) → StandsAt g info.place info.k → is_before t info ≡ true → (s : Statement) × (k : ℕ) × (g ≡ Made s k) × StatementBefore s t
before_is t (Made s k) info stands e = (s, k, refl, (earlier_is s t).0 (sym (ap (λ o. place_before t o) stands.0) ∙ e))
before_is t (OfRoot k) info stands e = absurd (false≢true (sym (ap (λ o. place_before t o) stands.0) ∙ e))

is_before_by : (t s : Statement) (k : ℕ) (info : SiteInfo) → StandsAt (Made s k) info.place info.k → StatementBefore s t → is_before t info ≡ true
is_before_by t s k info stands b = ap (λ o. place_before t o) stands.0 ∙ (earlier_is s t).1 b

at_is : (t : Statement) (g : Site) (info : SiteInfo) → StandsAt g info.place info.k → is_at t info ≡ true → (k : ℕ) × (g ≡ Made t k)
at_is t (Made s k) info stands e = (k, ap (λ x. Made x k) ((same_is s t).0 (sym (ap (λ o. place_at t o) stands.0) ∙ e)))
at_is t (OfRoot k) info stands e = absurd (false≢true (sym (ap (λ o. place_at t o) stands.0) ∙ e))

is_at_by : (t : Statement) (k : ℕ) (info : SiteInfo) → StandsAt (Made t k) info.place info.k → is_at t info ≡ true
is_at_by t k info stands = ap (λ o. place_at t o) stands.0 ∙ (same_is t t).1 refl

module _ (p : Program) (sites : List SiteInfo) (are : AreSites p sites) where
  abbrev At : ℕ → Site → Type 0
  At n g = slice_get are.listed.0 n ≡ Some g

  stands_at : (n : ℕ) (g : Site) (d : SiteInfo) → At n g → StandsAt g (get_or sites n d).place (get_or sites n d).k
  stands_at n g d at =
      let lt : n < length sites = omega (arith, slice_get_within are.listed.0 n g at, are.listed.2) in
      are.places (record { 0 = n }) g (get_or sites n d) (are.listed.0, are.listed.1, at) (slice_get-get_or sites n d lt)

  there : (n : ℕ) → n < length sites → (g : Site) × At n g
  there n lt = index_at are.listed.0 n (omega (arith, lt, are.listed.2))

  in_order : (i j : ℕ) (g h : Site) → i < j → At i g → At j h → SiteBefore g h
  in_order i j g h lt x y =
      let pair = are.listed.1.order i j g lt (slice_get_within are.listed.0 j h y) in
      subst (λ z. SiteBefore z h) (get_or_from_slice_get are.listed.0 i g g x) (subst (λ z. SiteBefore (get_or are.listed.0 i g) z) (get_or_from_slice_get are.listed.0 j h g y) pair)

  typed_at : (n : ℕ) (g : Site) → At n g → (u : FieldType) × HasType p g u
  typed_at n g at = All-contains (IsSiteOf p) are.listed.0 g are.listed.1.each (there_at are.listed.0 n g at)

  number_of : (g : Site) (u : FieldType) → HasType p g u → (n : ℕ) × At n g
  number_of g u typed = index_in are.listed.0 g (are.listed.1.whole g (u, typed))

  number_at : (n : SiteId) (g : Site) → SiteNumber p n g → At n.0 g
  number_at n g (xs, is, at) = subst (λ zs. slice_get zs n.0 ≡ Some g) (one_ordered SiteBefore (IsSiteOf p) xs are.listed.0 (λ x y u v. site_asym x y) is are.listed.1) at

  -- what comes before a site of a statement is of it or of an earlier one
  earlier_site : (g : Site) (t : Statement) (k : ℕ) → SiteBefore g (Made t k) → (s : Statement) × (j : ℕ) × (g ≡ Made s j) × (StatementBefore s t ⊎ (s ≡ t))
  earlier_site (Made s j) t k (inl b) = (s, j, refl, inl b)
  earlier_site (Made s j) t k (inr (e, lt)) = (s, j, refl, inr e)
  earlier_site (OfRoot j) t k b = absurd b

  module _ (t : Statement) where
    pub parted : IsPartitionedBy (is_before t) sites
    parted i j d le within e = elim (cases_lt i j) [
      | inl lt ↦
          let (g, at) = there i (omega (arith, lt, within)) in
          let (h, here) = there j within in
          let (s, k, is, b) = before_is t h (get_or sites j d) (stands_at j h d here) e in
          let (r, m, was, cases) = earlier_site g s k (subst (λ z. SiteBefore g z) is (in_order i j g h lt at here)) in
          let first : StatementBefore r t = elim cases [ inl c ↦ statement_trans r s t c b | inr same ↦ subst (λ z. StatementBefore z t) (sym same) b ] in
          is_before_by t r m (get_or sites i d) (subst (λ z. StandsAt z (get_or sites i d).place (get_or sites i d).k) was (stands_at i g d at)) first
      | inr ge ↦ let same : j ≡ i = omega (arith, le, ge) in subst (λ n. is_before t (get_or sites n d) ≡ true) same e
    ]

    module _ (f : ℕ) (point : IsPartitionPoint (λ x. is_before t x ≡ true) (λ x. is_before t x ≡ false) sites f) where
      -- from there on none is of an earlier statement
      not_before : (n : ℕ) (s : Statement) (k : ℕ) → f ≤ n → At n (Made s k) → StatementBefore s t → ⊥
      not_before n s k le at b =
          let (x, is) = index_at sites n (omega (arith, slice_get_within are.listed.0 n (Made s k) at, are.listed.2)) in
          let lt = slice_get_within sites n x is in
          false≢true (sym (point.1 n x le lt) ∙ is_before_by t s k (get_or sites n x) (stands_at n (Made s k) x at) b)

      from_first : (n k : ℕ) → At n (Made t k) → f ≤ n
      from_first n k at = elim (cases_lt n f) [
        | inl lt ↦
            let (x, is) = index_at sites n (omega (arith, slice_get_within are.listed.0 n (Made t k) at, are.listed.2)) in
            let (s, j, e, b) = before_is t (Made t k) (get_or sites n x) (stands_at n (Made t k) x at) (point.0 n x (omega arith) lt) in
            let same = (one_made t s k j e).0 in
            let again : StatementBefore t t = subst (λ z. StatementBefore z t) (sym same) b in
            absurd (statement_asym t t again again)
        | inr le ↦ le
      ]

      pub parted_rest : IsPartitionedBy (is_at t) (drop f sites)
      parted_rest i j d le within e = elim (cases_lt i j) [
        | inl lt ↦
            let far : f + j < length sites = omega (arith, within, length-drop f sites) in
            let (g, at) = there (f + i) (omega (arith, far, lt)) in
            let (h, here) = there (f + j) far in
            let (k, is) = at_is t h (get_or sites (f + j) d) (stands_at (f + j) h d here) (subst (λ x. is_at t x ≡ true) (get_or-drop f sites j d) e) in
            let (s, m, was, cases) = earlier_site g t k (subst (λ z. SiteBefore g z) is (in_order (f + i) (f + j) g h (omega (arith, lt)) at here)) in
            let stands = subst (λ z. StandsAt z (get_or sites (f + i) d).place (get_or sites (f + i) d).k) was (stands_at (f + i) g d at) in
            elim cases [
              | inl b ↦ absurd (not_before (f + i) s m (omega arith) (subst (λ z. At (f + i) z) was at) b)
              | inr same ↦ subst (λ x. is_at t x ≡ true) (sym (get_or-drop f sites i d))
                  (is_at_by t m (get_or sites (f + i) d) (subst (λ z. StandsAt (Made z m) (get_or sites (f + i) d).place (get_or sites (f + i) d).k) same stands))
            ]
        | inr ge ↦ let same : j ≡ i = omega (arith, le, ge) in subst (λ n. is_at t (get_or (drop f sites) n d) ≡ true) same e
      ]

      module _ (c : ℕ) (bound : c ≤ length (drop f sites)) (end : IsPartitionPoint (λ x. is_at t x ≡ true) (λ x. is_at t x ≡ false) (drop f sites) c) where
        inside : (m : ℕ) → m < c → (k : ℕ) × At (f + m) (Made t k)
        inside m lt =
            let far : f + m < length sites = omega (arith, lt, bound, length-drop f sites) in
            let (g, at) = there (f + m) far in
            let (x, is) = index_at sites (f + m) far in
            let (k, e) = at_is t g (get_or sites (f + m) x) (stands_at (f + m) g x at) (subst (λ y. is_at t y ≡ true) (get_or-drop f sites m x) (end.0 m x (omega arith) lt)) in
            (k, subst (λ z. At (f + m) z) e at)

        before_end : (n k : ℕ) → At n (Made t k) → n < f + c
        before_end n k at = elim (cases_lt n (f + c)) [
          | inl lt ↦ lt
          | inr le ↦
              let first = from_first n k at in
              let within : n < length sites = omega (arith, slice_get_within are.listed.0 n (Made t k) at, are.listed.2) in
              let (x, is) = index_at sites n within in
              let same : f + (n - f) ≡ n = omega (arith, first) in
              let no = end.1 (n - f) x (omega (arith, le)) (omega (arith, within, first, length-drop f sites)) in
              let yes : is_at t (get_or (drop f sites) (n - f) x) ≡ true = subst (λ y. is_at t y ≡ true) (sym (get_or-drop f sites (n - f) x ∙ ap (λ m. get_or sites m x) same)) (is_at_by t k (get_or sites n x) (stands_at n (Made t k) x at)) in
              absurd (false≢true (sym no ∙ yes))
        ]

        -- where those before it are numbered from 0 on, none is left out
        skipped : (m : ℕ) → ((i : ℕ) → i < m → At (f + i) (Made t i)) → (k : ℕ) → At (f + m) (Made t k) → m < k → ⊥
        skipped m before_it k at more =
            let (u, typed) = typed_at (f + m) (Made t k) at in
            let (v, also) = lower p t k u typed m more in
            let (i, here) = number_of (Made t m) v also in
            let first = from_first i m here in
            elim (cases_lt i (f + m)) [
              | inl less ↦
                  let same : f + (i - f) ≡ i = omega (arith, first) in
                  let there_too : At i (Made t (i - f)) = subst (λ n. At n (Made t (i - f))) same (before_it (i - f) (omega (arith, less, first))) in
                  let one = (one_made t t m (i - f) (same_Some (Made t m) (Made t (i - f)) (sym here ∙ there_too))).1 in
                  omega (arith, one, less, first)
              | inr le ↦ elim (cases_lt (f + m) i) [
                | inl after ↦ site_asym (Made t m) (Made t k) (inr (refl, more)) (in_order (f + m) i (Made t k) (Made t m) after at here)
                | inr ge ↦
                    let same : i ≡ f + m = omega (arith, le, ge) in
                    let one = (one_made t t m k (same_Some (Made t m) (Made t k) (sym (subst (λ n. At n (Made t m)) same here) ∙ at))).1 in
                    omega (arith, one, more)
              ]
            ]

        next : (m : ℕ) → ((i : ℕ) → i < m → At (f + i) (Made t i)) → (k : ℕ) → At (f + m) (Made t k) → At (f + m) (Made t m)
        next m before_it k at = elim (cases_lt k m) [
          | inl less ↦
              let twice = in_order (f + k) (f + m) (Made t k) (Made t k) (omega (arith, less)) (before_it k less) at in
              absurd (site_asym (Made t k) (Made t k) twice twice)
          | inr le ↦ elim (cases_lt m k) [
            | inl more ↦ absurd (skipped m before_it k at more)
            | inr ge ↦ let one : k ≡ m = omega (arith, le, ge) in subst (λ n. At (f + m) (Made t n)) one at
          ]
        ]

        -- they are numbered from 0 on
        exact : (m : ℕ) → m ≤ c → (j : ℕ) → j < m → At (f + j) (Made t j)
        exact zero le j lt = absurd (omega (arith, lt))
        exact (suc m) le j lt = elim (cases_lt j m) [
          | inl less ↦ exact m (omega (arith, le)) j less
          | inr ge ↦
              let same : m ≡ j = omega (arith, lt, ge) in
              let (k, at) = inside m (omega (arith, le)) in
              subst (λ n. At (f + n) (Made t n)) same (next m (λ i less. exact m (omega (arith, le)) i less) k at)
        ]

        pub numbers_are : AreNumbersOf p t f c
        numbers_are n k = (
          λ number.
              let at = number_at n (Made t k) number in
              let first = from_first n.0 k at in
              let last = before_end n.0 k at in
              let same : f + (n.0 - f) ≡ n.0 = omega (arith, first) in
              let here : At n.0 (Made t (n.0 - f)) = subst (λ m. At m (Made t (n.0 - f))) same (exact c (omega arith) (n.0 - f) (omega (arith, first, last))) in
              let one = (one_made t t k (n.0 - f) (same_Some (Made t k) (Made t (n.0 - f)) (sym at ∙ here))).1 in
              (omega (arith, one, first, last), omega (arith, one, first)),
          λ (lt, e). (are.listed.0, are.listed.1, subst (λ m. At m (Made t k)) (sym e) (exact c (omega arith) k lt)),
        )

  -- THE ROOT

  -- nothing stands between its two sites
  middle : (g : Site) → SiteBefore (OfRoot 0) g → SiteBefore g (OfRoot 1) → ⊥
  middle (Made t k) a b = a
  middle (OfRoot k) a b = omega (arith, a, b)

  root_below : (k : ℕ) (u : FieldType) → HasType p (OfRoot k) u → k < 2
  root_below k u (of_arguments e) = omega arith
  root_below k u (of_argument e) = omega arith

  root_last : (k : ℕ) (n : ℕ) → At n (OfRoot k) → (j : ℕ) (g : Site) → n < j → At j g → (i : ℕ) × (k < i) × (i < 2)
  root_last k n at j g lt here = after g (in_order n j (OfRoot k) g lt at here) (typed_at j g here)
    where
      after : (g : Site) → SiteBefore (OfRoot k) g → (u : FieldType) × HasType p g u → (i : ℕ) × (k < i) × (i < 2)
      after (Made t i) b typed = absurd b
      after (OfRoot i) b typed = (i, b, root_below i typed.0 typed.1)

  array_type : (u : FieldType) × HasType p (OfRoot 0) u
  array_type = (record { dims = 1; base = Class (codes "java/lang/String") }, of_arguments refl)

  object_type : (u : FieldType) × HasType p (OfRoot 1) u
  object_type = (record { dims = 0; base = Class (codes "java/lang/String") }, of_argument refl)

  pub root_object : (n : ℕ) × At n (OfRoot 1) × (n + 1 ≡ length sites)
  root_object =
      let (n, at) = number_of (OfRoot 1) object_type.0 object_type.1 in
      let lt = slice_get_within are.listed.0 n (OfRoot 1) at in (
        n,
        at,
        elim (cases_lt (n + 1) (length sites)) [
          | inl more ↦ let (g, here) = there (n + 1) more in let (i, low, high) = root_last 1 n at (n + 1) g (omega arith) here in absurd (omega (arith, low, high))
          | inr le ↦ omega (arith, le, lt, are.listed.2)
        ],
      )

  pub root_array : (n : ℕ) × At n (OfRoot 0) × (n + 2 ≡ length sites)
  root_array =
      let (m, last, end) = root_object in
      let (n, at) = number_of (OfRoot 0) array_type.0 array_type.1 in
      let lt = slice_get_within are.listed.0 n (OfRoot 0) at in
      (n, at, omega (arith, end, gap m n last end at lt))
    where
      gap : (m n : ℕ) → At m (OfRoot 1) → m + 1 ≡ length sites → At n (OfRoot 0) → n < length are.listed.0 → n + 1 ≡ m
      gap m n last end at lt = elim (cases_lt n m) [
        | inl less ↦ elim (cases_lt (n + 1) m) [
          | inl between ↦
              let (g, here) = there (n + 1) (omega (arith, between, end)) in
              absurd (middle g (in_order n (n + 1) (OfRoot 0) g (omega arith) at here) (in_order (n + 1) m g (OfRoot 1) between here last))
          | inr le ↦ omega (arith, less, le)
        ]
        | inr ge ↦ elim (cases_lt m n) [
          | inl after ↦ absurd (omega (arith, after, end, lt, are.listed.2))
          | inr same ↦
              let e : m ≡ n = omega (arith, ge, same) in
              let f : OfRoot 1 ≡ OfRoot 0 = same_Some (OfRoot 1) (OfRoot 0) (sym last ∙ subst (λ k. At k (OfRoot 0)) (sym e) at) in
              absurd (let k : ◌≡◌ {A = ℕ} 1 0 = cc f in omega (arith, k))
        ]
      ]

  pub root_number : (k n : ℕ) → At n (OfRoot k) → SiteNumber p (record { 0 = n }) (OfRoot k)
  root_number k n at = (are.listed.0, are.listed.1, at)

-- Sites and signatures have one number each.
use Rattle.std.proofs.Common.{◌≡◌, ◌<◌, ℕ, List, length, Some, sym, ap, subst, ◌∙◌, inl, inr, arith}
use Rattle.std.specs.Prelude.{slice_get}
use Rattle.std.proofs.lemmas.Option.{same_Some, slice_get_within}
use Rattle.std.proofs.lemmas.List.Elements.{All-contains}
use Rattle.slicer_ids.specs.Order.{StatementBefore, BytesBefore}
use Rattle.slicer_ids.specs.declared.ids.MethodId.{MethodId}
use Rattle.slicer_ids.specs.declared.ids.SiteId.{SiteId}
use Rattle.slicer_ids.specs.declared.ids.Statement.{Statement}
use Rattle.slicer_ids.proofs.Ordered.{one_ordered}
use Rattle.slicer_ids.proofs.Texts.{bytes_asym}
use Rattle.class_form.specs.Pools.{MemberKey}
use Rattle.class_form.specs.declared.types.FieldType.{FieldType}
use Rattle.class_form.proofs.Indices.{index_in, index_at, there_at}
use Rattle.dep_form.specs.declared.rules.SiteInfo.{SiteInfo}
use Rattle.dep_form.specs.declared.system.System.{System}
use Rattle.dep_form.specs.Constraints.{IsSite}
use Rattle.program_form.specs.Programs.{Program}
use Rattle.program_form.specs.Sites.{Site, Made, OfRoot, HasType, SiteBefore}
use Rattle.program_form.specs.Systems.{SiteNumber, ForeignBefore}
use Rattle.constraint_form.specs.Signatures.{IsSignature, SignatureNumber}
use Rattle.constraint_form.specs.ConstraintSystems.{AreSites}
use Rattle.constraint_form.proofs.OnePlace.{one_place}

pub statement_asym : (a b : Statement) → StatementBefore a b → StatementBefore b a → ⊥
statement_asym a b (inl x) (inl y) = omega (arith, x, y)
statement_asym a b (inl x) (inr (e, y)) = omega (arith, x, ap (λ (m : MethodId). m.0) e)
statement_asym a b (inr (e, x)) (inl y) = omega (arith, y, ap (λ (m : MethodId). m.0) e)
statement_asym a b (inr (e, x)) (inr (f, y)) = omega (arith, x, y)

site_asym : (a b : Site) → SiteBefore a b → SiteBefore b a → ⊥
site_asym (Made s k) (Made t j) (inl x) (inl y) = statement_asym s t x y
site_asym (Made s k) (Made t j) (inl x) (inr (e, y)) = let again : StatementBefore s s = subst (λ z. StatementBefore s z) e x in statement_asym s s again again
site_asym (Made s k) (Made t j) (inr (e, x)) (inl y) = let again : StatementBefore t t = subst (λ z. StatementBefore t z) e y in statement_asym t t again again
site_asym (Made s k) (Made t j) (inr (e, x)) (inr (f, y)) = omega (arith, x, y)
site_asym (Made s k) (OfRoot j) x y = y
site_asym (OfRoot k) (Made t j) x y = x
site_asym (OfRoot k) (OfRoot j) x y = omega (arith, x, y)

abbrev IsSiteOf : Program → Site → Type 0
IsSiteOf p h = (t : FieldType) × HasType p h t

pub same_site_id : (a b : SiteId) → a.0 ≡ b.0 → a ≡ b
same_site_id a b e = ap (λ k. record { 0 = k }) e

module _ (p : Program) where
  -- a number is of one site, and has a type
  pub one_site : (n : SiteId) (g h : Site) → SiteNumber p n g → SiteNumber p n h → g ≡ h
  one_site n g h (xs, a, at) (ys, b, there) =
      let same : xs ≡ ys = one_ordered SiteBefore (IsSiteOf p) xs ys (λ x y u v. site_asym x y) a b in
      same_Some g h (sym (subst (λ zs. slice_get zs n.0 ≡ Some g) same at) ∙ there)

  pub one_site_number : (n m : SiteId) (h : Site) → SiteNumber p n h → SiteNumber p m h → n ≡ m
  one_site_number n m h (xs, a, at) (ys, b, there) =
      let same : ys ≡ xs = one_ordered SiteBefore (IsSiteOf p) ys xs (λ x y u v. site_asym x y) b a in
      same_site_id n m (one_place SiteBefore xs a.order (λ x u. site_asym x x u u) n.0 m.0 h at (subst (λ zs. slice_get zs m.0 ≡ Some h) same there))

  pub site_type : (n : SiteId) (h : Site) → SiteNumber p n h → (t : FieldType) × HasType p h t
  site_type n h (xs, a, at) = All-contains (IsSiteOf p) xs h a.each (there_at xs n.0 h at)

  module _ (s : System) (sites : AreSites p s.sites) where
    pub number_of_site : (h : Site) (t : FieldType) → HasType p h t → (n : SiteId) × SiteNumber p n h
    number_of_site h t typed =
        let hs = sites.listed.0 in
        let at = index_in hs h (sites.listed.1.whole h (t, typed)) in
        (record { 0 = at.0 }, (hs, sites.listed.1, at.1))

    pub site_of_number : (n : SiteId) → n.0 < length s.sites → (h : Site) × SiteNumber p n h
    site_of_number n lt =
        let hs = sites.listed.0 in
        let at = index_at hs n.0 (omega (arith, lt, sites.listed.2)) in
        (at.0, (hs, sites.listed.1, at.1))

    pub number_below : (n : SiteId) (h : Site) → SiteNumber p n h → n.0 < length s.sites
    number_below n h (xs, a, at) =
        let same : xs ≡ sites.listed.0 = one_ordered SiteBefore (IsSiteOf p) xs sites.listed.0 (λ x y u v. site_asym x y) a sites.listed.1 in
        omega (arith, slice_get_within sites.listed.0 n.0 h (subst (λ zs. slice_get zs n.0 ≡ Some h) same at), sites.listed.2)

    pub info_of : (n : SiteId) (h : Site) → SiteNumber p n h → (info : SiteInfo) × IsSite s n info
    info_of n h x = index_at s.sites n.0 (number_below n h x)

-- signatures
pub foreign_asym : (a b : List ℕ × List ℕ) → ForeignBefore a b → ForeignBefore b a → ⊥
foreign_asym a b (inl x) (inl y) = bytes_asym a.0 b.0 x y
foreign_asym a b (inl x) (inr (e, y)) = let again : BytesBefore a.0 a.0 = subst (λ z. BytesBefore a.0 z) e x in bytes_asym a.0 a.0 again again
foreign_asym a b (inr (e, x)) (inl y) = let again : BytesBefore b.0 b.0 = subst (λ z. BytesBefore b.0 z) e y in bytes_asym b.0 b.0 again again
foreign_asym a b (inr (e, x)) (inr (f, y)) = bytes_asym a.1 b.1 x y

pub one_signature : (p : Program) (k l : MemberKey) (g : ℕ) → SignatureNumber p k g → SignatureNumber p l g → (k.name ≡ l.name) × (k.descriptor ≡ l.descriptor)
one_signature p k l g (xs, a, at) (ys, b, there) =
    let same : xs ≡ ys = one_ordered ForeignBefore (IsSignature p) xs ys (λ x y u v. foreign_asym x y) a b in
    let pair : (let x : List ℕ × List ℕ = (k.name, k.descriptor) in x) ≡ (l.name, l.descriptor) = same_Some _ _ (sym (subst (λ zs. slice_get zs g ≡ Some (k.name, k.descriptor)) same at) ∙ there) in
    (ap (λ (z : List ℕ × List ℕ). z.0) pair, ap (λ (z : List ℕ × List ℕ). z.1) pair)

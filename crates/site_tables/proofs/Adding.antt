-- Sites that are added to a table, one set after another.
use Rattle.std.proofs.Common.{◌≡◌, ◌⊎◌, ◌<◌, ◌≤◌, ◌+◌, ◌^◌, ℕ, zero, suc, List, [], ◌∷◌, ◌++◌, length, get_or, take, Contains, Some, refl, sym, ap, subst, ◌∙◌, inl, inr, append_assoc, append-nil, length-append, arith}
use Rattle.std.specs.Prelude.{All, AllPairs, slice_get}
use Rattle.std.proofs.lemmas.Option.{same_Some, slice_get-get_or}
use Rattle.std.proofs.lemmas.List.{take_more, get_or-take, length-take-le}
use Rattle.std.proofs.lemmas.List.Elements.{All-append, All-weaker, All-contains, All-contains_itself, Contains-append_left, Contains-append_right, Contains-push, Contains-push_cases}
use Rattle.std.proofs.lemmas.List.Kept.{AllPairs-cons}
use Rattle.slicer_ids.specs.Sets.{IsOrderedListOf}
use Rattle.slicer_ids.specs.Order.{StatementBefore}
use Rattle.worklists.specs.Growth.{FromOne}
use Rattle.dep_form.specs.declared.rules.SiteInfo.{SiteInfo}
use Rattle.program_form.specs.Programs.{Program}
use Rattle.program_form.specs.Sites.{Site, Made, OfRoot, SiteBefore}
use Rattle.constraint_form.proofs.SiteNumbers.{statement_asym}
use Rattle.site_tables.specs.declared.table.Table.{Table}
use Rattle.site_tables.specs.Tables.{IsInfoOf, AreInfosOf, Adds}

-- of two sites one alone comes before the other
pub site_asym : (a b : Site) → SiteBefore a b → SiteBefore b a → ⊥
site_asym (Made s k) (Made t j) (inl x) (inl y) = statement_asym s t x y
site_asym (Made s k) (Made t j) (inl x) (inr (e, y)) = let again : StatementBefore s s = subst (λ z. StatementBefore s z) e x in statement_asym s s again again
site_asym (Made s k) (Made t j) (inr (e, x)) (inl y) = let again : StatementBefore t t = subst (λ z. StatementBefore t z) e y in statement_asym t t again again
site_asym (Made s k) (Made t j) (inr (e, x)) (inr (f, y)) = omega (arith, x, y)
site_asym (Made s k) (OfRoot j) x y = y
site_asym (OfRoot k) (Made t j) x y = x
site_asym (OfRoot k) (OfRoot j) x y = omega (arith, x, y)

-- what is kept of sites, one list after another
pub infos_append : (p : Program) (hs gs : List Site) (xs ys : List SiteInfo) → AreInfosOf p hs xs → AreInfosOf p gs ys → AreInfosOf p (hs ++ gs) (xs ++ ys)
infos_append p [] gs [] ys a b = b
infos_append p [] gs (x ∷ xs) ys a b = absurd a
infos_append p (h ∷ hs) gs [] ys a b = absurd a
infos_append p (h ∷ hs) gs (x ∷ xs) ys a b = (a.0, infos_append p hs gs xs ys a.1 b)

pub infos_length : (p : Program) (hs : List Site) (xs : List SiteInfo) → AreInfosOf p hs xs → length xs ≡ length hs
infos_length p [] [] a = refl
infos_length p [] (x ∷ xs) a = absurd a
infos_length p (h ∷ hs) [] a = absurd a
infos_length p (h ∷ hs) (x ∷ xs) a = ap (λ n. suc n) (infos_length p hs xs a.1)

pub info_at : (p : Program) (hs : List Site) (xs : List SiteInfo) (n : ℕ) (h : Site) (x : SiteInfo) → AreInfosOf p hs xs → slice_get hs n ≡ Some h → slice_get xs n ≡ Some x → IsInfoOf p h x
info_at p [] xs n h x a e f = absurd (cc e)
info_at p (g ∷ hs) [] n h x a e f = absurd a
info_at p (g ∷ hs) (y ∷ xs) zero h x a e f = subst (λ z. IsInfoOf p h z) (same_Some y x f) (subst (λ z. IsInfoOf p z y) (same_Some g h e) a.0)
info_at p (g ∷ hs) (y ∷ xs) (suc n) h x a e f = info_at p hs xs n h x a.1 e f

module _ {A : Type 0} (B : A → A → Type 0) where
  pairs_append : (xs ys : List A) → AllPairs B xs → AllPairs B ys → ((a b : A) → Contains xs a → Contains ys b → B a b) → AllPairs B (xs ++ ys)
  pairs_append [] ys p q cross = q
  pairs_append (x ∷ xs) ys p q cross =
      AllPairs-cons B x (xs ++ ys)
      (All-append (B x) xs ys (λ k d lt. p 0 (suc k) d (omega arith) (omega (arith, lt))) (All-weaker (Contains ys) (B x) (λ b c. cross x b (0, omega arith, refl) c) ys (All-contains_itself ys)))
      (pairs_append xs ys (λ i j d lt within. p (suc i) (suc j) d (omega (arith, lt)) (omega (arith, within))) q (λ a b c e. cross a b (suc c.0, omega (arith, c.1), c.2) e))

  -- the members of one set, and after them those of another
  pub ordered_append : (xs ys : List A) (P Q R : A → Type 0) → IsOrderedListOf B xs P → IsOrderedListOf B ys Q → ((a b : A) → P a → Q b → B a b) →
      ((a : A) → R a → P a ⊎ Q a) → ((a : A) → P a → R a) → ((a : A) → Q a → R a) → IsOrderedListOf B (xs ++ ys) R
  ordered_append xs ys P Q R p q cross to left right = record {
    each = All-append R xs ys (All-weaker P R left xs p.each) (All-weaker Q R right ys q.each);
    order = pairs_append xs ys p.order q.order (λ a b c d. cross a b (All-contains P xs a p.each c) (All-contains Q ys b q.each d));
    whole = λ a r. elim (to a r) [ inl x ↦ Contains-append_left xs ys a (p.whole a x) | inr y ↦ Contains-append_right xs ys a (q.whole a y) ];
  }

  -- an element comes after those that are taken before it
  pub taken_before : (xs : List A) (i : ℕ) (x y : A) → AllPairs B xs → i < length xs → x ≡ get_or xs i x → Contains (take i xs) y → B y x
  taken_before xs i x y order lt is (j, within, e) =
      let short : j < i = omega (arith, within, length-take-le i xs (omega (arith, lt))) in
      let first : get_or xs j y ≡ y = sym (get_or-take i xs j y short) ∙ e in
      let second : get_or xs i y ≡ x = same_Some (get_or xs i y) x (sym (slice_get-get_or xs i y lt) ∙ slice_get-get_or xs i x lt ∙ ap (λ z. Some z) (sym is)) in
      subst (λ z. B y z) second (subst (λ z. B z (get_or xs i y)) first (order j i y short lt))

module _ (p : Program) where
  -- no sites
  pub adds_none : (old : Table) (P : Site → Type 0) → ((h : Site) → P h → ⊥) → Adds p old old P
  adds_none old P never = record {
    sites = [];
    ordered = record {
      each = λ k d lt. absurd (omega (arith, lt));
      order = λ i j d lt within. absurd (omega (arith, within));
      whole = λ h x. absurd (never h x);
    };
    count = omega arith;
    listed = λ le. ([], sym (append-nil old.infos.items), tt);
  }

  -- one set of sites after another
  pub adds_then : (old mid new : Table) (P Q R : Site → Type 0) → ((g h : Site) → P g → Q h → SiteBefore g h) → ((h : Site) → R h → P h ⊎ Q h) → ((h : Site) → P h → R h) → ((h : Site) → Q h → R h) →
      Adds p old mid P → Adds p mid new Q → Adds p old new R
  adds_then old mid new P Q R cross to left right a b = record {
    sites = a.sites ++ b.sites;
    ordered = ordered_append SiteBefore a.sites b.sites P Q R a.ordered b.ordered cross to left right;
    count = omega (arith, a.count, b.count, length-append a.sites b.sites);
    listed = λ le.
        let (xs, e, are) = a.listed (omega (arith, le, b.count)) in
        let (ys, f, too) = b.listed le in
        (xs ++ ys, f ∙ ap (λ zs. zs ++ ys) e ∙ append_assoc old.infos.items xs ys, infos_append p a.sites b.sites xs ys are too);
  }

  -- the same sites, said otherwise
  pub adds_same : (old new : Table) (P Q : Site → Type 0) → ((h : Site) → P h → Q h) → ((h : Site) → Q h → P h) → Adds p old new P → Adds p old new Q
  adds_same old new P Q to from a = record {
    sites = a.sites;
    ordered = record { each = All-weaker P Q to a.sites a.ordered.each; order = a.ordered.order; whole = λ h x. a.ordered.whole h (from h x) };
    count = a.count;
    listed = a.listed;
  }

  -- a step of a loop over elements, of which each makes its sites after those of the ones before it
  pub adds_each : {X : Type 0} (R : X → Site → Type 0) (xs : List X) (i : ℕ) (x : X) (old mid new : Table) → i < length xs → x ≡ get_or xs i x →
      ((y : X) (g h : Site) → Contains (take i xs) y → R y g → R x h → SiteBefore g h) → Adds p old mid (FromOne R (take i xs)) → Adds p mid new (R x) → Adds p old new (FromOne R (take (i + 1) xs))
  adds_each {X} R xs i x old mid new lt is before a b =
      subst (λ (ys : List X). Adds p old new (FromOne R ys)) (sym more) (adds_then old mid new (FromOne R (take i xs)) (R x) (FromOne R (take i xs ++ x ∷ []))
      (λ g h f r. before f.0 g h f.1 f.2 r) to (λ h f. (f.0, Contains-append_left (take i xs) (x ∷ []) f.0 f.1, f.2)) (λ h r. (x, Contains-push (take i xs) x, r)) a b)
    where
      more : take (i + 1) xs ≡ take i xs ++ x ∷ []
      more = take_more xs i x lt ∙ ap (λ z. take i xs ++ z ∷ []) (sym is)

      to : (h : Site) → FromOne R (take i xs ++ x ∷ []) h → FromOne R (take i xs) h ⊎ R x h
      to h f = elim (Contains-push_cases (take i xs) x f.0 f.1) [ inl c ↦ inl (f.0, c, f.2) | inr e ↦ inr (subst (λ y. R y h) (sym e) f.2) ]

-- Which statements bring an object to an access.
use Rattle.std.proofs.Common.{◌≡◌, ◌⊎◌, ◌<◌, ◌+◌, ℕ, Bool, true, false, IsTrue, List, [], ◌∷◌, ◌++◌, AllPairs, Contains, Some, length, take, get_or, refl, sym, ap, subst, ◌∙◌, inl, inr, arith}
use Rattle.std.specs.Prelude.{slice_get, ◌↔◌}
use Rattle.std.specs.declared.cmp.Ordering.TheVariants.{Less, Equal}
use Rattle.std.proofs.lemmas.Bool.{cases_lt}
use Rattle.std.proofs.lemmas.List.{take_more, length-take, get_or-take, get_or_default}
use Rattle.std.proofs.lemmas.List.Elements.{All-contains, All-contains_itself, All-weaker, Contains-push_cases, Contains-push, Contains-append_left}
use Rattle.std.proofs.lemmas.Option.{slice_get_within, slice_get-get_or, get_or_from_slice_get, same_Some}
use Rattle.std.proofs.lemmas.Cmp.{tied_itself}
use Rattle.slicer_ids.specs.declared.ids.SiteId.{SiteId}
use Rattle.slicer_ids.specs.declared.ids.Statement.{Statement}
use Rattle.slicer_ids.specs.Sets.{IsOrderedListOf}
use Rattle.slicer_ids.specs.Order.{SiteBefore, StatementBefore}
use Rattle.slicer_ids.proofs.GrowingOrder.{pushed, reworded}
use Rattle.dep_form.specs.declared.facts.Facts.{Facts}
use Rattle.dep_form.specs.declared.access.Access.{Access}
use Rattle.dep_form.specs.Slices.{Slice, Nothing, StatementsOf}
use Rattle.dep_form.specs.Explaining.{IsValueSite, Brings, IsExplanation}
use Rattle.dep_form.specs.LookUps.{AreValueSites}
use Rattle.dep_form.specs.Orders.{statement_cmp}
use Rattle.dep_form.specs.Keys.{key_of_value}
use Rattle.dep_form.proofs.Searching.{statement_total}
use Rattle.worklists.specs.Growth.{FromOne}
use Rattle.explainers.specs.Bringing.{IsOneIn, IsKept, HasOneOf}

-- ---- the values of a statement
one_place : (f : Facts) (s : Statement) (hs ks : List SiteId) (i j : ℕ) → slice_get f.values i ≡ Some (s, hs) → slice_get f.values j ≡ Some (s, ks) → i < j → ⊥
one_place f s hs ks i j h k lt =
    let d : Statement × List SiteId = (s, ks) in
    let less = f.values_rise i j d lt (slice_get_within f.values j d k) in
    let first : key_of_value (get_or f.values i d) ≡ s = ap key_of_value (get_or_from_slice_get f.values i (s, hs) d h) in
    let second : key_of_value (get_or f.values j d) ≡ s = ap key_of_value (get_or_from_slice_get f.values j (s, ks) d k) in
    let both : statement_cmp s s ≡ Less = subst (λ x. statement_cmp s x ≡ Less) second (subst (λ x. statement_cmp x (key_of_value (get_or f.values j d)) ≡ Less) first less) in
    let clash : Less ≡ Equal = sym both ∙ tied_itself statement_total s in
    absurd (cc clash)

one_list : (f : Facts) (s : Statement) (hs ks : List SiteId) (i j : ℕ) → slice_get f.values i ≡ Some (s, hs) → slice_get f.values j ≡ Some (s, ks) → ks ≡ hs
one_list f s hs ks i j h k =
    let same : i ≡ j = elim (cases_lt i j) [
      | inl lt ↦ absurd (one_place f s hs ks i j h k lt)
      | inr ge ↦ elim (cases_lt j i) [ inl lt ↦ absurd (one_place f s ks hs j i k h lt) | inr le ↦ omega (arith, ge, le) ]
    ] in
    let there : slice_get f.values j ≡ Some (s, hs) = subst (λ n. slice_get f.values n ≡ Some (s, hs)) same h in
    ap (λ (x : Statement × List SiteId). x.1) (same_Some (s, ks) (s, hs) (sym k ∙ there))

value_at : (f : Facts) (s : Statement) (h : SiteId) → IsValueSite f s h → (ks : List SiteId) × (j : ℕ) × (slice_get f.values j ≡ Some (s, ks)) × Contains ks h
value_at f s h (ks, c, m) = (ks, c.0, slice_get-get_or f.values c.0 (s, ks) c.1 ∙ ap (λ (x : Statement × List SiteId). Some x) c.2, m)

pub values_are : (f : Facts) (s : Statement) (hs : List SiteId) → AreValueSites f s hs → (h : SiteId) → (Contains hs h → IsValueSite f s h) × (IsValueSite f s h → Contains hs h)
values_are f s hs (inl at) h = (
  λ c. (hs, (at.0, slice_get_within f.values at.0 (s, hs) at.1, get_or_from_slice_get f.values at.0 (s, hs) (s, hs) at.1), c),
  λ v. let k = value_at f s h v in subst (λ xs. Contains xs h) (one_list f s hs k.0 at.0 k.1 at.1 k.2) k.3,
)
values_are f s hs (inr nil) h = (
  λ c. let bad : Contains [] h = subst (λ (xs : List SiteId). Contains xs h) nil.0 c in absurd (omega (arith, bad.1)),
  λ v. let k = value_at f s h v in absurd (nil.1 k.1 k.0 k.2),
)

-- ---- the sites of two lists
pub shared_are : (a b others kept found : List SiteId) → ((h : SiteId) → Contains others h ↔ Contains b h) → ((h : SiteId) → Contains kept h ↔ FromOne (IsOneIn others) a h) → AllPairs SiteBefore found → ((h : SiteId) → Contains found h ↔ Contains kept h)
    → IsOrderedListOf SiteBefore found (λ h. Contains a h × Contains b h)
shared_are a b others kept found same keeps order all = record {
  each = All-weaker (Contains found) (λ h. Contains a h × Contains b h) (λ h c. from h ((keeps h).0 ((all h).0 c))) found (All-contains_itself found);
  order = order;
  whole = λ h c. (all h).1 ((keeps h).1 (h, c.0, ((same h).1 c.1, refl)));
}
  where
    from : (h : SiteId) → FromOne (IsOneIn others) a h → Contains a h × Contains b h
    from h k = (subst (Contains a) (sym k.2.1) k.1, (same h).0 (subst (Contains others) (sym k.2.1) k.2.0))

-- a test that fails
pub failed : (b : Bool) → b ≡ false → IsTrue b → ⊥
failed b no' yes' = let clash : true ≡ false = sym yes' ∙ no' in absurd (cc clash)

-- one more site that is none of the objects
pub none_more : (objects sites : List SiteId) (i : ℕ) (d : SiteId) → i < length sites → (Contains objects (get_or sites i d) → ⊥) → ((h : SiteId) → Contains objects h → Contains (take i sites) h → ⊥) → (h : SiteId) → Contains objects h → Contains (take (i + 1) sites) h → ⊥
none_more objects sites i d lt other before h k m =
    elim (Contains-push_cases (take i sites) (get_or sites i d) h (subst (λ (xs : List SiteId). Contains xs h) (take_more sites i d lt) m)) [
      | inl c ↦ before h k c
      | inr e ↦ other (subst (Contains objects) (sym e) k)
    ]

-- ---- an explanation of its parts
pub brought : (f : Facts) (a : Access) (objects : List SiteId) (slice kept : List Statement) → IsOrderedListOf StatementBefore slice (StatementsOf f.inputs (Slice f.inputs Nothing (Contains a.object)))
    → IsOrderedListOf StatementBefore kept (λ s. Contains slice s × HasOneOf f objects s) → IsOrderedListOf StatementBefore kept (Brings f a objects)
brought f a objects slice kept r t = reworded StatementBefore kept (λ s. Contains slice s × HasOneOf f objects s) (Brings f a objects)
    (λ s p. (All-contains (StatementsOf f.inputs (Slice f.inputs Nothing (Contains a.object))) slice s r.each p.0, p.1.0, p.1.1, p.1.2))
    (λ s b. (r.whole s b.0, (b.1, b.2, b.3))) t

pub explained : (f : Facts) (a b : Access) (xs ys objects first second result : List SiteId) (left right : List Statement) → xs ≡ a.sites → ys ≡ b.sites → first ≡ objects → second ≡ objects → result ≡ objects
    → IsOrderedListOf SiteBefore objects (λ h. Contains xs h × Contains ys h) → IsOrderedListOf StatementBefore left (Brings f a first) → IsOrderedListOf StatementBefore right (Brings f b second)
    → IsExplanation f a b (record { objects = result; left = left; right = right })
explained f a b xs ys objects first second result left right ex ey e1 e2 er o l r = record {
  objects = subst (λ zs. IsOrderedListOf SiteBefore zs (λ h. Contains a.sites h × Contains b.sites h)) (sym er)
      (reworded SiteBefore objects (λ h. Contains xs h × Contains ys h) (λ h. Contains a.sites h × Contains b.sites h)
      (λ h p. (subst (λ zs. Contains zs h) ex p.0, subst (λ zs. Contains zs h) ey p.1)) (λ h p. (subst (λ zs. Contains zs h) (sym ex) p.0, subst (λ zs. Contains zs h) (sym ey) p.1)) o);
  left = subst (λ zs. IsOrderedListOf StatementBefore left (Brings f a zs)) (e1 ∙ sym er) l;
  right = subst (λ zs. IsOrderedListOf StatementBefore right (Brings f b zs)) (e2 ∙ sym er) r;
}

-- ---- statements that are kept
module _ (P : Statement → Type 0) (slice : List Statement) (order : AllPairs StatementBefore slice) (k : ℕ) (d : Statement) (old new : List Statement) (lt : k < length slice) where
  cut : take (k + 1) slice ≡ take k slice ++ get_or slice k d ∷ []
  cut = take_more slice k d lt

  split : (s : Statement) → Contains (take (k + 1) slice) s → Contains (take k slice) s ⊎ (get_or slice k d ≡ s)
  split s c = Contains-push_cases (take k slice) (get_or slice k d) s (subst (λ xs. Contains xs s) cut c)

  early : (s : Statement) → Contains (take k slice) s → Contains (take (k + 1) slice) s
  early s c = subst (λ xs. Contains xs s) (sym cut) (Contains-append_left (take k slice) (get_or slice k d ∷ []) s c)

  now : Contains (take (k + 1) slice) (get_or slice k d)
  now = subst (λ xs. Contains xs (get_or slice k d)) (sym cut) (Contains-push (take k slice) (get_or slice k d))

  before : (s : Statement) → Contains (take k slice) s → StatementBefore s (get_or slice k d)
  before s c =
      let short : c.0 < k = omega (arith, c.1, length-take k slice) in
      let is : get_or slice c.0 s ≡ s = sym (get_or-take k slice c.0 s short) ∙ c.2 in
      let here : get_or slice k s ≡ get_or slice k d = get_or_default slice k s d lt in
      subst (λ x. StatementBefore x (get_or slice k d)) is (subst (StatementBefore (get_or slice c.0 s)) here (order c.0 k s short lt))

  pub keeps_on : IsKept P (get_or slice k d) old new → IsOrderedListOf StatementBefore old (λ s. Contains (take k slice) s × P s) → IsOrderedListOf StatementBefore new (λ s. Contains (take (k + 1) slice) s × P s)
  keeps_on (inl h) t =
      subst (λ xs. IsOrderedListOf StatementBefore xs (λ s. Contains (take (k + 1) slice) s × P s)) (sym h.1)
      (pushed StatementBefore old (get_or slice k d) (λ s. Contains (take k slice) s × P s) (λ s. Contains (take (k + 1) slice) s × P s) t
      (λ s p. before s p.0) (λ s p. (early s p.0, p.1)) (now, h.0)
      (λ s q. elim (split s q.0) [ inl c ↦ inl (c, q.1) | inr e ↦ inr e ]))
  keeps_on (inr h) t =
      subst (λ xs. IsOrderedListOf StatementBefore xs (λ s. Contains (take (k + 1) slice) s × P s)) (sym h.1)
      (reworded StatementBefore old (λ s. Contains (take k slice) s × P s) (λ s. Contains (take (k + 1) slice) s × P s)
      (λ s p. (early s p.0, p.1)) (λ s q. elim (split s q.0) [ inl c ↦ (c, q.1) | inr e ↦ absurd (h.0 (subst P (sym e) q.1)) ]) t)

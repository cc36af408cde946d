-- The order of sites.
use Rattle.std.proofs.Common.{◌≡◌, Bool, true, List, [], ◌∷◌, AllPairs, sym, ap, ◌∙◌, arith}
use Rattle.std.specs.declared.cmp.Ordering.{Ordering}
use Rattle.std.specs.declared.cmp.Ordering.TheVariants.{Less, Equal}
use Rattle.std.specs.Ordering.{eq_by_cmp}
use Rattle.std.specs.Cmp.{IsTotalOrder, IsEquivalence, nat_cmp_is}
use Rattle.std.specs.List.Sorted.{IsStrictlySortedBy}
use Rattle.std.proofs.lemmas.Cmp.{eq_by_cmp_equiv}
use Rattle.std.proofs.lemmas.List.Elements.{All-from_recursion, All-weaker}
use Rattle.std.proofs.lemmas.List.Kept.{AllPairs-cons}
use Rattle.worklist.proofs.Orders.{nat_less, nat_equal, if_is_eq}
use Rattle.slicer_ids.specs.declared.ids.SiteId.{SiteId}
use Rattle.slicer_ids.specs.contracts.ids.SiteIdOrd.TheImpl as of_site
use Rattle.slicer_ids.specs.contracts.ids.SiteIdPartialEq.TheImpl as site_tested
use Rattle.slicer_ids.specs.Order.{SiteBefore}
use Rattle.dep_form.specs.Orders.{RiseBy}

abbrev pub site_cmp : SiteId → SiteId → Ordering
site_cmp = (of_site.ghosts).cmp

abbrev pub site_eq : SiteId → SiteId → Bool
site_eq = (site_tested.ghosts).eq

pub sites_total : IsTotalOrder site_cmp
sites_total = of_site.Laws.total-law

pub site_ties : (a b : SiteId) → site_eq a b ≡ eq_by_cmp site_cmp a b
site_ties = of_site.Laws.matches_eq-law

site_made : (a b : SiteId) → a.0 ≡ b.0 → a ≡ b
site_made a b e = ap (λ n. record { 0 = n }) e

pub one_site : (a b : SiteId) → site_cmp a b ≡ Equal → a ≡ b
one_site a b h = site_made a b (nat_equal a.0 b.0 h)

pub same_site : (a b : SiteId) → site_eq a b ≡ true → a ≡ b
same_site a b h = one_site a b (if_is_eq (site_cmp a b) (sym (site_ties a b) ∙ h))

pub site_equiv : IsEquivalence site_eq
site_equiv =
    let e = eq_by_cmp_equiv sites_total in
    record {
      refl = λ x. site_ties x x ∙ e.refl x;
      symm = λ x y. site_ties x y ∙ e.symm x y ∙ sym (site_ties y x);
      congr = λ x y z h. site_ties x z ∙ e.congr x y z (sym (site_ties x y) ∙ h) ∙ sym (site_ties y z);
    }

pub sites_in_pairs : (xs : List SiteId) → IsStrictlySortedBy site_cmp xs → AllPairs SiteBefore xs
unfolding IsStrictlySortedBy
sites_in_pairs [] h = λ i j d lt within. absurd (omega arith)
sites_in_pairs (x ∷ xs) h = AllPairs-cons SiteBefore x xs (All-weaker (λ y. site_cmp x y ≡ Less) (SiteBefore x) (λ y e. nat_less x.0 y.0 e) xs (All-from_recursion (λ y. site_cmp x y ≡ Less) xs h.0)) (sites_in_pairs xs h.1)

-- sites in order rise
pub sites_rise : (xs : List SiteId) → AllPairs SiteBefore xs → RiseBy site_cmp (λ h. h) xs
sites_rise xs order = λ i j d lt within. sym (nat_cmp_is _ _ Less (order i j d lt within))

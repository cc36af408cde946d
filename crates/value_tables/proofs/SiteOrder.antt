-- The order of sites, as they are compared.
use Rattle.std.proofs.Common.{◌≡◌, ℕ, Bool, List, ap}
use Rattle.std.specs.Prelude.{AllPairs}
use Rattle.std.specs.declared.cmp.Ordering.{Ordering}
use Rattle.std.specs.declared.cmp.Ordering.TheVariants.{Less, Equal}
use Rattle.slicer_ids.specs.Order.{SiteBefore}
use Rattle.slicer_ids.specs.contracts.ids.SiteIdOrd.TheImpl as of_site
use Rattle.slicer_ids.specs.contracts.ids.SiteIdPartialEq.TheImpl as tested_site
use Rattle.slicer_ids.specs.declared.ids.SiteId.{SiteId}
use Rattle.dep_form.specs.Orders.{RiseBy}
use Rattle.worklist.proofs.Orders.{nat_less, nat_equal}
use Rattle.mod_ref.proofs.Sorting.{IsExactOrder}

abbrev pub site_cmp : SiteId → SiteId → Ordering
site_cmp = (of_site.ghosts).cmp

abbrev pub site_eq : SiteId → SiteId → Bool
site_eq = (tested_site.ghosts).eq

site_less : (a b : SiteId) → site_cmp a b ≡ Less → SiteBefore a b
site_less a b h = nat_less a.0 b.0 h

site_equal : (a b : SiteId) → site_cmp a b ≡ Equal → a ≡ b
site_equal a b h = ap (λ (n : ℕ). record { 0 = n }) (nat_equal a.0 b.0 h)

pub sites_exact : IsExactOrder site_eq site_cmp
sites_exact = record { total = of_site.Laws.total-law; ties = of_site.Laws.matches_eq-law; exact = site_equal }

pub in_order : (xs : List SiteId) → RiseBy site_cmp (λ h. h) xs → AllPairs SiteBefore xs
in_order xs rise = λ i j d lt within. site_less _ _ (rise i j d lt within)

-- Numbers of locations in order, and lists that are joined.
use Rattle.std.proofs.Common.{◌≡◌, ◌⊎◌, ◌↔◌, ◌<◌, ◌++◌, ℕ, Bool, true, List, [], Contains, length, Some, ◌≤◌, arith, inl, inr, refl, sym, ap, subst, ◌∙◌}
use Rattle.std.specs.Prelude.{slice_get, AllPairs}
use Rattle.std.specs.declared.cmp.Ordering.{Ordering}
use Rattle.std.specs.declared.cmp.Ordering.TheVariants.{Less, Equal}
use Rattle.std.specs.Ordering.{nat_cmp}
use Rattle.std.proofs.lemmas.Option.{same_Some, slice_get_within}
use Rattle.std.proofs.lemmas.List.Elements.{Contains-append_left, Contains-append_right, Contains-append_cases}
use Rattle.class_form.proofs.Indices.{there_at}
use Rattle.fact_form.proofs.ItemLists.{all_of}
use Rattle.slicer_ids.specs.Sets.{IsOrderedListOf}
use Rattle.slicer_ids.specs.declared.ids.LocId.{LocId}
use Rattle.slicer_ids.specs.declared.ids.MethodId.{MethodId}
use Rattle.slicer_ids.specs.contracts.ids.LocIdOrd.TheImpl as of_loc
use Rattle.slicer_ids.specs.contracts.ids.LocIdPartialEq.TheImpl as tested_loc
use Rattle.dep_form.specs.Orders.{RiseBy}
use Rattle.worklist.proofs.Orders.{nat_less, nat_equal}
use Rattle.mod_ref.specs.Gains.{Gains}
use Rattle.mod_ref.proofs.Sorting.{IsExactOrder}
use Rattle.method_facts.specs.Numbers.{HasNumber, LocBefore}

abbrev pub loc_cmp : LocId → LocId → Ordering
loc_cmp = (of_loc.ghosts).cmp

abbrev pub loc_eq : LocId → LocId → Bool
loc_eq = (tested_loc.ghosts).eq

loc_less : (a b : LocId) → loc_cmp a b ≡ Less → LocBefore a b
loc_less a b h = nat_less a.0 b.0 h

loc_equal : (a b : LocId) → loc_cmp a b ≡ Equal → a ≡ b
loc_equal a b h = ap (λ (n : ℕ). record { 0 = n }) (nat_equal a.0 b.0 h)

pub locs_exact : IsExactOrder loc_eq loc_cmp
locs_exact = record { total = of_loc.Laws.total-law; ties = of_loc.Laws.matches_eq-law; exact = loc_equal }

pub in_order : (xs : List LocId) → RiseBy loc_cmp (λ l. l) xs → AllPairs LocBefore xs
in_order xs rise = λ i j d lt within. loc_less _ _ (rise i j d lt within)

-- a list with another at its end, and then in another order
pub gains_list : (lists : List (List LocId)) (m : MethodId) (ls old mid new : List LocId) → ((n : LocId) → Contains ls n ↔ HasNumber lists m n) → mid ≡ old ++ ls
    → ((n : LocId) → Contains new n ↔ Contains mid n) → Gains old new (HasNumber lists m)
gains_list lists m ls old mid new is e same x = (
  λ c. elim (Contains-append_cases old ls x (subst (λ (xs : List LocId). Contains xs x) e ((same x).0 c))) [ inl o ↦ inl o | inr l ↦ inr ((is x).0 l) ],
  λ h. (same x).1 (subst (λ (xs : List LocId). Contains xs x) (sym e) (elim h [
    | inl o ↦ Contains-append_left old ls x o
    | inr w ↦ Contains-append_right old ls x ((is x).1 w)
  ])),
)

-- the list at a place, and none
pub has_list : (lists : List (List LocId)) (m : MethodId) (ls : List LocId) → slice_get lists m.0 ≡ Some ls → (n : LocId) → Contains ls n ↔ HasNumber lists m n
has_list lists m ls at n = (λ c. (ls, at, c), λ w. subst (λ (xs : List LocId). Contains xs n) (same_Some w.0 ls (sym w.1 ∙ at)) w.2)

pub has_past : (lists : List (List LocId)) (m : MethodId) → length lists ≤ m.0 → (n : LocId) → Contains [] n ↔ HasNumber lists m n
has_past lists m past n = (λ c. absurd (omega (arith, c.1)), λ w. absurd (omega (arith, past, slice_get_within lists m.0 w.0 w.1)))

-- the numbers of a list in order are those that the method has
pub list_listed : (lists : List (List LocId)) (m : MethodId) (ls : List LocId) → slice_get lists m.0 ≡ Some ls → AllPairs LocBefore ls → IsOrderedListOf LocBefore ls (HasNumber lists m)
list_listed lists m ls at order = record {
  each = all_of (HasNumber lists m) ls (λ i n e. (ls, at, there_at ls i n e));
  order = order;
  whole = λ n w. (has_list lists m ls at n).1 w;
}

-- a list in order, of the members of a set
pub listed : (all xs : List LocId) (P : LocId → Type 0) → RiseBy loc_cmp (λ l. l) xs → ((n : LocId) → Contains xs n ↔ Contains all n) → ((n : LocId) → Contains all n ↔ P n) → IsOrderedListOf LocBefore xs P
listed all xs P rise same is = record {
  each = all_of P xs (λ i n e. (is n).0 ((same n).0 (there_at xs i n e)));
  order = in_order xs rise;
  whole = λ n h. (same n).1 ((is n).1 h);
}

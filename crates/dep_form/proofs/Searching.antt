-- What a search by halving finds in a list whose keys rise.
use Rattle.std.proofs.Common.{◌≡◌, ℕ, ◌<◌, ◌+◌, List, length, get_or, Some, Ok, Err, refl, sym, subst, ap, ◌∙◌, arith, false, inl, inr}
use Rattle.std.proofs.lemmas.Bool.{cases_lt}
use Rattle.std.specs.Prelude.{slice_get, All, AllPairs}
use Rattle.std.specs.Cmp.{nat_cmp_is}
use Rattle.dep_form.specs.WithinFacts.{NodeBefore}
use Rattle.std.specs.declared.cmp.Ordering.{Ordering}
use Rattle.std.specs.declared.cmp.Ordering.TheVariants.{Less, Equal, Greater}
use Rattle.std.specs.Ordering.{nat_cmp, is_lt, ordering_then, ordering_index, ordering_reverse}
use Rattle.std.specs.Cmp.{IsTotalOrder}
use Rattle.std.specs.List.Sorted.{IsNonDecreasingBy, IsPartitionPoint, IsSortedBy, IsBinarySearchResult}
use Rattle.std.proofs.lemmas.List.Sorted.{searchable_from_sorted}
use Rattle.std.proofs.lemmas.Option.{get_or_from_slice_get, slice_get_within, slice_get_cases}
use denote.Ref.{Bor}
use denote.Param.Members.{Mut}
use Rattle.std.specs.Fn.{Called, ComputesKey}
use Rattle.std.proofs.lemmas.Fn.{always_returns_same}
use Rattle.std.specs.Cmp.Lexicographic.{slice_cmp}
use Rattle.std.proofs.lemmas.Cmp.{nat_cmp_total, nat_list_cmp_total, on_total, then_total, tied_itself}
use Rattle.std.proofs.lemmas.Map.Lookups.{exact_unsigned, exact_bytes}
use Rattle.slicer_ids.specs.declared.ids.ClassId.{ClassId}
use Rattle.slicer_ids.specs.declared.ids.NodeId.{NodeId}
use Rattle.slicer_ids.specs.declared.ids.Statement.{Statement}
use Rattle.dep_form.specs.Orders.{RiseBy, node_cmp, statement_cmp, line_cmp, method_cmp, MethodKey}

not_before : (o p : Ordering) → o ≡ Less → p ≡ ordering_reverse o → is_lt p ≡ false
not_before Less Less e h = absurd cc
not_before Less Equal e h = refl
not_before Less Greater e h = refl
not_before Equal p e h = absurd cc
not_before Greater p e h = absurd cc

sorted : {X K : Type 0} {R : K → K → Ordering} (o : IsTotalOrder R) (key : X → K) (xs : List X) → RiseBy R key xs → IsSortedBy (λ a b. is_lt (R (key a) (key b))) xs
sorted o key xs rise = λ k d low high. not_before _ _ (rise k (k + 1) d (omega arith) high) (o.antisymm (key (get_or xs (k + 1) d)) (key (get_or xs k d)))

-- no item has the key that a search did not find
pub nowhere : {X K : Type 0} (R : K → K → Ordering) (o : IsTotalOrder R) (key : X → K) (xs : List X) (x : K) (i : ℕ) → RiseBy R key xs
    → (IsNonDecreasingBy (λ y. ordering_index (R (key y) x)) xs → IsPartitionPoint (λ y. R (key y) x ≡ Less) (λ y. R (key y) x ≡ Greater) xs i)
    → (k : ℕ) (y : X) → slice_get xs k ≡ Some y → R (key y) x ≡ Equal → ⊥
nowhere R o key xs x i rise found k y at equal =
    let point = found (searchable_from_sorted o key xs x (sorted o key xs rise)) in
    let is : get_or xs k y ≡ y = get_or_from_slice_get xs k y y at in
    elim (cases_lt k i) [
      | inl lt ↦ let less : R (key y) x ≡ Less = ap (λ z. R (key z) x) (sym is) ∙ point.0 k y (omega arith) lt in absurd (cc less)
      | inr le ↦ let greater : R (key y) x ≡ Greater = ap (λ z. R (key z) x) (sym is) ∙ point.1 k y le (slice_get_within xs k y at) in absurd (cc greater)
    ]

-- .. the same over the list that was searched
pub not_found : {X K : Type 0} (R : K → K → Ordering) (o : IsTotalOrder R) (key : X → K) (xs ys : List X) (x : K) (i : ℕ) → xs ≡ ys → RiseBy R key ys
    → (IsNonDecreasingBy (λ y. ordering_index (R (key y) x)) xs → IsPartitionPoint (λ y. R (key y) x ≡ Less) (λ y. R (key y) x ≡ Greater) xs i)
    → (k : ℕ) (y : X) → slice_get ys k ≡ Some y → R (key y) x ≡ Equal → ⊥
not_found {X} R o key xs ys x i same rise found =
    let P : List X → Type 0 = λ zs. IsNonDecreasingBy (λ y. ordering_index (R (key y) x)) zs → IsPartitionPoint (λ y. R (key y) x ≡ Less) (λ y. R (key y) x ≡ Greater) zs i in
    nowhere R o key ys x i rise (subst P same found)

pub node_total : IsTotalOrder node_cmp
node_total = on_total (λ (n : NodeId). n.0) nat_cmp_total

pub statement_total : IsTotalOrder statement_cmp
statement_total = then_total (on_total (λ (s : Statement). s.method.0) nat_cmp_total) (on_total (λ (s : Statement). s.pc) nat_cmp_total)

pub line_total : IsTotalOrder line_cmp
line_total = then_total (on_total (λ (k : ClassId × ℕ). k.0.0) nat_cmp_total) (on_total (λ (k : ClassId × ℕ). k.1) nat_cmp_total)

pub method_total : IsTotalOrder method_cmp
method_total = then_total (on_total (λ (k : MethodKey). k.class.0) nat_cmp_total) (then_total (on_total (λ (k : MethodKey). k.name) nat_list_cmp_total) (on_total (λ (k : MethodKey). k.descriptor) nat_list_cmp_total))

both_equal : (o p : Ordering) → ordering_then o p ≡ Equal → (o ≡ Equal) × (p ≡ Equal)
both_equal Less p e = absurd cc
both_equal Equal p e = (refl, e)
both_equal Greater p e = absurd cc

-- keys that compare equal are one
pub one_number : (x y : ℕ) → nat_cmp x y ≡ Equal → x ≡ y
one_number x y e = exact_unsigned x y e

pub one_text : (xs ys : List ℕ) → slice_cmp nat_cmp xs ys ≡ Equal → xs ≡ ys
one_text xs ys e = exact_bytes xs ys e

pub one_statement : (a b : Statement) → statement_cmp a b ≡ Equal → a ≡ b
one_statement a b e =
    let h = both_equal _ _ e in
    ap (λ n. record { method = record { 0 = n }; pc = a.pc }) (one_number _ _ h.0) ∙ ap (λ n. record { method = b.method; pc = n }) (one_number _ _ h.1)

pub one_line : (a b : ClassId × ℕ) → line_cmp a b ≡ Equal → (a.0 ≡ b.0) × (a.1 ≡ b.1)
one_line a b e = let h = both_equal _ _ e in (ap (λ n. record { 0 = n }) (one_number _ _ h.0), one_number _ _ h.1)

pub one_method : (a b : MethodKey) → method_cmp a b ≡ Equal → (a.class ≡ b.class) × (a.name ≡ b.name) × (a.descriptor ≡ b.descriptor)
one_method a b e =
    let h = both_equal _ _ e in
    let g = both_equal _ _ h.1 in
    (ap (λ n. record { 0 = n }) (one_number _ _ h.0), one_text _ _ g.0, one_text _ _ g.1)

-- the item at a place within a list
pub item_at : {X : Type 0} (P : X → Type 0) (xs : List X) (k : ℕ) → k < length xs → ((d : X) → P (get_or xs k d)) → (x : X) × (slice_get xs k ≡ Some x) × P x
item_at P xs k lt h = elim (slice_get_cases xs k).1 [ inl c ↦ (c.0, c.2, subst P c.3 (h c.0)) | inr c ↦ absurd (omega (arith, c.0)) ]

-- a search by a closure that compares each item's key with x
module _ {X K F : Type 0} (R : K → K → Ordering) (o : IsTotalOrder R) (key : X → K) {g : Mut F (Bor X × Unit {0}) Ordering} {f : F} (xs ys : List X) (x : K) (i : ℕ) (same : xs ≡ ys)
    (compares : (a : Bor X × Unit {0}) (r : Ordering) (f' : F) → Called g f a r f' → (r ≡ R (key a.0.now) x) × (f' ≡ f)) where
  pub found_by : i < length xs → ((ord : X → Ordering) → ComputesKey g ord f → IsBinarySearchResult ord xs (Ok i)) → (y : X) × (slice_get ys i ≡ Some y) × (R (key y) x ≡ Equal)
  found_by lt clause =
      let P : List X → Type 0 = λ zs. (y : X) × (slice_get zs i ≡ Some y) × (R (key y) x ≡ Equal) in
      subst P same (item_at (λ y. R (key y) x ≡ Equal) xs i lt (clause (λ y. R (key y) x) (always_returns_same g (λ a r. r ≡ R (key a.0.now) x) f compares)))

  pub missed_by : RiseBy R key ys → ((ord : X → Ordering) → ComputesKey g ord f → IsBinarySearchResult ord xs (Err i)) → (k : ℕ) (y : X) → slice_get ys k ≡ Some y → R (key y) x ≡ Equal → ⊥
  missed_by rise clause = not_found R o key xs ys x i same rise (clause (λ y. R (key y) x) (always_returns_same g (λ a r. r ≡ R (key a.0.now) x) f compares))

-- the name at a place
pub named : (names : List (List ℕ)) (k : ℕ) (found name : List ℕ) → slice_get names k ≡ Some found → found ≡ name → slice_get names k ≡ Some name
named names k found name at is = at ∙ ap (λ n. Some n) is

-- keys that are one compare equal
pub same_line : (a b : ClassId × ℕ) → a.0 ≡ b.0 → a.1 ≡ b.1 → line_cmp a b ≡ Equal
same_line a b p q = ap (λ n. line_cmp (n, a.1) b) p ∙ ap (λ n. line_cmp (b.0, n) b) q ∙ tied_itself line_total b

pub same_method : (a b : MethodKey) → a.class ≡ b.class → a.name ≡ b.name → a.descriptor ≡ b.descriptor → method_cmp a b ≡ Equal
same_method a b p q r =
    ap (λ n. method_cmp (record { class = n; name = a.name; descriptor = a.descriptor }) b) p
    ∙ ap (λ n. method_cmp (record { class = b.class; name = n; descriptor = a.descriptor }) b) q
    ∙ ap (λ n. method_cmp (record { class = b.class; name = b.name; descriptor = n }) b) r
    ∙ tied_itself method_total b

-- what was read at a place is the item there
pub read_at : {X : Type 0} (xs ys : List X) (k : ℕ) (y d : X) → xs ≡ ys → slice_get ys k ≡ Some y → get_or xs k d ≡ y
read_at xs ys k y d same at = ap (λ zs. get_or zs k d) same ∙ get_or_from_slice_get ys k y d at

-- what holds of each item holds of the one at a place
pub all_at : {X : Type 0} (P : X → Type 0) (xs : List X) → All P xs → (k : ℕ) (x : X) → slice_get xs k ≡ Some x → P x
all_at P xs all k x at = subst P (get_or_from_slice_get xs k x x at) (all k x (slice_get_within xs k x at))

-- nodes in order rise
pub rise_from_order : (xs : List NodeId) → AllPairs NodeBefore xs → RiseBy node_cmp (λ n. n) xs
rise_from_order xs order = λ i j d lt within. sym (nat_cmp_is _ _ Less (order i j d lt within))

-- Names with descriptors that were put in order, each once.
use Rattle.std.proofs.Common.{◌≡◌, ◌⊎◌, ℕ, suc, true, List, [], ◌∷◌, map, get_or, All, AllPairs, Contains, Some, inl, inr, refl, sym, ap, subst, ◌∙◌, arith, Ordering}
use Rattle.std.specs.Prelude.{IsPermutation, IsSortedByKey, option_map, slice_get}
use Rattle.std.specs.List.{dedup}
use Rattle.std.specs.List.Sorted.{IsStrictlySortedBy}
use Rattle.std.specs.Ordering.{nat_cmp, is_eq, ordering_then}
use Rattle.std.specs.declared.cmp.Ordering.TheVariants.{Less, Equal, Greater}
use Rattle.std.specs.Cmp.{IsTotalOrder}
use Rattle.std.specs.Cmp.Lexicographic.{slice_cmp}
use Rattle.std.proofs.lemmas.Cmp.{on_total, eq_by_cmp_equiv, tied_itself, nat_list_cmp_total}
use Rattle.std.proofs.lemmas.Option.{slice_get-map}
use Rattle.std.proofs.lemmas.List.{length-map, get_or-map}
use Rattle.std.proofs.lemmas.List.Elements.{All-from_recursion, All-weaker, All-map, All-contains_itself}
use Rattle.std.proofs.lemmas.List.Kept.{AllPairs-cons, IsStrictlySortedBy-dedup, Any-dedup, Contains-from_dedup}
use Rattle.std.proofs.lemmas.List.Sorted.{Contains-permutation, IsPermutation-sym}
use Rattle.slicer_ids.specs.Sets.{IsOrderedListOf}
use Rattle.slicer_ids.proofs.Ordered.{Contains-cons_cases}
use Rattle.class_form.proofs.Indices.{index_in, there_at, later}
use Rattle.dep_form.specs.Orders.{RiseBy}
use Rattle.hierarchy.specs.Places.{Texts, texts_of, texts_cmp}
use Rattle.hierarchy.proofs.Keys.{texts_total, same_texts}
use Rattle.hierarchy.proofs.Bytes.{same_bytes}
use Rattle.program_form.specs.Systems.{ForeignBefore}
use Rattle.signature_tables.specs.declared.texts.Texts.{Texts as TextsInCode}
use Rattle.signature_tables.specs.TextPairs.{texts_in, pair_of, are_same}

abbrev text_cmp : TextsInCode → TextsInCode → Ordering
text_cmp s t = texts_cmp (texts_in s) (texts_in t)

text_total : IsTotalOrder text_cmp
text_total = on_total texts_in texts_total

if_equal : (o : Ordering) → is_eq o ≡ true → o ≡ Equal
if_equal Less e = absurd (cc e)
if_equal Equal e = refl
if_equal Greater e = absurd (cc e)

same_pair : (a b : TextsInCode) → are_same a b ≡ true → pair_of a ≡ pair_of b
same_pair a b e =
    let same = same_texts (texts_in a) (texts_in b) (if_equal (text_cmp a b) e) in
    ap (λ (t : Texts). (t.name, t.descriptor)) same

then_less : (o p : Ordering) → ordering_then o p ≡ Less → (o ≡ Less) ⊎ ((o ≡ Equal) × (p ≡ Less))
then_less Less p e = inl refl
then_less Equal p e = inr (refl, e)
then_less Greater p e = absurd (cc e)

before : (a b : TextsInCode) → text_cmp a b ≡ Less → ForeignBefore (pair_of a) (pair_of b)
before a b e = elim (then_less (slice_cmp nat_cmp a.name.now b.name.now) (slice_cmp nat_cmp a.descriptor.now b.descriptor.now) e) [
  | inl lt ↦ inl lt
  | inr (same, lt) ↦ inr (same_bytes a.name.now b.name.now same, lt)
]

strictly : (xs : List TextsInCode) → IsStrictlySortedBy text_cmp xs → AllPairs (λ a b. ForeignBefore (pair_of a) (pair_of b)) xs
unfolding IsStrictlySortedBy
strictly [] h = λ i j d lt within. absurd (omega arith)
strictly (x ∷ xs) h = AllPairs-cons (λ a b. ForeignBefore (pair_of a) (pair_of b)) x xs (All-weaker (λ y. text_cmp x y ≡ Less) (λ y. ForeignBefore (pair_of x) (pair_of y)) (λ y e. before x y e) xs (All-from_recursion (λ y. text_cmp x y ≡ Less) xs h.0)) (strictly xs h.1)

pairs_map : {A B : Type 0} (R : B → B → Type 0) (f : A → B) (xs : List A) → AllPairs (λ a b. R (f a) (f b)) xs → AllPairs R (map f xs)
pairs_map R f [] h = λ i j d lt within. absurd (omega arith)
pairs_map R f (x ∷ xs) h =
    AllPairs-cons R (f x) (map f xs) (All-map (R (f x)) f xs (λ k d lt. h 0 (suc k) d (omega arith) (omega (arith, lt))))
    (pairs_map R f xs (λ i j d lt within. h (suc i) (suc j) d (omega (arith, lt)) (omega (arith, within))))

in_map : {A B : Type 0} (f : A → B) (xs : List A) (x : A) → Contains xs x → Contains (map f xs) (f x)
in_map f xs x c =
    let at = index_in xs x c in
    there_at (map f xs) at.0 (f x) (slice_get-map f xs at.0 ∙ ap (λ o. option_map f o) at.1)

from_map : {A B : Type 0} (f : A → B) (xs : List A) (y : B) → Contains (map f xs) y → (x : A) × Contains xs x × (f x ≡ y)
from_map f [] y c = absurd (omega (arith, c.1))
from_map f (x ∷ xs) y c = elim (Contains-cons_cases (f x) y (map f xs) c) [
  | inl e ↦ (x, (0, omega arith, refl), e)
  | inr rest ↦ let (z, has, e) = from_map f xs y rest in (z, later x z xs has, e)
]

-- put in order, and then each once
pub texts_in_order : (xs ys : List TextsInCode) → IsPermutation xs ys → IsSortedByKey texts_in texts_cmp ys →
    IsOrderedListOf ForeignBefore (map pair_of (dedup are_same ys)) (Contains (map pair_of xs))
texts_in_order xs ys same sorted = record {
  each = All-map (Contains (map pair_of xs)) pair_of (dedup are_same ys) (All-of (λ t c. in_map pair_of xs t (Contains-permutation _ _ t (IsPermutation-sym _ _ same) (Contains-from_dedup are_same ys t c))));
  order = pairs_map ForeignBefore pair_of (dedup are_same ys) (strictly (dedup are_same ys) (IsStrictlySortedBy-dedup text_total (λ x y. refl) ys sorted));
  whole = λ nd c.
      let (t, has, e) = from_map pair_of xs nd c in
      let (k, u, lt, at, eq) = Any-dedup (eq_by_cmp_equiv text_total) ys t (Contains-permutation _ _ t same has) in
      subst (λ z. Contains (map pair_of (dedup are_same ys)) z) (sym (same_pair t u eq) ∙ e) (in_map pair_of (dedup are_same ys) u (k, lt, at));
}
  where
    All-of : ((t : TextsInCode) → Contains (dedup are_same ys) t → Contains (map pair_of xs) (pair_of t)) → All (λ t. Contains (map pair_of xs) (pair_of t)) (dedup are_same ys)
    All-of f = All-weaker (Contains (dedup are_same ys)) (λ t. Contains (map pair_of xs) (pair_of t)) f (dedup are_same ys) (All-contains_itself (dedup are_same ys))

less_before : (a b : TextsInCode) → ForeignBefore (pair_of a) (pair_of b) → text_cmp a b ≡ Less
less_before a b (inl lt) = ap (λ o. ordering_then o (slice_cmp nat_cmp a.descriptor.now b.descriptor.now)) lt
less_before a b (inr (same, lt)) =
    ap (λ n. ordering_then (slice_cmp nat_cmp n b.name.now) (slice_cmp nat_cmp a.descriptor.now b.descriptor.now)) same
    ∙ ap (λ o. ordering_then o (slice_cmp nat_cmp a.descriptor.now b.descriptor.now)) (tied_itself nat_list_cmp_total b.name.now)
    ∙ lt

-- texts in order rise
pub texts_rise : (xs : List TextsInCode) → AllPairs ForeignBefore (map pair_of xs) → RiseBy texts_cmp texts_in xs
texts_rise xs order = λ i j d lt within.
    less_before (get_or xs i d) (get_or xs j d)
    (subst (λ z. ForeignBefore z (pair_of (get_or xs j d))) (get_or-map pair_of xs i d (pair_of d) (omega (arith, lt, within)))
    (subst (λ z. ForeignBefore (get_or (map pair_of xs) i (pair_of d)) z) (get_or-map pair_of xs j d (pair_of d) within) (order i j (pair_of d) lt (omega (arith, within, length-map xs pair_of)))))

-- what a search by halving finds
pub text_found : (xs : List TextsInCode) (k : ℕ) (name descriptor : List ℕ) → (y : TextsInCode) × (slice_get xs k ≡ Some y) × (texts_cmp (texts_in y) (texts_of name descriptor) ≡ Equal) →
    slice_get (map pair_of xs) k ≡ Some (name, descriptor)
text_found xs k name descriptor (y, at, e) =
    let same = same_texts (texts_in y) (texts_of name descriptor) e in
    slice_get-map pair_of xs k ∙ ap (λ o. option_map pair_of o) at ∙ ap (λ (t : Texts). Some (t.name, t.descriptor)) same

pub text_missed : (xs : List TextsInCode) (name descriptor : List ℕ) → ((k : ℕ) (y : TextsInCode) → slice_get xs k ≡ Some y → texts_cmp (texts_in y) (texts_of name descriptor) ≡ Equal → ⊥) →
    Contains (map pair_of xs) (name, descriptor) → ⊥
text_missed xs name descriptor missed c =
    let (y, has, e) = from_map pair_of xs (name, descriptor) c in
    let at = index_in xs y has in
    let same : texts_in y ≡ texts_of name descriptor = ap (λ (z : List ℕ × List ℕ). texts_of z.0 z.1) e in
    missed at.0 y at.1 (ap (λ z. texts_cmp z (texts_of name descriptor)) same ∙ tied_itself texts_total (texts_of name descriptor))

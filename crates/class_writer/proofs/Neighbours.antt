-- In order, equal names and descriptors stand side by side.
use Rattle.std.proofs.Common.{◌≡◌, ◌∙◌, ℕ, suc, ◌+◌, ◌<◌, ◌≤◌, Bool, true, false, List, [], ◌∷◌, length, get_or, map, Option, Some, None, refl, sym, ap, subst, arith}
use Rattle.std.specs.Prelude.{not, ◌&&◌}
use Rattle.std.specs.List.{All, AllByRecursion, AllPairs, IsDistinct}
use Rattle.std.specs.List.Sorted.{IsPermutation, IsSortedBy}
use Rattle.std.specs.Ordering.{nat_cmp, ordering_then, ordering_reverse, is_eq, is_lt, on}
use Rattle.std.specs.Option.{option_cmp}
use Rattle.std.specs.Bool.{Decides}
use Rattle.std.specs.Cmp.{IsTotalOrder, on_total, then_total}
use Rattle.std.specs.Cmp.Lexicographic.{slice_cmp, options_total, nat_list_cmp_total, texts_ties, bytes_decides}
use Rattle.std.specs.declared.cmp.Ordering.{Ordering}
use Rattle.std.specs.declared.cmp.Ordering.TheVariants.{Less, Equal, Greater}
use Rattle.std.proofs.lemmas.Bool.Decides.{Decides-and, Decides-like, Decides-at, same_from_decides}
use Rattle.std.proofs.lemmas.List.Elements.{All-from_recursion, recursion_from_All}
use Rattle.std.proofs.lemmas.List.Sorted.{IsPermutation-sym}
use Rattle.std.proofs.lemmas.Cmp.{tied_itself}
use Rattle.std.proofs.lemmas.List.Kept.{AllPairs-cons}
use Rattle.std.proofs.lemmas.Map.Keys.{IsDistinct-IsPermutation}
use Rattle.class_form.specs.Pools.{utf_at}
use Rattle.class_form.specs.ClassRules.{HasTextsOf, AreDistinct}
use Rattle.class_form.specs.declared.pool.Pool.{Pool}
use Rattle.class_form.specs.declared.class_file.Member.{Member}
use Rattle.class_writer.specs.Names.{text_cmp, names_cmp, name_of, names_of, differ_from, differ}
use Rattle.class_writer.specs.Tests.{are_distinct}
use Rattle.class_writer.proofs.ClassDecided.{are_distinct-Decides, pairs_head, pairs_tail}

some_is : {A : Type 0} (x y : A) → Some x ≡ Some y → x ≡ y
some_is x y e = cc

text_total : (p : Pool) → IsTotalOrder (text_cmp p)
text_total p = on_total (utf_at p) (options_total nat_list_cmp_total)

pub one_index : (p : Pool) (i j : ℕ) → i ≡ j → Equal ≡ text_cmp p i j
one_index p i j e = sym (subst (λ n. text_cmp p i n ≡ Equal) e (tied_itself (text_total p) i))

pub names_total : (p : Pool) → IsTotalOrder (names_cmp p)
unfolding names_cmp
names_total p = then_total (on_total (λ (x : ℕ × ℕ). x.0) (text_total p)) (on_total (λ (x : ℕ × ℕ). x.1) (text_total p))

-- ---- equal ones

texts_tied : (a b : Option (List ℕ)) → Decides (is_eq (option_cmp (slice_cmp nat_cmp) a b)) (a ≡ b)
texts_tied None None = (λ _. refl, λ _. refl)
texts_tied None (Some y) = (λ e. absurd cc, λ e. absurd cc)
texts_tied (Some x) None = (λ e. absurd cc, λ e. absurd cc)
texts_tied (Some x) (Some y) = Decides-like _ (λ e. ap (λ (t : List ℕ). Some t) e) (λ e. some_is x y e) (Decides-at _ _ (sym (texts_ties x y)) (bytes_decides x y))

eq_then : (r s : Ordering) → is_eq (ordering_then r s) ≡ (is_eq r && is_eq s)
eq_then Less s = refl
eq_then Equal s = refl
eq_then Greater s = refl

names_tied : (p : Pool) (x y : ℕ × ℕ) → Decides (is_eq (names_cmp p x y)) ((utf_at p x.0 ≡ utf_at p y.0) × (utf_at p x.1 ≡ utf_at p y.1))
unfolding names_cmp
names_tied p x y = Decides-at _ _ (eq_then (text_cmp p x.0 y.0) (text_cmp p x.1 y.1)) (Decides-and _ _ (texts_tied (utf_at p x.0) (utf_at p y.0)) (texts_tied (utf_at p x.1) (utf_at p y.1)))

same : Pool → ℕ × ℕ → ℕ × ℕ → Bool
same p x y = is_eq (names_cmp p x y)

eq_reverse : (r : Ordering) → is_eq (ordering_reverse r) ≡ is_eq r
eq_reverse Less = refl
eq_reverse Equal = refl
eq_reverse Greater = refl

flips : (p : Pool) (x y : ℕ × ℕ) → same p x y ≡ same p y x
unfolding same
flips p x y = ap is_eq ((names_total p).antisymm x y) ∙ eq_reverse (names_cmp p y x)

-- ---- neighbours

less : (r s : Ordering) → s ≡ ordering_reverse r → is_lt s ≡ false → is_eq r ≡ false → r ≡ Less
less Less s e lt eq = refl
less Equal s e lt eq = absurd cc
less Greater s e lt eq = absurd (let f : is_lt s ≡ true = ap is_lt e in cc)

less_differs : (r : Ordering) → r ≡ Less → is_eq r ≡ false
less_differs r e = ap is_eq e

and_first : (a b : Bool) → (not a && b) ≡ true → a ≡ false
and_first true b e = absurd cc
and_first false b e = refl

and_second : (a b : Bool) → (not a && b) ≡ true → b ≡ true
and_second true b e = absurd cc
and_second false b e = e

all_weaker : {X : Type 0} {P Q : X → Type 0} → ((x : X) → P x → Q x) → (xs : List X) → AllByRecursion P xs → AllByRecursion Q xs
all_weaker f [] h = tt
all_weaker f (x ∷ xs) h = (f x h.0, all_weaker f xs h.1)

abbrev InOrder : Pool → List (ℕ × ℕ) → Type 0
InOrder p xs = IsSortedBy (λ x y. is_lt (names_cmp p x y)) xs

next_in_order : (p : Pool) (x : ℕ × ℕ) (xs : List (ℕ × ℕ)) → InOrder p (x ∷ xs) → InOrder p xs
next_in_order p x xs h = λ k d low lt.
    let same : suc k + 1 ≡ suc (k + 1) = omega arith in
    subst (λ n. is_lt (names_cmp p (get_or (x ∷ xs) n d) (get_or xs k d)) ≡ false) same (h (suc k) d (omega arith) (omega (arith, lt)))

all_less : (p : Pool) (x : ℕ × ℕ) (xs : List (ℕ × ℕ)) → InOrder p (x ∷ xs) → differ_from p x xs ≡ true → AllByRecursion (λ y. names_cmp p x y ≡ Less) xs
all_less p x [] h d = tt
all_less p x (y ∷ ys) h d =
    let first = less (names_cmp p x y) (names_cmp p y x) ((names_total p).antisymm y x) (h 0 x (omega arith) (omega arith)) (and_first _ _ d) in
    (first, all_weaker (λ z l. (names_total p).trans x y z first l) ys (all_less p y ys (next_in_order p x (y ∷ ys) h) (and_second _ _ d)))

apart_in_order : (p : Pool) (x : ℕ × ℕ) (xs : List (ℕ × ℕ)) → InOrder p (x ∷ xs) → differ_from p x xs ≡ true → IsDistinct (same p) (x ∷ xs)
unfolding IsDistinct same
apart_in_order p x [] h d = (tt, tt)
apart_in_order p x (y ∷ ys) h d = (all_weaker (λ z l. less_differs (names_cmp p x z) l) (y ∷ ys) (all_less p x (y ∷ ys) h d), apart_in_order p y ys (next_in_order p x (y ∷ ys) h) (and_second _ _ d))

neighbours_differ : (p : Pool) (x : ℕ × ℕ) (xs : List (ℕ × ℕ)) → IsDistinct (same p) (x ∷ xs) → differ_from p x xs ≡ true
unfolding IsDistinct same
neighbours_differ p x [] h = refl
neighbours_differ p x (y ∷ ys) h = rw h.0.0 (neighbours_differ p y ys h.1)

differ-Decides : (p : Pool) (xs : List (ℕ × ℕ)) → InOrder p xs → Decides (differ p xs) (IsDistinct (same p) xs)
unfolding IsDistinct
differ-Decides p [] h = (λ _. tt, λ _. refl)
differ-Decides p (x ∷ xs) h = (λ d. apart_in_order p x xs h d, λ k. neighbours_differ p x xs k)

-- ---- members

abbrev Differs : Pool → Member → Member → Type 0
Differs p a b = HasTextsOf p a b.name b.descriptor → ⊥

one_differs : (p : Pool) (m x : Member) → same p (name_of m) (name_of x) ≡ false → Differs p m x
unfolding same
one_differs p m x e h = absurd (let f = (names_tied p (name_of m) (name_of x)).1 h in cc)

is_not_same : (p : Pool) (m x : Member) → Differs p m x → same p (name_of m) (name_of x) ≡ false
unfolding same
is_not_same p m x h = by (is_eq (names_cmp p (name_of m) (name_of x))) (names_tied p (name_of m) (name_of x))
  where
    by : (b : Bool) → Decides b (HasTextsOf p m x.name x.descriptor) → b ≡ false
    by true d = absurd (h (d.0 refl))
    by false d = refl

all_differ : (p : Pool) (m : Member) (ms : List Member) → AllByRecursion (λ y. same p (name_of m) y ≡ false) (names_of ms) → AllByRecursion (Differs p m) ms
all_differ p m [] h = tt
all_differ p m (x ∷ ms) h = (one_differs p m x h.0, all_differ p m ms h.1)

none_same : (p : Pool) (m : Member) (ms : List Member) → AllByRecursion (Differs p m) ms → AllByRecursion (λ y. same p (name_of m) y ≡ false) (names_of ms)
none_same p m [] h = tt
none_same p m (x ∷ ms) h = (is_not_same p m x h.0, none_same p m ms h.1)

members_differ : (p : Pool) (ms : List Member) → IsDistinct (same p) (names_of ms) → AreDistinct p ms
unfolding IsDistinct
members_differ p [] h = λ i j d lt within. absurd (omega (arith, within))
members_differ p (m ∷ ms) h = AllPairs-cons (Differs p) m ms (All-from_recursion (Differs p m) ms (all_differ p m ms h.0)) (members_differ p ms h.1)

names_differ : (p : Pool) (ms : List Member) → AreDistinct p ms → IsDistinct (same p) (names_of ms)
unfolding IsDistinct
names_differ p [] h = tt
names_differ p (m ∷ ms) h = (none_same p m ms (recursion_from_All (Differs p m) ms (pairs_head (Differs p) m ms h)), names_differ p ms (pairs_tail (Differs p) m ms h))

pub sorted_decides : (p : Pool) (ms : List Member) (names : List (ℕ × ℕ)) → IsPermutation (names_of ms) names → InOrder p names → differ p names ≡ are_distinct p ms
sorted_decides p ms names moved order =
    same_from_decides (differ p names) (are_distinct p ms)
    (Decides-like _
    (λ h. members_differ p ms (IsDistinct-IsPermutation (same p) (flips p) names (names_of ms) (IsPermutation-sym (names_of ms) names moved) h))
    (λ h. IsDistinct-IsPermutation (same p) (flips p) (names_of ms) names moved (names_differ p ms h))
    (differ-Decides p names order))
    (are_distinct-Decides p ms)

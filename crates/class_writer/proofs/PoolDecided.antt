-- The tests on constant pools decide their rules.
use Rattle.std.proofs.Common.{◌≡◌, ℕ, suc, ◌+◌, ◌<◌, ◌≤◌, ◌^◌, Bool, true, false, cond, leb, ltb, List, [], ◌∷◌, length, refl, arith}
use Rattle.std.specs.Prelude.{not, ◌&&◌}
use Rattle.std.specs.List.{list_all, All, AllByRecursion}
use Rattle.std.specs.Bool.{Decides}
use Rattle.std.proofs.lemmas.Bool.Decides.{Decides-ltb, Decides-and, Decides-not, Decides-like, Decides-at, Decides-by_and}
use Rattle.std.proofs.lemmas.List.Elements.{All-from_recursion, recursion_from_All, All-weaker}
use Rattle.class_form.specs.PoolRules.{IsOfVersion, IsInfo, IsWide, IsSecond, AreIndices, HasKinds, HasTexts, IsPool}
use Rattle.class_form.specs.PoolReading.{is_wide, has_kinds, has_texts}
use Rattle.class_form.proofs.Characters.{is_modified_utf8-Decides}
use Rattle.class_form.proofs.PoolTests.{Decides-leb, has_kinds-Decides, has_texts-Decides, is_wide-Decides}
use Rattle.class_form.specs.declared.pool.Pool.{Pool}
use Rattle.class_form.specs.declared.pool.Constant.{Constant}
use Rattle.class_form.specs.declared.pool.Constant.TheVariants.{Utf8, Integer, Float, Long, Double, Class, Text, Field, Method, InterfaceMethod, NameAndType, Handle, MethodType, Dynamic, Second}
use Rattle.class_writer.specs.Numbers.{is_short, has_numbers}
use Rattle.class_writer.specs.Tests.{is_count, is_of_version, is_info, is_second, are_indices, is_constant, is_pool}

-- ---- numbers and counts

pub is_short-Decides : (n : ℕ) → Decides (is_short n) (n < 2 ^ 16)
unfolding is_short
is_short-Decides n = Decides-ltb n (2 ^ 16)

pub is_count-Decides : {A : Type 0} (items : List A) → Decides (is_count items) (length items < 2 ^ 16)
is_count-Decides items = Decides-like _ (λ h. omega (arith, h)) (λ h. omega (arith, h)) (Decides-leb (length items) 0xffff)

pub all-Decides : {A : Type 0} (test : A → Bool) (P : A → Type 0) → ((x : A) → Decides (test x) (P x)) → (xs : List A) → Decides (list_all test xs) (All P xs)
all-Decides test P each xs = Decides-by_and test P (list_all test) each refl (λ _ _. refl) xs

-- ---- constants

is_of_version-Decides : (major : ℕ) (c : Constant) → Decides (is_of_version major c) (IsOfVersion major c)
is_of_version-Decides major (Handle kind reference) = Decides-leb 51 major
is_of_version-Decides major (MethodType descriptor) = Decides-leb 51 major
is_of_version-Decides major (Dynamic bootstrap rest) = Decides-leb 51 major
is_of_version-Decides major c = (λ _. tt, λ _. refl)

-- numbers alone, with no text to be looked at
yes : Decides true (Unit {0})
yes = (λ _. tt, λ _. refl)

alone : {P : Type 0} (b : Bool) → Decides b P → Decides (b && true) P
alone b d = Decides-like _ (λ h. h.0) (λ h. (h, tt)) (Decides-and b true d yes)

two_shorts : (n m : ℕ) → Decides ((is_short n && is_short m) && true) ((n < 2 ^ 16) × (m < 2 ^ 16))
two_shorts n m = alone _ (Decides-and _ _ (is_short-Decides n) (is_short-Decides m))

is_info-Decides : (c : Constant) → Decides (has_numbers c && is_info c) (IsInfo c)
unfolding has_numbers
is_info-Decides (Utf8 text) = Decides-and _ _ (Decides-like _ (λ h. omega (arith, h)) (λ h. omega (arith, h)) (Decides-leb (length text) 0xffff)) (is_modified_utf8-Decides text)
is_info-Decides (Integer n) = alone _ (Decides-ltb n (2 ^ 32))
is_info-Decides (Float n) = alone _ (Decides-ltb n (2 ^ 32))
is_info-Decides (Long n) = alone _ (Decides-ltb n (2 ^ 64))
is_info-Decides (Double n) = alone _ (Decides-ltb n (2 ^ 64))
is_info-Decides (Class name) = alone _ (is_short-Decides name)
is_info-Decides (Text text) = alone _ (is_short-Decides text)
is_info-Decides (Field class rest) = two_shorts class rest
is_info-Decides (Method class rest) = two_shorts class rest
is_info-Decides (InterfaceMethod class rest) = two_shorts class rest
is_info-Decides (NameAndType name descriptor) = two_shorts name descriptor
is_info-Decides (Handle kind reference) = alone _ (Decides-and _ _ (Decides-ltb kind (2 ^ 8)) (is_short-Decides reference))
is_info-Decides (MethodType descriptor) = alone _ (is_short-Decides descriptor)
is_info-Decides (Dynamic bootstrap rest) = two_shorts bootstrap rest
is_info-Decides Second = (λ _. tt, λ _. refl)

in_order : (n v i : Bool) → (n && v && i) ≡ (v && (n && i))
in_order true true i = refl
in_order true false i = refl
in_order false true i = refl
in_order false false i = refl

-- all rules on one constant
abbrev IsConstant : Pool → Constant → Type 0
IsConstant p c = (IsOfVersion p.major c × IsInfo c) × HasKinds p c × HasTexts p c

is_constant-Decides : (p : Pool) (c : Constant) → Decides (is_constant p c) (IsConstant p c)
is_constant-Decides p c = Decides-like _ (λ h. (h.0.0, h.0.1, h.1)) (λ h. ((h.0, h.1), h.2))
    (Decides-and _ _ (Decides-and _ _ (Decides-at _ _ (in_order (has_numbers c) (is_of_version p.major c) (is_info c)) (Decides-and _ _ (is_of_version-Decides p.major c) (is_info-Decides c))) (has_kinds-Decides p c)) (has_texts-Decides p c))

-- ---- indices

is_second-Decides : (c : Constant) → Decides (is_second c) (IsSecond c)
is_second-Decides Second = (λ _. tt, λ _. refl)
is_second-Decides c = (λ e. absurd cc, λ h. absurd h)

are_indices-Decides : (wide : Bool) (Wide : Type 0) → Decides wide Wide → (cs : List Constant) → Decides (are_indices wide cs) (AreIndices Wide cs)
are_indices-Decides wide Wide d [] = Decides-not wide d
are_indices-Decides wide Wide d (c ∷ cs) = by (is_second c) (is_second-Decides c) (are_indices-Decides (is_wide c) (IsWide c) (is_wide-Decides c) cs)
  where
    by : (b : Bool) → Decides b (IsSecond c) → Decides (are_indices (is_wide c) cs) (AreIndices (IsWide c) cs)
        → Decides (cond b (wide && are_indices (is_wide c) cs) (not wide && are_indices (is_wide c) cs)) ((Wide → IsSecond c) × (IsSecond c → Wide) × AreIndices (IsWide c) cs)
    by true s rest = Decides-like _ (λ h. (λ _. s.0 refl, λ _. h.0, h.1)) (λ h. (h.1 (s.0 refl), h.2)) (Decides-and _ _ d rest)
    by false s rest = Decides-like _ (λ h. (λ w. absurd (h.0 w), λ k. absurd (let e = s.1 k in cc), h.1)) (λ h. (λ w. let e = s.1 (h.0 w) in absurd cc, h.2)) (Decides-and _ _ (Decides-not _ d) rest)

-- ---- the pool

pub is_pool-Decides : (p : Pool) → Decides (is_pool p) (IsPool p)
is_pool-Decides p =
    Decides-like _
    (λ h. record {
      count = omega (arith, h.0.0);
      version = recursion_from_All _ _ (All-weaker (IsConstant p) _ (λ c k. k.0.0) _ h.1);
      infos = recursion_from_All _ _ (All-weaker (IsConstant p) _ (λ c k. k.0.1) _ h.1);
      indices = h.0.1;
      kinds = recursion_from_All _ _ (All-weaker (IsConstant p) _ (λ c k. k.1) _ h.1);
      texts = recursion_from_All _ _ (All-weaker (IsConstant p) _ (λ c k. k.2) _ h.1);
    })
    (λ h. ((omega (arith, h.count), h.indices), λ k d lt. ((All-from_recursion (IsOfVersion p.major) _ h.version k d lt, All-from_recursion IsInfo _ h.infos k d lt), All-from_recursion (HasKinds p) _ h.kinds k d lt, All-from_recursion (HasTexts p) _ h.texts k d lt)))
    (Decides-and _ _ (Decides-and _ _ (Decides-leb (length p.constants) 0xfffe) (are_indices-Decides false ⊥ (λ e. absurd cc, λ h. absurd h) p.constants)) (all-Decides (is_constant p) (IsConstant p) (is_constant-Decides p) p.constants))

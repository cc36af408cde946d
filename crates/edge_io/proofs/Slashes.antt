-- The last slash of a path splits it.
use Rattle.std.proofs.Common.{◌≡◌, ◌≢◌, ℕ, zero, ◌<◌, List, [], ◌∷◌, ◌++◌, take, drop, Contains, refl, sym, ap, subst, ◌∙◌, arith}
use Rattle.std.proofs.lemmas.List.{get_or_default, take-append-drop}
use Rattle.std.proofs.lemmas.List.Elements.{Contains-append_right}
use Rattle.std.proofs.lemmas.Str.Pattern.{NoCharPasses-char, drop_at_char}
use Rattle.std.specs.Bool.{◌==◌}
use Rattle.std.specs.Str.{NoCharPasses}
use Rattle.std.specs.Str.Pattern.{HasCharAt}
use Rattle.edge_io.specs.Files.{HasNoSlash, inside}

slash_is_ascii : 47 < 128
slash_is_ascii = omega arith

no_slash : (xs : List ℕ) → NoCharPasses (λ d. d == 47) xs → HasNoSlash xs
no_slash xs none (k, lt, is) = NoCharPasses-char 47 xs k none slash_is_ascii lt (get_or_default xs k 0 47 lt ∙ is)

-- the two parts round the last slash
pub parts : (s front back : List ℕ) (i j : ℕ) → NoCharPasses (λ d. d == 47) (drop j s) → HasCharAt 47 s i j → front ≡ take i s → back ≡ drop j s → HasNoSlash back × (s ≡ inside front back)
parts s front back i j none here is_front is_back =
    let whole : s ≡ take i s ++ 47 ∷ drop j s = sym (take-append-drop i s) ∙ ap (λ (t : List ℕ). take i s ++ t) (drop_at_char 47 s i j here slash_is_ascii) in
    (subst HasNoSlash (sym is_back) (no_slash (drop j s) none), whole ∙ ap (λ (t : List ℕ). t ++ 47 ∷ drop j s) (sym is_front) ∙ ap (λ (t : List ℕ). front ++ 47 ∷ t) (sym is_back))

-- what stands in a folder has a slash
pub inside_has_slash : (s folder name : List ℕ) → NoCharPasses (λ d. d == 47) s → s ≢ inside folder name
inside_has_slash s folder name none is =
    no_slash s none (subst (λ (t : List ℕ). Contains t 47) (sym is) (Contains-append_right folder (47 ∷ name) 47 (zero, omega arith, refl)))

slash_in_tail : (bs x y : List ℕ) → x ≡ bs ++ 47 ∷ y → HasNoSlash x → ⊥
slash_in_tail bs x y e none = none (subst (λ (t : List ℕ). Contains t 47) (sym e) (Contains-append_right bs (47 ∷ y) 47 (zero, omega arith, refl)))

-- a path stands directly in one folder only
pub one_folder : (a b x y : List ℕ) → inside a x ≡ inside b y → HasNoSlash x → HasNoSlash y → a ≡ b
one_folder [] [] x y e p q = refl
one_folder [] (c ∷ b) x y e p q = let tail : x ≡ b ++ 47 ∷ y = cc in absurd (slash_in_tail b x y tail p)
one_folder (c ∷ a) [] x y e p q = let tail : y ≡ a ++ 47 ∷ x = cc in absurd (slash_in_tail a y x tail q)
one_folder (c ∷ a) (d ∷ b) x y e p q =
    let head : c ≡ d = cc in
    let tail : inside a x ≡ inside b y = cc in
    λ i. head i ∷ one_folder a b x y tail p q i

-- a folder's entries have different names
pub same_name : (folder x y : List ℕ) → inside folder x ≡ inside folder y → x ≡ y
same_name [] x y e = cc
same_name (c ∷ folder) x y e = let tail : inside folder x ≡ inside folder y = cc in same_name folder x y tail

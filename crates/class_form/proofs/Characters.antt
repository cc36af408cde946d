use Rattle.std.proofs.Common.{◌≡◌, subst, true, Decides, ℕ, ◌≤◌, inl, inr, List, [], ◌∷◌, ◌++◌, Option, Some, None, refl, ◌∙◌, ap, arith}
use Rattle.std.proofs.lemmas.Bool.Decides.{nat_tests, eqb_tells}
use Rattle.std.specs.List.{flat_map, AllByRecursion}
use Rattle.class_form.specs.Utf8.{IsContinuation, IsCharacter, IsModifiedUtf8}
use Rattle.class_form.specs.NameTests.{reached, Left, Nothing, Zero, One, Two, High, begin_character, go_on, is_nothing, is_modified_utf8}
use Rattle.class_form.proofs.Steps.{reached-then, stepped}

-- which state a first byte leads to
pub begins_alone : (a : ℕ) → 1 ≤ a → a ≤ 127 → begin_character a ≡ Some Nothing
begins_alone a h k = grind (arith, nat_tests)

pub begins_two : (a : ℕ) → 194 ≤ a → a ≤ 223 → begin_character a ≡ Some One
begins_two a h k = grind (arith, nat_tests)

pub begins_three : (a : ℕ) → 225 ≤ a → a ≤ 239 → begin_character a ≡ Some Two
begins_three a h k = grind (arith, nat_tests)

pub continues_one : (b : ℕ) → IsContinuation b → go_on One b ≡ Some Nothing
continues_one b h = grind (arith, nat_tests)

pub continues_two : (b : ℕ) → IsContinuation b → go_on Two b ≡ Some One
continues_two b h = grind (arith, nat_tests)

pub continues_high : (b : ℕ) → 160 ≤ b → b ≤ 191 → go_on High b ≡ Some One
continues_high b h k = grind (arith, nat_tests)

-- a character is read to its end
pub character_read : (c : List ℕ) → IsCharacter c → reached go_on Nothing c ≡ Some Nothing
character_read [] h = absurd h
character_read (a ∷ []) h = rw (begins_alone a h.0 h.1) refl
character_read (a ∷ b ∷ []) h =
    elim h [
      | inl k ↦ rw (k.0, k.1) refl
      | inr k ↦ rw (begins_two a k.0 k.1) (rw (continues_one b k.2) refl)
    ]
character_read (a ∷ b ∷ c ∷ []) h =
    elim (eqb_tells a 224) [
      | inl k ↦ rw k.1 (rw (continues_high b (h.2 k.1) h.3.1) (rw (continues_one c h.4) refl))
      | inr k ↦ rw (begins_three a (omega (arith, h.0, k.1)) h.1) (rw (continues_two b h.3) (rw (continues_one c h.4) refl))
    ]
character_read (a ∷ b ∷ c ∷ d ∷ more) h = absurd h

all_read : (cs : List (List ℕ)) → AllByRecursion IsCharacter cs → reached go_on Nothing (flat_map (λ c. c) cs) ≡ Some Nothing
all_read [] h = refl
all_read (c ∷ cs) h = reached-then go_on Nothing Nothing c (flat_map (λ x. x) cs) (character_read c h.0) ∙ all_read cs h.1

-- BACKWARD

-- the bytes that a state still wants
abbrev pub Completes : Left → List ℕ → Type 0
Completes Nothing c = c ≡ []
Completes Zero c = c ≡ 0x80 ∷ []
Completes One c = (y : ℕ) × IsContinuation y × (c ≡ y ∷ [])
Completes Two c = (y : ℕ) × (z : ℕ) × IsContinuation y × IsContinuation z × (c ≡ y ∷ z ∷ [])
Completes High c = (y : ℕ) × (z : ℕ) × (0xa0 ≤ y) × IsContinuation y × IsContinuation z × (c ≡ y ∷ z ∷ [])

begun_alone : (b : ℕ) → begin_character b ≡ Some Nothing → (1 ≤ b) × (b ≤ 127)
begun_alone b h = grind (arith, nat_tests)

begun_zero : (b : ℕ) → begin_character b ≡ Some Zero → b ≡ 0xc0
begun_zero b h = grind (arith, nat_tests)

begun_one : (b : ℕ) → begin_character b ≡ Some One → (194 ≤ b) × (b ≤ 223)
begun_one b h = grind (arith, nat_tests)

begun_two : (b : ℕ) → begin_character b ≡ Some Two → (225 ≤ b) × (b ≤ 239)
begun_two b h = grind (arith, nat_tests)

begun_high : (b : ℕ) → begin_character b ≡ Some High → b ≡ 224
begun_high b h = grind (arith, nat_tests)

-- a first byte, and what it wants, are a character
pub begun : (b : ℕ) (t : Left) (c : List ℕ) → begin_character b ≡ Some t → Completes t c → IsCharacter (b ∷ c)
begun b Nothing c e h = rw h (begun_alone b e)
begun b Zero c e h = rw h (inl (begun_zero b e, refl))
begun b One c e h = let k = begun_one b e in rw h.2 (inr (k.0, k.1, h.1))
begun b Two c e h = let k = begun_two b e in rw h.4 (omega (arith, k), k.1, λ i. absurd (omega (arith, k, i)), h.2, h.3)
begun b High c e h = let k = begun_high b e in rw h.5 (omega (arith, k), omega (arith, k), λ i. h.2, h.3, h.4)

went_zero : (b : ℕ) (t : Left) → go_on Zero b ≡ Some t → (b ≡ 128) × (t ≡ Nothing)
went_zero b t h = grind (arith, nat_tests)

went_one : (b : ℕ) (t : Left) → go_on One b ≡ Some t → IsContinuation b × (t ≡ Nothing)
went_one b t h = grind (arith, nat_tests)

went_two : (b : ℕ) (t : Left) → go_on Two b ≡ Some t → IsContinuation b × (t ≡ One)
went_two b t h = grind (arith, nat_tests)

went_high : (b : ℕ) (t : Left) → go_on High b ≡ Some t → (0xa0 ≤ b) × IsContinuation b × (t ≡ One)
went_high b t h = grind (arith, nat_tests)

-- what a state wants, from the next byte on; a state within a character
pub went : (l t : Left) (b : ℕ) (c : List ℕ) → (l ≡ Nothing → ⊥) → go_on l b ≡ Some t → Completes t c → Completes l (b ∷ c)
went Nothing t b c n e h = absurd (n refl)
went Zero t b c n e h = let k = went_zero b t e in let d = subst (λ u. Completes u c) k.1 h in rw (k.0, d) refl
went One t b c n e h = let k = went_one b t e in let d = subst (λ u. Completes u c) k.1 h in (b, k.0, ap (λ x. b ∷ x) d)
went Two t b c n e h = let k = went_two b t e in let d = subst (λ u. Completes u c) k.1 h in (b, d.0, k.0, d.1, ap (λ x. b ∷ x) d.2)
went High t b c n e h = let k = went_high b t e in let d = subst (λ u. Completes u c) k.2 h in (b, d.0, k.0, k.1, d.1, ap (λ x. b ∷ x) d.2)

-- the text is what a state wants, and then one of a kind
abbrev pub Cuts : Left → (List ℕ → Type 0) → List ℕ → Type 0
Cuts l K bytes = (c : List ℕ) × (rest : List ℕ) × Completes l c × (bytes ≡ c ++ rest) × K rest

pub one_more : (K : List ℕ → Type 0) (l t : Left) (b : ℕ) (bytes : List ℕ) → (l ≡ Nothing → ⊥) → go_on l b ≡ Some t → Cuts t K bytes → Cuts l K (b ∷ bytes)
one_more K l t b bytes n e h = (b ∷ h.0, h.1, went l t b h.0 n e h.2, ap (λ x. b ∷ x) h.3, h.4)

pub utf8-cons : (c bytes : List ℕ) → IsCharacter c → IsModifiedUtf8 bytes → IsModifiedUtf8 (c ++ bytes)
utf8-cons c bytes h k = (c ∷ k.0, (h, k.1), ap (λ x. c ++ x) k.2)

utf8_found : (bytes : List ℕ) (l : Left) → reached go_on l bytes ≡ Some Nothing → Cuts l IsModifiedUtf8 bytes
utf8_found [] l h = let e : l ≡ Nothing = cc in rw e ([], [], refl, refl, ([], tt, refl))
utf8_found (b ∷ bytes) l h = let s = stepped go_on l Nothing b bytes h in by_left l s.0 s.1 (utf8_found bytes s.0 s.2)
  where
    by_left : (l t : Left) → go_on l b ≡ Some t → Cuts t IsModifiedUtf8 bytes → Cuts l IsModifiedUtf8 (b ∷ bytes)
    by_left Nothing t e k = ([], b ∷ bytes, refl, refl, rw k.3 (utf8-cons (b ∷ k.0) k.1 (begun b t k.0 e k.2) k.4))
    by_left Zero t e k = one_more IsModifiedUtf8 Zero t b bytes (λ x. cc) e k
    by_left One t e k = one_more IsModifiedUtf8 One t b bytes (λ x. cc) e k
    by_left Two t e k = one_more IsModifiedUtf8 Two t b bytes (λ x. cc) e k
    by_left High t e k = one_more IsModifiedUtf8 High t b bytes (λ x. cc) e k

nothing_left : (o : Option Left) → is_nothing o ≡ true → o ≡ Some Nothing
nothing_left None h = cc
nothing_left (Some Nothing) h = refl
nothing_left (Some Zero) h = cc
nothing_left (Some One) h = cc
nothing_left (Some Two) h = cc
nothing_left (Some High) h = cc

-- the test holds exactly of modified UTF-8
pub is_modified_utf8-Decides : (bytes : List ℕ) → Decides (is_modified_utf8 bytes) (IsModifiedUtf8 bytes)
is_modified_utf8-Decides bytes = (
  λ h. let k = utf8_found bytes Nothing (nothing_left (reached go_on Nothing bytes) h) in rw (k.3, k.2) k.4,
  λ h. rw h.2 (rw (all_read h.0 h.1) refl),
)

use Rattle.std.proofs.Common.{cond, nat_eq, ◌≡◌, ◌≢◌, ℕ, inl, inr, Bool, true, false, List, [], ◌∷◌, ◌++◌, Option, Some, None, Decides, refl, sym, subst, ◌∙◌, ap, arith, append_assoc}
use Rattle.std.proofs.lemmas.Bool.Decides.{nat_tests, eqb_tells}
use Rattle.std.specs.Prelude.{option_map}
use Rattle.std.specs.List.{flat_map, AllByRecursion}
use Rattle.class_form.specs.Utf8.{IsContinuation, IsCharacter, IsModifiedUtf8}
use Rattle.class_form.specs.Names.{IsPlainByte, IsUnqualifiedName, IsClassName}
use Rattle.class_form.specs.NameTests.{reached, Left, Nothing, Zero, One, Two, High, begin_character, go_on, is_plain, InName, Fresh, Begun, begin_plain, go_on_name, is_whole, is_whole_name, is_class_name}
use Rattle.class_form.proofs.Steps.{reached-then, stepped}
use Rattle.class_form.proofs.Characters.{Cuts, Completes, begun, begins_alone, begins_two, begins_three, continues_one, continues_two, continues_high, one_more, utf8-cons}

pub all-append : {X : Type 0} (P : X → Type 0) (xs ys : List X) → AllByRecursion P xs → AllByRecursion P ys → AllByRecursion P (xs ++ ys)
all-append P [] ys h k = k
all-append P (x ∷ xs) ys h k = (h.0, all-append P xs ys h.1 k)

pub all-parts : {X : Type 0} (P : X → Type 0) (xs ys : List X) → AllByRecursion P (xs ++ ys) → AllByRecursion P xs × AllByRecursion P ys
all-parts P [] ys h = (tt, h)
all-parts P (x ∷ xs) ys h = let k = all-parts P xs ys h.1 in ((h.0, k.0), k.1)

is_plain-true : (b : ℕ) → IsPlainByte b → is_plain b ≡ true
is_plain-true b h = grind (arith, nat_tests)

plain_from_test : (b : ℕ) → is_plain b ≡ true → IsPlainByte b
plain_from_test b h = grind (arith, nat_tests)

plain_begins : (b : ℕ) (t : Left) → IsPlainByte b → begin_character b ≡ Some t → begin_plain b ≡ Some (Begun t)
plain_begins b t h e = rw (is_plain-true b h, e) refl

plain_goes_on : (b : ℕ) (t : Left) → IsPlainByte b → begin_character b ≡ Some t → go_on_name (Begun Nothing) b ≡ Some (Begun t)
plain_goes_on b t h e = let k : nat_eq b 47 ≡ false = grind (arith, nat_tests) in subst (λ x. cond x (Some Fresh) (begin_plain b) ≡ Some (Begun t)) (sym k) (plain_begins b t h e)

-- a character of a part is read to its end
character_in_name : (s : InName) (c : List ℕ) → ((b : ℕ) (t : Left) → IsPlainByte b → begin_character b ≡ Some t → go_on_name s b ≡ Some (Begun t))
    → IsCharacter c → AllByRecursion IsPlainByte c → reached go_on_name s c ≡ Some (Begun Nothing)
character_in_name s [] go h p = absurd h
character_in_name s (a ∷ []) go h p = rw (go a Nothing p.0 (begins_alone a h.0 h.1)) refl
character_in_name s (a ∷ b ∷ []) go h p =
    elim h [
      | inl k ↦ rw (go a Zero p.0 (rw k.0 refl), k.1) refl
      | inr k ↦ rw (go a One p.0 (begins_two a k.0 k.1)) (rw (continues_one b k.2) refl)
    ]
character_in_name s (a ∷ b ∷ c ∷ []) go h p =
    elim (eqb_tells a 224) [
      | inl k ↦ rw (go a High p.0 (rw k.1 refl)) (rw (continues_high b (h.2 k.1) h.3.1) (rw (continues_one c h.4) refl))
      | inr k ↦ rw (go a Two p.0 (begins_three a (omega (arith, h.0, k.1)) h.1)) (rw (continues_two b h.3) (rw (continues_one c h.4) refl))
    ]
character_in_name s (a ∷ b ∷ c ∷ d ∷ more) go h p = absurd h

rest_of_part : (cs : List (List ℕ)) → AllByRecursion IsCharacter cs → AllByRecursion IsPlainByte (flat_map (λ c. c) cs)
    → reached go_on_name (Begun Nothing) (flat_map (λ c. c) cs) ≡ Some (Begun Nothing)
rest_of_part [] h p = refl
rest_of_part (c ∷ cs) h p =
    let q = all-parts IsPlainByte c (flat_map (λ x. x) cs) p in
    reached-then go_on_name (Begun Nothing) (Begun Nothing) c (flat_map (λ x. x) cs) (character_in_name (Begun Nothing) c plain_goes_on h.0 q.0) ∙ rest_of_part cs h.1 q.1

part_read : (part : List ℕ) → IsUnqualifiedName part → reached go_on_name Fresh part ≡ Some (Begun Nothing)
part_read part h = subst (λ x. reached go_on_name Fresh x ≡ Some (Begun Nothing)) (sym h.0.2) (by_characters h.0.0 h.0.1 (λ e. h.1 (h.0.2 ∙ e)) (subst (λ x. AllByRecursion IsPlainByte x) h.0.2 h.2))
  where
    by_characters : (cs : List (List ℕ)) → AllByRecursion IsCharacter cs → (flat_map (λ c. c) cs ≢ []) → AllByRecursion IsPlainByte (flat_map (λ c. c) cs) → reached go_on_name Fresh (flat_map (λ c. c) cs) ≡ Some (Begun Nothing)
    by_characters [] g n p = absurd (n refl)
    by_characters (c ∷ cs) g n p =
        let q = all-parts IsPlainByte c (flat_map (λ x. x) cs) p in
        reached-then go_on_name Fresh (Begun Nothing) c (flat_map (λ x. x) cs) (character_in_name Fresh c plain_begins g.0 q.0) ∙ rest_of_part cs g.1 q.1

abbrev pub joined : List (List ℕ) → List ℕ
joined parts = flat_map (λ part. 47 ∷ part) parts

joined_read : (parts : List (List ℕ)) → AllByRecursion IsUnqualifiedName parts → reached go_on_name (Begun Nothing) (joined parts) ≡ Some (Begun Nothing)
joined_read [] h = refl
joined_read (p ∷ ps) h = reached-then go_on_name Fresh (Begun Nothing) p (joined ps) (part_read p h.0) ∙ joined_read ps h.1

-- a class name is read to its end
pub name_read : (bytes : List ℕ) → IsClassName bytes → reached go_on_name Fresh bytes ≡ Some (Begun Nothing)
name_read bytes h =
    rw h.4 (reached-then go_on_name Fresh (Begun Nothing) h.0 (joined h.1) (part_read h.0 h.2) ∙ joined_read h.1 h.3)

-- BACKWARD

-- what may follow a whole character within a class name, up to its end
abbrev pub Tail : List ℕ → Type 0
Tail bytes = (part : List ℕ) × (others : List (List ℕ)) × IsModifiedUtf8 part × AllByRecursion IsPlainByte part × AllByRecursion IsUnqualifiedName others × (bytes ≡ part ++ joined others)

-- what may follow, from a state on
abbrev pub NameRest : InName → List ℕ → Type 0
NameRest Fresh bytes = IsClassName bytes
NameRest (Begun l) bytes = Cuts l Tail bytes

continuation_plain : (b : ℕ) → IsContinuation b → IsPlainByte b
continuation_plain b h = (λ e. omega (arith, h, e), λ e. omega (arith, h, e), λ e. omega (arith, h, e), λ e. omega (arith, h, e))

completes_plain : (l : Left) (c : List ℕ) → Completes l c → AllByRecursion IsPlainByte c
completes_plain Nothing c h = rw h tt
completes_plain Zero c h = rw h (continuation_plain 128 (omega arith, omega arith), tt)
completes_plain One c h = rw h.2 (continuation_plain h.0 h.1, tt)
completes_plain Two c h = rw h.4 (continuation_plain h.0 h.2, (continuation_plain h.1 h.3, tt))
completes_plain High c h = rw h.5 (continuation_plain h.0 h.3, (continuation_plain h.1 h.4, tt))

-- a plain character begins
began : (b : ℕ) (s : InName) → begin_plain b ≡ Some s → (t : Left) × IsPlainByte b × (begin_character b ≡ Some t) × (s ≡ Begun t)
began b s h = by_test (is_plain b) refl h
  where
    by_character : (o : Option Left) → begin_character b ≡ o → IsPlainByte b → option_map Begun o ≡ Some s → (t : Left) × IsPlainByte b × (begin_character b ≡ Some t) × (s ≡ Begun t)
    by_character None e p k = cc
    by_character (Some t) e p k = (t, p, e, cc)

    by_test : (x : Bool) → is_plain b ≡ x → cond x (option_map Begun (begin_character b)) None ≡ Some s → (t : Left) × IsPlainByte b × (begin_character b ≡ Some t) × (s ≡ Begun t)
    by_test true e k = by_character (begin_character b) refl (plain_from_test b e) k
    by_test false e k = cc

-- one more plain character in front
fuller : (b : ℕ) (t : Left) (bytes : List ℕ) → IsPlainByte b → begin_character b ≡ Some t → Cuts t Tail bytes → IsClassName (b ∷ bytes) × Tail (b ∷ bytes)
fuller b t bytes p e h =
    let utf8 : IsModifiedUtf8 ((b ∷ h.0) ++ h.4.0) = utf8-cons (b ∷ h.0) h.4.0 (begun b t h.0 e h.2) h.4.2 in
    let plain : AllByRecursion IsPlainByte ((b ∷ h.0) ++ h.4.0) = (p, all-append IsPlainByte h.0 h.4.0 (completes_plain t h.0 h.2) h.4.3) in
    let is : (b ∷ bytes) ≡ ((b ∷ h.0) ++ h.4.0) ++ joined h.4.1 = ap (λ x. b ∷ x) (h.3 ∙ ap (λ x. h.0 ++ x) h.4.5 ∙ sym (append_assoc h.0 h.4.0 (joined h.4.1))) in (
      ((b ∷ h.0) ++ h.4.0, h.4.1, (utf8, λ k. cc, plain), h.4.4, is),
      ((b ∷ h.0) ++ h.4.0, h.4.1, utf8, plain, h.4.4, is),
    )

slashed : (bytes : List ℕ) → IsClassName bytes → Tail (47 ∷ bytes)
slashed bytes h = ([], h.0 ∷ h.1, ([], tt, refl), tt, (h.2, h.3), ap (λ x. 47 ∷ x) h.4)

name_found : (bytes : List ℕ) (s : InName) → reached go_on_name s bytes ≡ Some (Begun Nothing) → NameRest s bytes
name_found [] s h = let e : s ≡ Begun Nothing = cc in rw e ([], [], refl, refl, ([], [], ([], tt, refl), tt, tt, refl))
name_found (b ∷ bytes) s h = let k = stepped go_on_name s (Begun Nothing) b bytes h in by_state s k.0 k.1 (name_found bytes k.0 k.2)
  where
    by_begin : (u : InName) → begin_plain b ≡ Some u → NameRest u bytes → IsClassName (b ∷ bytes) × Tail (b ∷ bytes)
    by_begin u e r = let k = began b u e in let r' : NameRest (Begun k.0) bytes = subst (λ x. NameRest x bytes) k.3 r in fuller b k.0 bytes k.1 k.2 r'

    by_slash : (x : Bool) (u : InName) → nat_eq b 47 ≡ x → cond x (Some Fresh) (begin_plain b) ≡ Some u → NameRest u bytes → Tail (b ∷ bytes)
    by_slash true u t e r = let i : b ≡ 47 = grind (arith, nat_tests) in let v : u ≡ Fresh = cc in let r' : IsClassName bytes = subst (λ x. NameRest x bytes) v r in rw i (slashed bytes r')
    by_slash false u t e r = (by_begin u e r).1

    by_left : (l : Left) (u : InName) (o : Option Left) → (l ≡ Nothing → ⊥) → go_on l b ≡ o → option_map Begun o ≡ Some u → NameRest u bytes → Cuts l Tail (b ∷ bytes)
    by_left l u None n e m r = cc
    by_left l u (Some t) n e m r = let v : u ≡ Begun t = cc in let r' : Cuts t Tail bytes = subst (λ x. NameRest x bytes) v r in one_more Tail l t b bytes n e r'

    by_state : (s u : InName) → go_on_name s b ≡ Some u → NameRest u bytes → NameRest s (b ∷ bytes)
    by_state Fresh u e r = (by_begin u e r).0
    by_state (Begun Nothing) u e r = ([], b ∷ bytes, refl, refl, by_slash (nat_eq b 47) u refl e r)
    by_state (Begun Zero) u e r = by_left Zero u (go_on Zero b) (λ x. cc) refl e r
    by_state (Begun One) u e r = by_left One u (go_on One b) (λ x. cc) refl e r
    by_state (Begun Two) u e r = by_left Two u (go_on Two b) (λ x. cc) refl e r
    by_state (Begun High) u e r = by_left High u (go_on High b) (λ x. cc) refl e r

-- what is read to its end is a class name
pub name_is : (bytes : List ℕ) → reached go_on_name Fresh bytes ≡ Some (Begun Nothing) → IsClassName bytes
name_is bytes h = name_found bytes Fresh h

pub whole_is : (s : InName) → is_whole s ≡ true → s ≡ Begun Nothing
whole_is Fresh h = cc
whole_is (Begun Nothing) h = refl
whole_is (Begun Zero) h = cc
whole_is (Begun One) h = cc
whole_is (Begun Two) h = cc
whole_is (Begun High) h = cc

whole_name_is : (o : Option InName) → is_whole_name o ≡ true → o ≡ Some (Begun Nothing)
whole_name_is None h = cc
whole_name_is (Some s) h = ap (λ x. Some x) (whole_is s h)

-- the test holds exactly of class names
pub is_class_name-Decides : (bytes : List ℕ) → Decides (is_class_name bytes) (IsClassName bytes)
is_class_name-Decides bytes = (λ h. name_is bytes (whole_name_is (reached go_on_name Fresh bytes) h), λ h. rw (name_read bytes h) refl)

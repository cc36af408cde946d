-- A constant pool is found as it is spelled.
use Rattle.std.proofs.Common.{◌≡◌, ◌⊎◌, inl, inr, ℕ, suc, ◌+◌, ◌-◌, ◌^◌, ◌<◌, Bool, true, false, List, [], ◌∷◌, ◌++◌, length, refl, sym, ap, subst, ◌∙◌, length-append, arith}
use Rattle.std.proofs.Common.{eqb}
use Rattle.std.specs.Bool.{Decides}
use Rattle.std.proofs.lemmas.Bool.Decides.{Decides-eqb}
use Rattle.class_form.specs.PoolReading.{ends_wide}
use Rattle.class_form.proofs.PoolTests.{ends_wide-Decides, ends_wide-push, is_wide-Decides}
use Rattle.std.specs.List.{flat_map, AllByRecursion}
use Rattle.std.proofs.lemmas.List.{append-nil}
use Rattle.byteorder.specs.Endian.{big_bytes}
use Rattle.byte_form.specs.Places.{State}
use Rattle.byte_form.specs.Forms.{Fault, Broken, made, followed, either}
use Rattle.byte_form.proofs.Outcomes.{same_state}
use Rattle.byte_form.proofs.Agree.{Agrees, Any, Chain, number_agree, bytes_agree, field, field_given, done, reknown, anywhere, ruled, chosen, restated, list_agree}
use Rattle.class_form.specs.Spelling.{tag_of, spell_info, spell_constant, spell_pool}
use Rattle.class_form.specs.Utf8.{IsModifiedUtf8}
use Rattle.class_form.specs.PoolRules.{IsTag, IsOfVersion, IsInfo, IsWide, IsSecond, AreIndices, HasKinds, HasTexts, IsPool}
use Rattle.class_form.specs.PoolFaults.{info, text, constant, index, links, pool, EndsWide}
use Rattle.class_form.specs.declared.pool.Pool.{Pool}
use Rattle.class_form.specs.declared.pool.Constant.{Constant}
use Rattle.class_form.specs.declared.pool.Constant.TheVariants.{Utf8, Long, Double, Handle, MethodType, Dynamic, Second}

-- ---- a constant

abbrev HasTag : ℕ → Constant → Type 0
HasTag tag c = tag_of c ≡ tag

info_agree : (tag : ℕ) (K : Constant → Type 0) → ((c : Constant) → tag_of c ≡ tag → K c) → ((c : Constant) → K c → tag_of c ≡ tag) → Agrees K IsInfo spell_info (info tag)
unfolding info
info_agree tag K known tagged = record {
  found = λ s t c h. (h.2, h.1, known c h.0);
  again = λ s t c h good k. (tagged c k, good, h);
}

is_utf : (c : Constant) → tag_of c ≡ 1 → (content : List ℕ) × (c ≡ Utf8 content)
is_utf (Utf8 content) e = (content, refl)
is_utf c e = absurd (omega (arith, e))

abbrev content_of : Constant → List ℕ
content_of (Utf8 content) = content
content_of c = []

abbrev Given : Constant → Type 0
Given c = (length (content_of c) < 256 ^ 2) × (Any (content_of c) × (IsModifiedUtf8 (content_of c) × Any c))

-- a text
text_agree : (at : ℕ) → Agrees (λ c. (content : List ℕ) × (c ≡ Utf8 content)) IsInfo spell_info (text at)
unfolding text
text_agree at = restated IsInfo spell_info same to from
    (field (λ c. length (content_of c)) _ (number_agree 2) (λ len lt. field_given content_of Any _ (bytes_agree len) (λ c k f. tt) (λ c k f. k.0) (λ content long.
    ruled (λ c. IsModifiedUtf8 (content_of c)) (Broken 2 at) _ (λ c k good. subst IsModifiedUtf8 (sym k.0) good) (λ c k good. subst IsModifiedUtf8 k.0 good) (λ good.
    done (Utf8 content) (refl, (long, (content, refl))) (λ c k. k.1.1.1 ∙ ap Utf8 (ap content_of (sym k.1.1.1) ∙ k.0))))))
  where
    same : (c : Constant) → (content : List ℕ) × (c ≡ Utf8 content) → Given c → spell_info c ≡ big_bytes 2 (length (content_of c)) ++ (content_of c ++ [])
    same (Utf8 content) k f = ap (λ (r : List ℕ). big_bytes 2 (length content) ++ r) (sym (append-nil content))
    same c k f = absurd (let e = k.1 in cc)

    to : (c : Constant) → (content : List ℕ) × (c ≡ Utf8 content) → Given c → IsInfo c
    to (Utf8 content) k f = (f.0, f.1.1.0)
    to c k f = absurd (let e = k.1 in cc)

    from : (c : Constant) → (content : List ℕ) × (c ≡ Utf8 content) → IsInfo c → Given c
    from (Utf8 content) k f = (f.0, (tt, (f.1, tt)))
    from c k f = absurd (let e = k.1 in cc)

-- by its tag
abbrev pub Known : ℕ → ℕ → Constant → Type 0
Known major left c = (tag_of c < 256 ^ 1) × (IsTag major (tag_of c) × (((tag_of c ≡ 5) ⊎ (tag_of c ≡ 6) → 0 < left) × IsInfo c))

spelled : (major : ℕ) (c : Constant) → IsTag major (tag_of c) → spell_constant c ≡ big_bytes 1 (tag_of c) ++ spell_info c
spelled major Second good = absurd (elim good [ inl k ↦ absurd (omega (arith, k)) | inr k ↦ elim k [ inl m ↦ absurd (omega arith) | inr m ↦ elim m.0 [ inl n ↦ absurd (omega (arith, n)) | inr n ↦ elim n [ inl o ↦ absurd (omega (arith, o)) | inr o ↦ absurd (omega (arith, o)) ] ] ] ])
spelled major c good = refl

info_or_text : (tag at : ℕ) → Agrees (λ c. (tag_of c ≡ tag) × Any c) IsInfo spell_info (either (tag ≡ 1) (text at) (info tag))
info_or_text tag at = restated IsInfo spell_info (λ c k f. refl) (λ c k f. elim f [ inl h ↦ h.1 | inr h ↦ h.1 ]) (λ c k f. by (eqb tag 1) (Decides-eqb tag 1) c f)
    (chosen {F0 = IsInfo} {F1 = IsInfo} (λ yes. reknown (λ c k. (ap tag_of k.1 ∙ sym yes, tt)) (λ c k. is_utf c (k.0 ∙ yes)) (text_agree at)) (λ no. info_agree tag (λ c. (tag_of c ≡ tag) × Any c) (λ c e. (e, tt)) (λ c k. k.0)))
  where
    by : (b : Bool) → Decides b (tag ≡ 1) → (c : Constant) → IsInfo c → ((tag ≡ 1) × IsInfo c) ⊎ ((tag ≡ 1 → ⊥) × IsInfo c)
    by true d c f = inl (d.0 refl, f)
    by false d c f = inr (λ h. absurd (let e = d.1 h in cc), f)

constant_agree : (major left : ℕ) → Agrees Any (Known major left) spell_constant (constant major left)
unfolding constant
constant_agree major left = restated (Known major left) spell_constant (λ c k f. spelled major c f.1.0) (λ c k f. f) (λ c k f. f)
    (anywhere _ (λ at. field tag_of _ (number_agree 1) (λ tag lt.
    ruled (λ c. IsTag major (tag_of c)) (Broken 1 at) _ (λ c k good. subst (IsTag major) (sym k.0) good) (λ c k good. subst (IsTag major) k.0 good) (λ good.
    ruled (λ c. (tag_of c ≡ 5) ⊎ (tag_of c ≡ 6) → 0 < left) (Broken 3 at) _ (λ c k room. subst (λ n. (n ≡ 5) ⊎ (n ≡ 6) → 0 < left) (sym k.0) room) (λ c k room. subst (λ n. (n ≡ 5) ⊎ (n ≡ 6) → 0 < left) k.0 room) (λ room.
    info_or_text tag at)))))

-- ---- what stands at the indices

abbrev pub IsNext : ℕ → ℕ → List Constant → Constant → Type 0
IsNext major count before c = (EndsWide before × (c ≡ Second)) ⊎ ((EndsWide before → ⊥) × Known major (count - suc (length before)) c)

second_agree : Agrees {F = Fault} Any (λ c. c ≡ Second) spell_constant (made Second)
unfolding made
second_agree = record {
  found = λ s t c h. (record { parts = ap (λ (u : State). u.rest) (sym h.1) ∙ ap (λ (d : Constant). spell_constant d ++ t.rest) (sym h.0); moved = omega (arith, ap (λ (u : State). u.at) h.1, ap (λ (d : Constant). length (spell_constant d)) h.0) }, h.0, tt);
  again = λ s t c h good k. (good, same_state t s (omega (arith, h.moved, ap (λ (d : Constant). length (spell_constant d)) good)) (sym (h.parts ∙ ap (λ (d : Constant). spell_constant d ++ t.rest) good)));
}

pub index_agree : (major count : ℕ) (before : List Constant) → Agrees Any (IsNext major count before) spell_constant (index major count before)
unfolding index
index_agree major count before = chosen (λ wide. second_agree) (λ narrow. constant_agree major (count - suc (length before)))

push_wide : (before : List Constant) (c : Constant) → (EndsWide (before ++ c ∷ []) → IsWide c) × (IsWide c → EndsWide (before ++ c ∷ []))
push_wide before c =
    let d = ends_wide-Decides (before ++ c ∷ []) in
    let e = ends_wide-push before c in
    (λ h. (is_wide-Decides c).0 (sym e ∙ d.1 h), λ h. (before, c, refl, h))

of_version : (major : ℕ) (c : Constant) → IsTag major (tag_of c) → IsOfVersion major c
of_version major (Handle kind i) good = elim good [ inl k ↦ absurd (omega (arith, k)) | inr k ↦ elim k [ inl m ↦ absurd (omega arith) | inr m ↦ m.1 ] ]
of_version major (MethodType d) good = elim good [ inl k ↦ absurd (omega (arith, k)) | inr k ↦ elim k [ inl m ↦ absurd (omega arith) | inr m ↦ m.1 ] ]
of_version major (Dynamic b n) good = elim good [ inl k ↦ absurd (omega (arith, k)) | inr k ↦ elim k [ inl m ↦ absurd (omega arith) | inr m ↦ m.1 ] ]
of_version major c good = tt

has_tag : (major : ℕ) (c : Constant) → (IsSecond c → ⊥) → IsOfVersion major c → IsTag major (tag_of c)
has_tag major (Utf8 t) plain v = inl refl
has_tag major (Handle kind i) plain v = inr (inr (inl refl, v))
has_tag major (MethodType d) plain v = inr (inr (inr (inl refl), v))
has_tag major (Dynamic b n) plain v = inr (inr (inr (inr refl), v))
has_tag major Second plain v = absurd (plain tt)
has_tag major c plain v = inr (inl (omega arith, omega arith))

below_tag : (c : Constant) → tag_of c < 256 ^ 1
below_tag Second = omega arith
below_tag c = omega arith

wide_tag : (c : Constant) → IsWide c → (tag_of c ≡ 5) ⊎ (tag_of c ≡ 6)
wide_tag (Long n) w = inl refl
wide_tag (Double n) w = inr refl
wide_tag c w = absurd w

tag_wide : (c : Constant) → (tag_of c ≡ 5) ⊎ (tag_of c ≡ 6) → IsWide c
tag_wide (Long n) h = tt
tag_wide (Double n) h = tt
tag_wide c h = elim h [ inl k ↦ absurd (omega (arith, k)) | inr k ↦ absurd (omega (arith, k)) ]

second_is : (c : Constant) → IsSecond c → c ≡ Second
second_is Second h = refl
second_is c h = absurd h

second_tag : (major : ℕ) (c : Constant) → IsSecond c → IsTag major (tag_of c) → ⊥
second_tag major c h good = let e : tag_of c ≡ 0 = ap tag_of (second_is c h) in elim good [ inl k ↦ absurd (omega (arith, k, e)) | inr k ↦ elim k [ inl m ↦ absurd (omega (arith, e)) | inr m ↦ elim m.0 [ inl n ↦ absurd (omega (arith, n, e)) | inr n ↦ elim n [ inl o ↦ absurd (omega (arith, o, e)) | inr o ↦ absurd (omega (arith, o, e)) ] ] ] ]

abbrev Sound : ℕ → Type 0 → List Constant → Type 0
Sound major W cs = AllByRecursion (IsOfVersion major) cs × AllByRecursion IsInfo cs × AreIndices W cs

-- the constants from a place on, where those before are told by whether they end in a wide one
chain_sound : (major count : ℕ) (cs before : List Constant) (W : Type 0) → (W → EndsWide before) → (EndsWide before → W) → (length cs ≡ 0 → W → ⊥) → count ≡ length before + length cs → Chain (IsNext major count) before cs → Sound major W cs
chain_sound major count [] before W to from end len h = (tt, tt, end refl)
chain_sound major count (c ∷ cs) before W to from end len h =
    let p = push_wide before c in
    let len' : count ≡ length (before ++ c ∷ []) + length cs = omega (arith, len, length-append before (c ∷ [])) in
    elim h.0 [
      | inl k ↦
          let second : IsSecond c = subst IsSecond (sym k.1) tt in
          let r = chain_sound major count cs (before ++ c ∷ []) (IsWide c) p.1 p.0 (λ e w. subst IsWide k.1 w) len' h.1 in
          ((subst (IsOfVersion major) (sym k.1) tt, r.0), (subst IsInfo (sym k.1) tt, r.1), (λ _. second, λ _. from k.0, r.2))
      | inr k ↦
          let none : length cs ≡ 0 → IsWide c → ⊥ = λ e w. let lt : 0 < count - suc (length before) = k.1.1.1.0 (wide_tag c w) in absurd (omega (arith, lt, len, e)) in
          let r = chain_sound major count cs (before ++ c ∷ []) (IsWide c) p.1 p.0 none len' h.1 in
          ((of_version major c k.1.1.0, r.0), (k.1.1.1.1, r.1), (λ w. absurd (k.0 (to w)), λ s. absurd (second_tag major c s k.1.1.0), r.2))
    ]

not_alone : (c : Constant) (cs : List Constant) → AreIndices (IsWide c) cs → IsWide c → 0 < length cs
not_alone c [] h w = absurd (h w)
not_alone c (d ∷ cs) h w = omega arith

sound_chain : (major count : ℕ) (cs before : List Constant) (W : Type 0) → (W → EndsWide before) → (EndsWide before → W) → count ≡ length before + length cs → Sound major W cs → Chain (IsNext major count) before cs
sound_chain major count [] before W to from len h = tt
sound_chain major count (c ∷ cs) before W to from len h =
    let p = push_wide before c in
    let len' : count ≡ length (before ++ c ∷ []) + length cs = omega (arith, len, length-append before (c ∷ [])) in
    (by (ends_wide before) (ends_wide-Decides before), sound_chain major count cs (before ++ c ∷ []) (IsWide c) p.1 p.0 len' (h.0.1, h.1.1, h.2.2))
  where
    by : (b : Bool) → Decides b (EndsWide before) → IsNext major count before c
    by true d = let w = d.0 refl in inl (w, second_is c (h.2.0 (from w)))
    by false d =
        let narrow : EndsWide before → ⊥ = λ w. absurd (let e = d.1 w in cc) in
        inr (narrow, (below_tag c, (has_tag major c (λ s. narrow (to (h.2.1 s))) h.0.0, (λ w. let lt = not_alone c cs h.2.2 (tag_wide c w) in omega (arith, lt, len), h.1.0))))

-- ---- the pool

abbrev Linked : Pool → List Constant → Type 0
Linked p cs = AllByRecursion (HasKinds p) cs × AllByRecursion (HasTexts p) cs

links_agree : (p : Pool) (at : ℕ) (cs : List Constant) → Agrees Any (λ (u : Unit {0}). Linked p cs) (λ _. []) (links p at cs)
unfolding links
links_agree p at [] = restated (λ u. Linked p []) (λ _. []) (λ u k f. refl) (λ u k f. (tt, tt)) (λ u k f. tt) (done {K = Any} tt tt (λ u k. refl))
links_agree p at (c ∷ cs) = restated (λ u. Linked p (c ∷ cs)) (λ _. []) (λ u k f. refl) (λ u k f. ((f.0, f.1.1.0), (f.1.0, f.1.1.1))) (λ u k f. (f.0.0, (f.1.0, (f.0.1, f.1.1))))
    (ruled (λ _. HasKinds p c) (Broken 4 at) _ (λ u k h. h) (λ u k h. h) (λ kinds. ruled (λ _. HasTexts p c) (Broken 5 at) _ (λ u k h. h) (λ u k h. h) (λ texts. links_agree p (at + length (spell_constant c)) cs)))

abbrev HasCount : ℕ → List Constant → Pool → Type 0
HasCount major cs p = (p.constants ≡ cs) × (p.major ≡ major)

pool_is_made : (p : Pool) (major : ℕ) (cs : List Constant) → p.constants ≡ cs → p.major ≡ major → p ≡ record { constants = cs; major = major }
pool_is_made p major cs e f = rw (← e, ← f) refl

rest_agree : (major first count : ℕ) (cs : List Constant) → suc (length cs) ≡ count
    → Agrees (λ p. (p.constants ≡ cs) × ((suc (length p.constants) ≡ count) × (p.major ≡ major))) (λ p. Linked p p.constants) (λ _. [])
    (followed (links (record { constants = cs; major = major }) first cs) (λ _. made (record { constants = cs; major = major })))
rest_agree major first count cs len =
    let made_pool : Pool = record { constants = cs; major = major } in
    restated (λ p. Linked p p.constants) (λ _. []) (λ p k f. refl)
    (λ p k f. subst (λ (q : Pool). Linked q q.constants) (sym (pool_is_made p major cs k.0 k.1.1)) f.0)
    (λ p k f. (subst (λ (q : Pool). Linked q q.constants) (pool_is_made p major cs k.0 k.1.1) f, tt))
    (field {FA = λ (u : Unit {0}). Linked made_pool cs} {wA = λ _. []} {K = λ p. (p.constants ≡ cs) × ((suc (length p.constants) ≡ count) × (p.major ≡ major))} {FB = Any} {wB = λ _. []} (λ p. tt) _ (links_agree made_pool first cs)
    (λ u f. done made_pool (refl, (refl, (len, refl))) (λ p k. pool_is_made p major cs k.1.0 k.1.1.1)))

none_wide : EndsWide [] → ⊥
none_wide h = absurd (let e = (ends_wide-Decides []).1 h in cc)

abbrev Parts : ℕ → Pool → Type 0
Parts major p = (suc (length p.constants) < 256 ^ 2) × (Unit {0} × (Chain (IsNext major (length p.constants)) [] p.constants × Linked p p.constants))

pub pool_agree : (major : ℕ) → Agrees (λ p. p.major ≡ major) IsPool spell_pool (pool major)
unfolding pool
pool_agree major = restated IsPool spell_pool (λ p k f. ap (λ (r : List ℕ). big_bytes 2 (suc (length p.constants)) ++ r) (sym (append-nil (flat_map spell_constant p.constants)))) to from
    (anywhere _ (λ at. field (λ p. suc (length p.constants)) _ (number_agree 2) (λ count lt.
    ruled (λ _. Unit {0}) (Broken 3 at) _ (λ p k h. tt) (λ p k h. omega (arith, k.0)) (λ pos.
    anywhere _ (λ first. field_given (λ p. p.constants) (λ cs. Chain (IsNext major (length cs)) [] cs) _ (list_agree (index_agree major (count - 1)) (count - 1))
    (λ p k f. subst (λ n. Chain (IsNext major n) [] p.constants) (sym f.0) f.1)
    (λ p k g. let len : length p.constants ≡ count - 1 = omega (arith, k.0) in (len, subst (λ n. Chain (IsNext major n) [] p.constants) len g))
    (λ cs f. rest_agree major first count cs (omega (arith, f.0, pos))))))))
  where
    to : (p : Pool) → p.major ≡ major → Parts major p → IsPool p
    to p k f =
        let s = chain_sound major (length p.constants) p.constants [] ⊥ (λ h. absurd h) none_wide (λ e h. h) (omega arith) f.1.1.0 in
        record { count = f.0; version = subst (λ m. AllByRecursion (IsOfVersion m) p.constants) (sym k) s.0; infos = s.1; indices = s.2; kinds = f.1.1.1.0; texts = f.1.1.1.1 }

    from : (p : Pool) → p.major ≡ major → IsPool p → Parts major p
    from p k h =
        let v = subst (λ m. AllByRecursion (IsOfVersion m) p.constants) k h.version in
        (h.count, (tt, (sound_chain major (length p.constants) p.constants [] ⊥ (λ e. absurd e) none_wide (omega arith) (v, h.infos, h.indices), (h.kinds, h.texts))))

-- Forms and spellings that agree: what is found was spelled so, and what is spelled so is found.
use Rattle.std.proofs.Common.{◌≡◌, ◌⊎◌, inl, inr, ℕ, zero, suc, ◌+◌, ◌^◌, ◌<◌, Bool, true, false, cond, eqb, List, [], ◌∷◌, ◌++◌, length, Ok, Err, refl, sym, ap, subst, ◌∙◌, append_assoc, length-append, arith}
use Rattle.std.specs.List.{flat_map}
use Rattle.std.proofs.lemmas.Bool.{eqb-true}
use Rattle.std.proofs.lemmas.List.{append-nil, nil_from_length}
use Rattle.std.proofs.lemmas.List.Concat.{flat_map-cons}
use Rattle.byteorder.specs.Endian.{big_bytes}
use Rattle.byte_form.specs.Places.{State, Takes}
use Rattle.byte_form.specs.Forms.{Fault, Truncated, Broken, Outcome, Form, number, bytes, here, rule, made, followed, list, either, inside, sealed, after_box}
use Rattle.byte_form.proofs.Outcomes.{Takes-then, same_state}

-- K is what is known beforehand of the value
pub record Agrees {F A : Type 0} (K Fits : A → Type 0) (write : A → List ℕ) (form : Form F A) : Type 0 where
  pub found : (s t : State) (x : A) → form s (Ok (x, t)) → Takes s (write x) t × Fits x × K x
  pub again : (s t : State) (x : A) → Takes s (write x) t → Fits x → K x → form s (Ok (x, t))

abbrev pub Any : {A : Type 0} → A → Type 0
Any x = Unit {0}

pub number_agree : (n : ℕ) → Agrees Any (λ x. x < 256 ^ n) (λ x. big_bytes n x) (number n)
unfolding number
number_agree n = record {
  found = λ s t x h. (h.0, h.1, tt);
  again = λ s t x h good k. (h, good);
}

pub bytes_agree : (n : ℕ) → Agrees Any (λ x. length x ≡ n) (λ x. x) (bytes n)
unfolding bytes
bytes_agree n = record {
  found = λ s t x h. (h.0, h.1, tt);
  again = λ s t x h good k. (h, good);
}

-- a field, and what follows
pub field : {F A B : Type 0} {FA : A → Type 0} {wA : A → List ℕ} {one : Form F A} {K FB : B → Type 0} {wB : B → List ℕ} (of : B → A) (next : A → Form F B)
    → Agrees Any FA wA one → ((a : A) → FA a → Agrees (λ b. (of b ≡ a) × K b) FB wB (next a))
    → Agrees K (λ b. FA (of b) × FB b) (λ b. wA (of b) ++ wB b) (followed one next)
unfolding followed
field {F} {A} {B} {FA} {wA} {one} {K} {FB} {wB} of next p q = record {
  found = λ s t b h. elim h [
    | inl k ↦
        let f = p.found s k.0.1 k.0.0 k.1 in
        let g = (q k.0.0 f.1).found k.0.1 t b k.2 in
        let is : k.0.0 ≡ of b = sym g.2.0 in
        (subst (λ a. Takes s (wA a ++ wB b) t) is (Takes-then s k.0.1 t (wA k.0.0) (wB b) f.0 g.0), (subst FA is f.1, g.1), g.2.1)
    | inr k ↦ absurd (let e = k.2 in cc)
  ];
  again = λ s t b h good known.
      let m : State = record { at = s.at + length (wA (of b)); rest = wB b ++ t.rest } in
      let first : Takes s (wA (of b)) m = record { parts = h.parts ∙ append_assoc (wA (of b)) (wB b) t.rest; moved = refl } in
      let second : Takes m (wB b) t = record { parts = refl; moved = omega (arith, h.moved, length-append (wA (of b)) (wB b)) } in
      inl ((of b, m), p.again s m (of b) first good.0 tt, (q (of b) good.0).again m t b second good.1 (refl, known));
}

-- all fields are read
pub done : {F B : Type 0} {K : B → Type 0} (value : B) → K value → ((b : B) → K b → b ≡ value) → Agrees {F = F} K Any (λ _. []) (made value)
unfolding made
done {F} {B} {K} value known one = record {
  found = λ s t b h. (record { parts = ap (λ (u : State). u.rest) (sym h.1); moved = omega (arith, ap (λ (u : State). u.at) h.1) }, tt, subst K (sym h.0) known);
  again = λ s t b h good k. (one b k, same_state t s (omega (arith, h.moved)) (sym h.parts));
}

-- the offset of the place says nothing of the value
pub anywhere : {F B : Type 0} {K FB : B → Type 0} {w : B → List ℕ} (next : ℕ → Form F B) → ((at : ℕ) → Agrees K FB w (next at)) → Agrees K FB w (followed here next)
unfolding followed here
anywhere {F} {B} {K} {FB} {w} next p = record {
  found = λ s t b h. elim h [
    | inl k ↦ (p k.0.0).found s t b (subst (λ u. next k.0.0 u (Ok (b, t))) k.1.1 k.2)
    | inr k ↦ absurd k.1
  ];
  again = λ s t b h good known. inl ((s.at, s), (refl, refl), (p s.at).again s t b h good known);
}

-- a rule, which is one on the value
pub ruled : {F B : Type 0} {K FB : B → Type 0} {w : B → List ℕ} {P : Type 0} (Q : B → Type 0) (fault : F) (next : Unit {0} → Form F B)
    → ((b : B) → K b → P → Q b) → ((b : B) → K b → Q b → P) → (P → Agrees K FB w (next tt)) → Agrees K (λ b. Q b × FB b) w (followed (rule P fault) next)
unfolding followed rule
ruled {F} {B} {K} {FB} {w} {P} Q fault next to from p = record {
  found = λ s t b h. elim h [
    | inl k ↦
        let g = (p k.1.0).found s t b (subst (λ u. next k.0.0 u (Ok (b, t))) k.1.1 k.2) in
        (g.0, (to b g.2 k.1.0, g.1), g.2)
    | inr k ↦ absurd (let e = k.2 in cc)
  ];
  again = λ s t b h good known. let holds = from b known good.0 in inl ((tt, s), (holds, refl), (p holds).again s t b h good.1 known);
}

-- one of two, by a fact on the value
pub chosen : {F B : Type 0} {K F0 F1 : B → Type 0} {w : B → List ℕ} {P : Type 0} {one other : Form F B}
    → (P → Agrees K F0 w one) → ((P → ⊥) → Agrees K F1 w other) → Agrees K (λ b. (P × F0 b) ⊎ ((P → ⊥) × F1 b)) w (either P one other)
unfolding either
chosen {F} {B} {K} {F0} {F1} {w} {P} p q = record {
  found = λ s t b h. elim h [
    | inl k ↦ let g = (p k.0).found s t b k.1 in (g.0, inl (k.0, g.1), g.2)
    | inr k ↦ let g = (q k.0).found s t b k.1 in (g.0, inr (k.0, g.1), g.2)
  ];
  again = λ s t b h good known. elim good [
    | inl k ↦ inl (k.0, (p k.0).again s t b h k.1 known)
    | inr k ↦ inr (k.0, (q k.0).again s t b h k.1 known)
  ];
}

-- the same under other words
pub restated : {F B : Type 0} {K FB : B → Type 0} {w : B → List ℕ} {form : Form F B} (G : B → Type 0) (v : B → List ℕ)
    → ((x : B) → K x → FB x → v x ≡ w x) → ((x : B) → K x → FB x → G x) → ((x : B) → K x → G x → FB x) → Agrees K FB w form → Agrees K G v form
restated {w = w} G v same to from p = record {
  found = λ s t x h. let g = p.found s t x h in (subst (λ (text : List ℕ). Takes s text t) (sym (same x g.2 g.1)) g.0, to x g.2 g.1, g.2);
  again = λ s t x h good k. let f = from x k good in p.again s t x (subst (λ (text : List ℕ). Takes s text t) (same x k f) h) f k;
}

-- ---- lists

-- each item, with those before it
abbrev pub Chain : {A : Type 0} → (List A → A → Type 0) → List A → List A → Type 0
Chain P before [] = Unit {0}
Chain P before (x ∷ xs) = P before x × Chain P (before ++ x ∷ []) xs

module _ {A : Type 0} {P : List A → A → Type 0} {w : A → List ℕ} {item : List A → Form Fault A} (p : (before : List A) → Agrees Any (P before) w (item before)) where
  abbrev pub More : ℕ → List A → State → List A → State → Type 0
  More n before s xs t = (more : List A) × (xs ≡ before ++ more) × (length more ≡ n) × Takes s (flat_map w more) t × Chain P before more

  list_found : (n : ℕ) (before : List A) (s t : State) (xs : List A) → list item n before s (Ok (xs, t)) → More n before s xs t
  unfolding list made followed
  list_found zero before s t xs h = ([], h.0 ∙ sym (append-nil before), refl, record { parts = ap (λ (u : State). u.rest) (sym h.1); moved = omega (arith, ap (λ (u : State). u.at) h.1) }, tt)
  list_found (suc n) before s t xs h = elim h [
    | inl k ↦
        let x = k.0.0 in
        let f = (p before).found s k.0.1 x k.1 in
        let g = list_found n (before ++ x ∷ []) k.0.1 t xs k.2 in
        (x ∷ g.0, g.1 ∙ append_assoc before (x ∷ []) g.0, ap suc g.2, rw flat_map-cons (Takes-then s k.0.1 t (w x) (flat_map w g.0) f.0 g.3), (f.1, g.4))
    | inr k ↦ absurd (let e = k.2 in cc)
  ]

  list_again : (more before : List A) (s t : State) → Takes s (flat_map w more) t → Chain P before more → list item (length more) before s (Ok (before ++ more, t))
  unfolding list made followed
  list_again [] before s t h good = (append-nil before, same_state t s (omega (arith, h.moved)) (sym h.parts))
  list_again (x ∷ more) before s t h good =
      let m : State = record { at = s.at + length (w x); rest = flat_map w more ++ t.rest } in
      let cut = flat_map-cons w x more in
      let first : Takes s (w x) m = record { parts = h.parts ∙ ap (λ (y : List ℕ). y ++ t.rest) cut ∙ append_assoc (w x) (flat_map w more) t.rest; moved = refl } in
      let second : Takes m (flat_map w more) t = record { parts = refl; moved = omega (arith, h.moved, ap length cut, length-append (w x) (flat_map w more)) } in
      let rest = list_again more (before ++ x ∷ []) m t second good.1 in
      inl ((x, m), (p before).again s m x first good.0 tt, subst (λ (ys : List A). list item (length more) (before ++ x ∷ []) m (Ok (ys, t))) (append_assoc before (x ∷ []) more) rest)

  pub list_agree : (n : ℕ) → Agrees Any (λ xs. (length xs ≡ n) × Chain P [] xs) (λ xs. flat_map w xs) (list item n [])
  list_agree n = record {
    found = λ s t xs h.
        let g = list_found n [] s t xs h in
        (subst (λ (ys : List A). Takes s (flat_map w ys) t) (sym g.1) g.3, (ap length g.1 ∙ g.2, subst (Chain P []) (sym g.1) g.4), tt);
    again = λ s t xs h good k. subst (λ m. list item m [] s (Ok (xs, t))) good.0 (list_again xs [] s t h good.1);
  }

-- ---- boxes

sealed_ok : {A : Type 0} (fault : Fault) (s t : State) (x : A) (o : Outcome Fault A) → (let r : Outcome Fault A = Ok (x, t) in r) ≡ after_box s (sealed fault o)
    → (end : State) × (o ≡ Ok (x, end)) × (end.rest ≡ []) × (t ≡ s)
sealed_ok {A} fault s t x (Ok y) given = by (eqb (length y.1.rest) 0) refl given
  where
    by : (b : Bool) → eqb (length y.1.rest) 0 ≡ b → (let r : Outcome Fault A = Ok (x, t) in r) ≡ after_box s (cond b (Ok y) (Err fault)) → (end : State) × ((let r : Outcome Fault A = Ok y in r) ≡ Ok (x, end)) × (end.rest ≡ []) × (t ≡ s)
    by true e h =
        let pair : (x, t) ≡ (y.0, s) = cc in
        (y.1, ap (λ z. let r : Outcome Fault A = Ok (z, y.1) in r) (sym (ap (λ (q : A × State). q.0) pair)), nil_from_length y.1.rest (eqb-true _ _ e), ap (λ (q : A × State). q.1) pair)
    by false e h = absurd cc
sealed_ok fault s t x (Err Truncated) h = absurd cc
sealed_ok fault s t x (Err (Broken r at)) h = absurd cc

pub inside_agree : {A : Type 0} {FA : A → Type 0} {w : A → List ℕ} {form : Form Fault A} (fault : Fault) (at : ℕ) (content : List ℕ) → Agrees Any FA w form
    → Agrees Any (λ x. (w x ≡ content) × FA x) (λ _. []) (inside fault at content form)
unfolding inside
inside_agree {A} {FA} {w} {form} fault at content p = record {
  found = λ s t x h.
      let k = sealed_ok fault s t x h.0 h.2 in
      let inner : State = record { at = at; rest = content } in
      let g = p.found inner k.0 x (subst (form inner) k.1 h.1) in
      let all : content ≡ w x = g.0.parts ∙ ap (λ (z : List ℕ). w x ++ z) k.2 ∙ append-nil (w x) in
      (record { parts = ap (λ (u : State). u.rest) (sym k.3); moved = omega (arith, ap (λ (u : State). u.at) k.3) }, (sym all, g.1), tt);
  again = λ s t x h good known.
      let inner : State = record { at = at; rest = content } in
      let end : State = record { at = at + length (w x); rest = [] } in
      let whole : Takes inner (w x) end = record { parts = sym good.0 ∙ sym (append-nil (w x)); moved = refl } in
      let same : t ≡ s = same_state t s (omega (arith, h.moved)) (sym h.parts) in
      (Ok (x, end), p.again inner end x whole good.1 tt, ap (λ (u : State). let r : Outcome Fault A = Ok (x, u) in r) same);
}

-- ---- fields of which something is known

-- a field that fits in other words, by what is known
pub field_given : {F A B : Type 0} {FA : A → Type 0} {wA : A → List ℕ} {one : Form F A} {K FB : B → Type 0} {wB : B → List ℕ} (of : B → A) (G : A → Type 0) (next : A → Form F B)
    → Agrees Any FA wA one → ((b : B) → K b → FA (of b) → G (of b)) → ((b : B) → K b → G (of b) → FA (of b)) → ((a : A) → FA a → Agrees (λ b. (of b ≡ a) × K b) FB wB (next a))
    → Agrees K (λ b. G (of b) × FB b) (λ b. wA (of b) ++ wB b) (followed one next)
field_given {F} {A} {B} {FA} {wA} {one} {K} {FB} {wB} of G next p to from q =
    restated (λ b. G (of b) × FB b) (λ b. wA (of b) ++ wB b) (λ b k f. refl) (λ b k f. (to b k f.0, f.1)) (λ b k f. (from b k f.0, f.1)) (field {K = K} {FB = FB} {wB = wB} of next p q)

-- what fits is known beforehand
pub knowing : {F A : Type 0} {Q K FA : A → Type 0} {w : A → List ℕ} {form : Form F A} → Agrees Any (λ x. Q x × FA x) w form → ((x : A) → K x → Q x) → ((x : A) → Q x → K x) → Agrees K FA w form
knowing p from to = record {
  found = λ s t x h. let g = p.found s t x h in (g.0, g.1.1, to x g.1.0);
  again = λ s t x h good k. p.again s t x h (from x k, good) tt;
}

-- a count of two bytes, and so many items
pub counted_agree : {A : Type 0} {P : List A → A → Type 0} {w : A → List ℕ} {item : List A → Form Fault A} → ((before : List A) → Agrees Any (P before) w (item before))
    → Agrees Any (λ xs. (length xs < 256 ^ 2) × Chain P [] xs) (λ xs. big_bytes 2 (length xs) ++ flat_map w xs) (followed (number 2) (λ n. list item n []))
counted_agree {A} {P} {w} {item} p = field {K = Any} {FB = Chain P []} {wB = flat_map w} length _ (number_agree 2) (λ n lt. knowing {Q = λ xs. length xs ≡ n} {K = λ xs. (length xs ≡ n) × Any xs} (list_agree p n) (λ xs k. k.0) (λ xs q. (q, tt)))

-- what is known, in other words
pub reknown : {F A : Type 0} {K H FA : A → Type 0} {w : A → List ℕ} {form : Form F A} → ((x : A) → K x → H x) → ((x : A) → H x → K x) → Agrees K FA w form → Agrees H FA w form
reknown to from p = record {
  found = λ s t x h. let g = p.found s t x h in (g.0, g.1, to x g.2);
  again = λ s t x h good k. p.again s t x h good (from x k);
}

-- what is known is asked of what fits
pub absorbed : {F A : Type 0} {K FA : A → Type 0} {w : A → List ℕ} {form : Form F A} → Agrees K FA w form → Agrees Any (λ x. K x × FA x) w form
absorbed p = record {
  found = λ s t x h. let g = p.found s t x h in (g.0, (g.2, g.1), tt);
  again = λ s t x h good k. p.again s t x h good.1 good.0;
}

-- a length of four bytes, and so many bytes
pub kept_agree : Agrees Any (λ x. length x < 256 ^ 4) (λ x. big_bytes 4 (length x) ++ x) (followed (number 4) (λ n. bytes n))
kept_agree = restated (λ x. length x < 256 ^ 4) (λ x. big_bytes 4 (length x) ++ x) (λ x k f. refl) (λ x k f. f.0) (λ x k f. (f, tt))
    (field {K = Any} {FB = Any} {wB = λ x. x} length _ (number_agree 4) (λ n lt. knowing {Q = λ x. length x ≡ n} {K = λ x. (length x ≡ n) × Any x} (restated (λ x. (length x ≡ n) × Any x) (λ x. x) (λ x k f. refl) (λ x k f. (f, tt)) (λ x k f. f.0) (bytes_agree n)) (λ x k. k.0) (λ x q. (q, tt))))

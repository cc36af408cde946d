-- The outcome of a form is the one that is computed.
use Rattle.std.proofs.Common.{◌≡◌, inl, inr, ℕ, zero, suc, ◌+◌, ◌<◌, ◌≤◌, Bool, true, false, cond, ltb, eqb, List, [], ◌∷◌, ◌++◌, length, get_or, take, drop, Result, Ok, Err, refl, sym, ap, subst, ◌∙◌, append_assoc, length-append, length-take, get_or-append-add, arith}
use Rattle.std.specs.Bool.{Decides}
use Rattle.std.proofs.lemmas.Bool.{cases_lt, ltb-false, ltb-true}
use Rattle.std.proofs.lemmas.List.{get_or_past, take_at, drop_at, take-append-drop}
use Rattle.std.proofs.Math.ListN.{get_or-append}
use Rattle.byteorder.specs.Endian.{big_bytes, big_number}
use Rattle.byte_form.specs.Places.{State, Takes, IsBytes}
use Rattle.byte_form.specs.Forms.{Fault, Truncated, Broken, Outcome, Form, number, bytes, here, rule, made, followed, list, either, inside, sealed, after_box}
use Rattle.byte_form.specs.Reading.{◌>>=◌, check, skip, bytes_at, number_at, list_at, inside_at}
use Rattle.byte_form.proofs.Numbers.{length-big_bytes, number_of_bytes, number_below, bytes_of_number}

-- the bytes that are left are bytes
abbrev pub IsRest : {F A : Type 0} → Outcome F A → Type 0
IsRest (Ok x) = IsBytes x.1.rest
IsRest (Err f) = Unit {0}

-- it is the outcome, and the only one
pub record Is {F A : Type 0} (form : Form F A) (s : State) (o : Outcome F A) : Type 0 where
  pub holds : form s o
  pub only : (p : Outcome F A) → form s p → p ≡ o
  pub rest : IsRest o

-- ---- places

pub same_state : (s t : State) → s.at ≡ t.at → s.rest ≡ t.rest → s ≡ t
same_state s t p q = let P : ℕ → State = λ n. record { at = n; rest = s.rest } in let Q : List ℕ → State = λ r. record { at = t.at; rest = r } in ap P p ∙ ap Q q

pub bytes_after : (s t : State) (text : List ℕ) → IsBytes s.rest → Takes s text t → IsBytes t.rest
bytes_after s t text fits h i = subst (λ n. n < 256) (get_or-append-add text t.rest i 0) (subst (λ (bytes : List ℕ). get_or bytes (length text + i) 0 < 256) h.parts (fits (length text + i)))

-- what stands at a place in bytes is bytes
pub bytes_of : (s t : State) (front : List ℕ) → IsBytes s.rest → Takes s front t → IsBytes front
bytes_of s t front fits h i =
    elim (cases_lt i (length front)) [
      | inl lt ↦ subst (λ n. n < 256) (get_or-append front t.rest 0 i lt) (subst (λ (bytes : List ℕ). get_or bytes i 0 < 256) h.parts (fits i))
      | inr le ↦ rw (get_or_past front i 0 le) (omega arith)
    ]

pub Takes-then : (s m t : State) (x y : List ℕ) → Takes s x m → Takes m y t → Takes s (x ++ y) t
Takes-then s m t x y p q = record { parts = p.parts ∙ ap (λ (r : List ℕ). x ++ r) q.parts ∙ sym (append_assoc x y t.rest); moved = omega (arith, p.moved, q.moved, length-append x y) }

-- ---- bytes and numbers

long_enough : (n : ℕ) (s : State) → n ≤ length s.rest → Takes s (take n s.rest) (skip n s) × (length (take n s.rest) ≡ n)
long_enough n s le = (record { parts = sym (take-append-drop n s.rest); moved = omega (arith, length-take n s.rest) }, omega (arith, length-take n s.rest))

-- the n bytes that stand there
taken : (n : ℕ) (s t : State) (x : List ℕ) → Takes s x t → length x ≡ n → (n ≤ length s.rest) × (take n s.rest ≡ x) × (skip n s ≡ t)
taken n s t x h len =
    let front : take n s.rest ≡ x = ap (take n) h.parts ∙ take_at x t.rest n len in
    let back : drop n s.rest ≡ t.rest = ap (drop n) h.parts ∙ drop_at x t.rest n len in
    (omega (arith, ap length h.parts, length-append x t.rest), front, same_state (skip n s) t (omega (arith, h.moved)) back)

bytes_is_by : (n : ℕ) (s : State) (b : Bool) → ltb (length s.rest) n ≡ b → IsBytes s.rest → Is (bytes n) s (cond b (Err Truncated) (Ok (take n s.rest, skip n s)))
unfolding bytes
bytes_is_by n s true e fits = record {
  holds = (ltb-true _ _ e, refl);
  only = λ p h. elim p as (λ q. bytes n s q → q ≡ Err Truncated) [
    | Ok x ↦ λ k. absurd (omega (arith, ltb-true _ _ e, (taken n s x.1 x.0 k.0 k.1).0))
    | Err f ↦ λ k. ap (λ g. Err g) k.1
  ] h;
  rest = tt;
}
bytes_is_by n s false e fits =
    let long = long_enough n s (ltb-false _ _ e) in
    record {
      holds = long;
      only = λ p h. elim p as (λ q. bytes n s q → q ≡ Ok (take n s.rest, skip n s)) [
        | Ok x ↦ λ k. let t = taken n s x.1 x.0 k.0 k.1 in ap (λ (y : List ℕ × State). Ok y) (rw (t.1, t.2) refl)
        | Err f ↦ λ k. absurd (omega (arith, ltb-false _ _ e, k.0))
      ] h;
      rest = bytes_after s (skip n s) (take n s.rest) fits long.0;
    }

pub bytes_is : (n : ℕ) (s : State) → IsBytes s.rest → Is (bytes n) s (bytes_at n s)
unfolding bytes_at
bytes_is n s fits = bytes_is_by n s (ltb (length s.rest) n) refl fits

-- a computed value behind bytes
pub mapped_is : {A : Type 0} (n : ℕ) (form : Form Fault A) (f : List ℕ → A) (s : State) → IsBytes s.rest
    → ((x : List ℕ) (t : State) → Takes s x t → length x ≡ n → form s (Ok (f x, t)))
    → ((y : A) (t : State) → form s (Ok (y, t)) → (x : List ℕ) × Takes s x t × (length x ≡ n) × (f x ≡ y))
    → (length s.rest < n → form s (Err Truncated))
    → ((g : Fault) → form s (Err g) → (length s.rest < n) × (g ≡ Truncated))
    → Is form s (◌>>=◌ {A = List ℕ × State} {B = A × State} (bytes_at n s) (λ x. Ok (f x.0, x.1)))
unfolding bytes_at
mapped_is {A} n form f s fits make back short shorter = by (ltb (length s.rest) n) refl
  where
    by : (b : Bool) → ltb (length s.rest) n ≡ b → Is form s (◌>>=◌ {A = List ℕ × State} {B = A × State} (cond b (Err Truncated) (Ok (take n s.rest, skip n s))) (λ x. Ok (f x.0, x.1)))
    by true e = record {
      holds = short (ltb-true _ _ e);
      only = λ p h. elim p as (λ q. form s q → q ≡ Err Truncated) [
        | Ok y ↦ λ k. let w = back y.0 y.1 k in absurd (omega (arith, ltb-true _ _ e, (taken n s y.1 w.0 w.1 w.2).0))
        | Err g ↦ λ k. ap (λ d. Err d) (shorter g k).1
      ] h;
      rest = tt;
    }
    by false e =
        let long = long_enough n s (ltb-false _ _ e) in
        record {
          holds = make (take n s.rest) (skip n s) long.0 long.1;
          only = λ p h. elim p as (λ q. form s q → q ≡ Ok (f (take n s.rest), skip n s)) [
            | Ok y ↦ λ k. let w = back y.0 y.1 k in let t = taken n s y.1 w.0 w.1 w.2 in ap (λ (z : A × State). Ok z) (rw (t.1, t.2, w.3) refl)
            | Err g ↦ λ k. absurd (omega (arith, ltb-false _ _ e, (shorter g k).0))
          ] h;
          rest = bytes_after s (skip n s) (take n s.rest) fits long.0;
        }

pub number_is : (n : ℕ) (s : State) → IsBytes s.rest → Is (number n) s (number_at n s)
unfolding number number_at
number_is n s fits =
    mapped_is n (number n) (big_number n) s fits
    (λ x t h len. (subst (λ (y : List ℕ). Takes s y t) (sym (bytes_of_number n x len (bytes_of s t x fits h))) h, number_below n x (bytes_of s t x fits h)))
    (λ y t h. (big_bytes n y, h.0, length-big_bytes n y, number_of_bytes n y h.1))
    (λ lt. (lt, refl)) (λ g h. h)

-- ---- rules, places and values

pub here_is : {F A : Type 0} (next : ℕ → Form F A) {s : State} {o : Outcome F A} → Is (next s.at) s o → Is (followed here next) s o
unfolding followed here
here_is next {s} {o} p = record {
  holds = inl ((s.at, s), (refl, refl), p.holds);
  only = λ q h. elim h [
    | inl k ↦ p.only q (subst (λ n. next n s q) k.1.0 (subst (λ t. next k.0.0 t q) k.1.1 k.2))
    | inr k ↦ absurd k.1
  ];
  rest = p.rest;
}

pub made_is : {F A : Type 0} (a : A) (s : State) → IsBytes s.rest → Is {F = F} (made a) s (Ok (a, s))
unfolding made
made_is {F} {A} a s fits = record {
  holds = (refl, refl);
  only = λ q h. elim q as (λ r. made a s r → r ≡ Ok (a, s)) [ Ok x ↦ λ k. ap (λ (z : A × State). Ok z) (rw (k.0, k.1) refl) | Err f ↦ λ k. absurd k ] h;
  rest = fits;
}

rule_is_by : {F A : Type 0} {P : Type 0} (fault : F) (next : Unit {0} → Form F A) {s : State} {o : Outcome F A} (b : Bool) → Decides b P → (b ≡ true → Is (next tt) s o) → Is (followed (rule P fault) next) s (check b fault >>= λ _. o)
unfolding followed rule
rule_is_by {F} {A} {P} fault next {s} {o} true d p =
    let q = p refl in
    record {
      holds = inl ((tt, s), (d.0 refl, refl), q.holds);
      only = λ r h. elim h [
        | inl k ↦ q.only r (subst (λ t. next k.0.0 t r) k.1.1 k.2)
        | inr k ↦ absurd (k.1.0 (d.0 refl))
      ];
      rest = q.rest;
    }
rule_is_by {F} {A} {P} fault next {s} {o} false d p = record {
  holds = inr (fault, (λ h. absurd (let e = d.1 h in cc), refl), refl);
  only = λ r h. elim h [
    | inl k ↦ absurd (let e = d.1 k.1.0 in cc)
    | inr k ↦ k.2 ∙ ap (λ g. Err g) k.1.1
  ];
  rest = tt;
}

pub rule_is : {F A : Type 0} {P : Type 0} (fault : F) (next : Unit {0} → Form F A) {s : State} {o : Outcome F A} {b : Bool} → Decides b P → (b ≡ true → Is (next tt) s o) → Is (followed (rule P fault) next) s (check b fault >>= λ _. o)
rule_is fault next {b = b} d p = rule_is_by fault next b d p

either_is_by : {F A : Type 0} {P : Type 0} {one other : Form F A} {s : State} {x y : Outcome F A} (b : Bool) → Decides b P → (b ≡ true → Is one s x) → (b ≡ false → Is other s y) → Is (either P one other) s (cond b x y)
unfolding either
either_is_by true d p q = let r = p refl in record {
  holds = inl (d.0 refl, r.holds);
  only = λ z h. elim h [ inl k ↦ r.only z k.1 | inr k ↦ absurd (k.0 (d.0 refl)) ];
  rest = r.rest;
}
either_is_by false d p q = let r = q refl in record {
  holds = inr (λ h. absurd (let e = d.1 h in cc), r.holds);
  only = λ z h. elim h [ inl k ↦ absurd (let e = d.1 k.0 in cc) | inr k ↦ r.only z k.1 ];
  rest = r.rest;
}

pub either_is : {F A : Type 0} {P : Type 0} {one other : Form F A} {s : State} {x y : Outcome F A} {b : Bool} → Decides b P → (b ≡ true → Is one s x) → (b ≡ false → Is other s y) → Is (either P one other) s (cond b x y)
either_is {b = b} d p q = either_is_by b d p q

-- ---- one behind the other

same_ok : {F B : Type 0} (x y : B) → (let r : Result B F = Ok x in r) ≡ Ok y → x ≡ y
same_ok x y e = cc

same_err : {F B : Type 0} (f g : F) → (let r : Result B F = Err f in r) ≡ Err g → f ≡ g
same_err f g e = cc

pub followed_is : {F A B : Type 0} (one : Form F A) (next : A → Form F B) {s : State} (o : Outcome F A) (more : A × State → Outcome F B) → Is one s o → ((x : A × State) → o ≡ Ok x → IsBytes x.1.rest → Is (next x.0) x.1 (more x)) → Is (followed one next) s (o >>= more)
unfolding followed
followed_is {F} {A} {B} one next {s} (Ok x) more p q =
    let r = q x refl p.rest in
    record {
      holds = inl (x, p.holds, r.holds);
      only = λ z h. elim h [
        | inl k ↦ let e : k.0 ≡ x = same_ok k.0 x (p.only (Ok k.0) k.1) in r.only z (subst (λ (y : A × State). next y.0 y.1 z) e k.2)
        | inr k ↦ absurd (let e = p.only (Err k.0) k.1 in cc)
      ];
      rest = r.rest;
    }
followed_is {F} {A} {B} one next {s} (Err f) more p q = record {
  holds = inr (f, p.holds, refl);
  only = λ z h. elim h [
    | inl k ↦ absurd (let e = p.only (Ok k.0) k.1 in cc)
    | inr k ↦ k.2 ∙ ap (λ g. Err g) (same_err k.0 f (p.only (Err k.0) k.1))
  ];
  rest = tt;
}

pub list_is : {A : Type 0} (item : List A → Form Fault A) (one : List A → State → Outcome Fault A) → ((before : List A) (s : State) → IsBytes s.rest → Is (item before) s (one before s))
    → (n : ℕ) (before : List A) (s : State) → IsBytes s.rest → Is (list item n before) s (list_at one n before s)
unfolding list list_at
list_is item one p zero before s fits = made_is before s fits
list_is item one p (suc n) before s fits = followed_is (item before) _ (one before s) _ (p before s fits) (λ x e rest. list_is item one p n (before ++ x.0 ∷ []) x.1 rest)

-- ---- boxes

sealed_is : {A : Type 0} (fault : Fault) (s : State) (o : Outcome Fault A) → (sealed fault o >>= λ x. Ok (x.0, s)) ≡ after_box s (sealed fault o)
sealed_is fault s (Ok x) = by (eqb (length x.1.rest) 0)
  where
    by : (b : Bool) → (cond b (Ok x) (Err fault) >>= λ y. Ok (y.0, s)) ≡ after_box s (cond b (Ok x) (Err fault))
    by true = refl
    by false = refl
sealed_is fault s (Err Truncated) = refl
sealed_is fault s (Err (Broken r at)) = refl

after_box_rest : {A : Type 0} (s : State) (o : Outcome Fault A) → IsBytes s.rest → IsRest (after_box s o)
after_box_rest s (Ok x) fits = fits
after_box_rest s (Err f) fits = tt

pub inside_is : {A : Type 0} (form : Form Fault A) (one : State → Outcome Fault A) (fault : Fault) (at : ℕ) (content : List ℕ) (s : State) → IsBytes s.rest → Is form (record { at = at; rest = content }) (one (record { at = at; rest = content })) → Is (inside fault at content form) s (inside_at fault at content one s)
unfolding inside inside_at
inside_is {A} form one fault at content s fits p =
    let inner : State = record { at = at; rest = content } in
    let e = sealed_is fault s (one inner) in
    record {
      holds = (one inner, p.holds, e);
      only = λ z h. h.2 ∙ ap (λ (o : Outcome Fault A). after_box s (sealed fault o)) (p.only h.0 h.1) ∙ sym e;
      rest = subst IsRest (sym e) (after_box_rest s (sealed fault (one inner)) fits);
    }

-- What stands behind a tag, and the constant that it makes.
use Rattle.std.proofs.Common.{◌≡◌, inl, inr, ℕ, ◌+◌, ◌<◌, ◌≤◌, ◌^◌, Bool, true, false, cond, eqb, List, [], ◌++◌, length, Ok, Err, refl, sym, ap, subst, ◌∙◌, length-append, arith}
use Rattle.std.proofs.lemmas.Bool.{eqb-true}
use Rattle.std.proofs.lemmas.List.{append-nil}
use Rattle.std.proofs.lemmas.Bool.Decides.{Decides-eqb, not_from_Decides}
use Rattle.byteorder.specs.Endian.{big_bytes}
use Rattle.byte_form.specs.Places.{State, Takes, IsBytes}
use Rattle.byte_form.specs.Forms.{Fault, Truncated, Outcome, Form, number, made, followed}
use Rattle.byte_form.specs.Reading as reading
use Rattle.byte_form.specs.Reading.{number_at}
use Rattle.byte_form.proofs.Numbers.{length-big_bytes}
use Rattle.byte_form.proofs.Outcomes.{Is, number_is, made_is, followed_is}
use Rattle.byte_form.proofs.Agree.{Agrees, Any, number_agree, field, done}
use Rattle.class_form.specs.Spelling.{tag_of, spell_info}
use Rattle.class_form.specs.PoolRules.{IsTag, IsInfo}
use Rattle.class_form.specs.PoolFaults.{info, info_size}
use Rattle.class_form.specs.PoolReading.{one_number, two_numbers, read_info}
use Rattle.class_form.specs.declared.pool.Constant.{Constant}
use Rattle.class_form.specs.declared.pool.Constant.TheVariants.{Integer, Float, Long, Double, Class, Text, Field, Method, InterfaceMethod, NameAndType, Handle, MethodType, Dynamic}

-- one number makes the constants of a tag
record IsOne (tag n : ℕ) (C : ℕ → Constant) : Type 0 where
  tag_is : (x : ℕ) → tag_of (C x) ≡ tag
  spelled : (x : ℕ) → spell_info (C x) ≡ big_bytes n x
  fits : (x : ℕ) → x < 256 ^ n → IsInfo (C x)
  below : (x : ℕ) → IsInfo (C x) → x < 256 ^ n
  only : (c : Constant) → tag_of c ≡ tag → (x : ℕ) × (C x ≡ c)
  size : info_size tag ≡ n

-- two numbers do
record IsTwo (tag n m : ℕ) (C : ℕ → ℕ → Constant) : Type 0 where
  tag_is : (x y : ℕ) → tag_of (C x y) ≡ tag
  spelled : (x y : ℕ) → spell_info (C x y) ≡ big_bytes n x ++ big_bytes m y
  fits : (x y : ℕ) → x < 256 ^ n → y < 256 ^ m → IsInfo (C x y)
  below : (x y : ℕ) → IsInfo (C x y) → (x < 256 ^ n) × (y < 256 ^ m)
  only : (c : Constant) → tag_of c ≡ tag → (x : ℕ) × (y : ℕ) × (C x y ≡ c)
  size : info_size tag ≡ n + m

-- a constant behind its tag, by what else stands there
via : {A : Type 0} (form : Form Fault A) (tag size : ℕ) (f : A → Constant) (s : State) (o : Outcome Fault A) → Is form s o → info_size tag ≡ size
    → ((a : A) (t : State) → form s (Ok (a, t)) → (tag_of (f a) ≡ tag) × IsInfo (f a) × Takes s (spell_info (f a)) t)
    → ((c : Constant) (t : State) → tag_of c ≡ tag → IsInfo c → Takes s (spell_info c) t → (a : A) × form s (Ok (a, t)) × (f a ≡ c))
    → ((a : A) (t : State) → form s (Ok (a, t)) → size ≤ length s.rest)
    → ((g : Fault) → form s (Err g) → (length s.rest < size) × (g ≡ Truncated))
    → Is (info tag) s (reading.◌>>=◌ {A = A × State} {B = Constant × State} o (λ x. Ok (f x.0, x.1)))
unfolding info
via {A} form tag size f s (Ok x) q same make back long short = record {
  holds = make x.0 x.1 q.holds;
  only = λ p h. elim p as (λ r. info tag s r → r ≡ Ok (f x.0, x.1)) [
    | Ok y ↦ λ k.
        let w = back y.0 y.1 k.0 k.1 k.2 in
        let e : (w.0, y.1) ≡ x = let h : (let r : Outcome Fault A = Ok (w.0, y.1) in r) ≡ Ok x = q.only (Ok (w.0, y.1)) w.1 in cc in
        ap (λ (z : Constant × State). Ok z) (ap (λ (c : Constant). (c, y.1)) (sym w.2) ∙ ap (λ (z : A × State). (f z.0, z.1)) e)
    | Err g ↦ λ k. absurd (omega (arith, k.0, same, long x.0 x.1 q.holds))
  ] h;
  rest = q.rest;
}
via {A} form tag size f s (Err g) q same make back long short =
    let e = short g q.holds in
    record {
      holds = (omega (arith, e.0, same), e.1);
      only = λ p h. elim p as (λ r. info tag s r → r ≡ Err g) [
        | Ok y ↦ λ k. let w = back y.0 y.1 k.0 k.1 k.2 in absurd (let h = q.only (Ok (w.0, y.1)) w.1 in cc)
        | Err d ↦ λ k. ap (λ u. Err u) (k.1 ∙ sym e.1)
      ] h;
      rest = tt;
    }

long_enough : (s t : State) (text : List ℕ) (n : ℕ) → Takes s text t → length text ≡ n → n ≤ length s.rest
long_enough s t text n h len = omega (arith, ap length h.parts, length-append text t.rest)

same_text : (s t : State) (x y : List ℕ) → x ≡ y → Takes s x t → Takes s y t
same_text s t x y e h = subst (λ (text : List ℕ). Takes s text t) e h

one_is : (tag n : ℕ) (C : ℕ → Constant) → IsOne tag n C → (s : State) → IsBytes s.rest → Is (info tag) s (one_number n C s)
unfolding number
one_is tag n C p s fits = via (number n) tag n C s (number_at n s) (number_is n s fits) p.size
    (λ x t h. (p.tag_is x, p.fits x h.1, same_text s t (big_bytes n x) (spell_info (C x)) (sym (p.spelled x)) h.0))
    (λ c t e good h. let w = p.only c e in
    (w.0, (same_text s t (spell_info c) (big_bytes n w.0) (ap spell_info (sym w.1) ∙ p.spelled w.0) h, p.below w.0 (subst IsInfo (sym w.1) good)), w.1))
    (λ x t h. long_enough s t (big_bytes n x) n h.0 (length-big_bytes n x))
    (λ g h. h)

pair_form : ℕ → ℕ → Form Fault (ℕ × ℕ)
pair_form n m = followed (number n) (λ x. followed (number m) (λ y. made (x, y)))

abbrev pair_at : ℕ → ℕ → State → Outcome Fault (ℕ × ℕ)
pair_at n m s = reading.◌>>=◌ {A = ℕ × State} {B = (ℕ × ℕ) × State} (number_at n s) (λ x. reading.◌>>=◌ {A = ℕ × State} {B = (ℕ × ℕ) × State} (number_at m x.1) (λ y. Ok ((x.0, y.0), y.1)))

pair_is : (n m : ℕ) (s : State) → IsBytes s.rest → Is (pair_form n m) s (pair_at n m s)
unfolding pair_form
pair_is n m s fits = followed_is _ _ (number_at n s) _ (number_is n s fits) (λ x e rest. followed_is _ _ (number_at m x.1) _ (number_is m x.1 rest) (λ y e rest. made_is (x.0, y.0) y.1 rest))

pair_agree : (n m : ℕ) → Agrees Any (λ (p : ℕ × ℕ). (p.0 < 256 ^ n) × ((p.1 < 256 ^ m) × Any p)) (λ p. big_bytes n p.0 ++ (big_bytes m p.1 ++ [])) (pair_form n m)
unfolding pair_form
pair_agree n m = field (λ p. p.0) _ (number_agree n) (λ x lt. field (λ p. p.1) _ (number_agree m) (λ y lt. done (x, y) (refl, (refl, tt)) (λ p k. rw (← k.1.0, ← k.0) refl)))

pair_short : (n m : ℕ) (s : State) (g : Fault) → pair_form n m s (Err g) → (length s.rest < n + m) × (g ≡ Truncated)
unfolding pair_form followed number made
pair_short n m s g h = elim h [
  | inl k ↦ elim k.2 [
    | inl j ↦ absurd j.2
    | inr j ↦
        let e : g ≡ j.0 = let f = j.2 in cc in
        (omega (arith, j.1.0, ap length k.1.0.parts, length-append (big_bytes n k.0.0) k.0.1.rest, length-big_bytes n k.0.0), e ∙ j.1.1)
  ]
  | inr k ↦ let e : g ≡ k.0 = let f = k.2 in cc in (omega (arith, k.1.0), e ∙ k.1.1)
]

regroup : (n m : ℕ) (C : ℕ → ℕ → Constant) (s : State) → two_numbers n m C s ≡ reading.◌>>=◌ {A = (ℕ × ℕ) × State} {B = Constant × State} (pair_at n m s) (λ x. Ok (C x.0.0 x.0.1, x.1))
regroup n m C s = by (number_at n s)
  where
    inner : (x : ℕ) (o : Outcome Fault ℕ) → (reading.◌>>=◌ {A = ℕ × State} {B = Constant × State} o (λ y. Ok (C x y.0, y.1))) ≡ reading.◌>>=◌ {A = (ℕ × ℕ) × State} {B = Constant × State} (reading.◌>>=◌ {A = ℕ × State} {B = (ℕ × ℕ) × State} o (λ y. Ok ((x, y.0), y.1))) (λ x. Ok (C x.0.0 x.0.1, x.1))
    inner x (Ok y) = refl
    inner x (Err f) = refl

    by : (o : Outcome Fault ℕ) → (reading.◌>>=◌ {A = ℕ × State} {B = Constant × State} o (λ x. reading.◌>>=◌ {A = ℕ × State} {B = Constant × State} (number_at m x.1) (λ y. Ok (C x.0 y.0, y.1))))
        ≡ reading.◌>>=◌ {A = (ℕ × ℕ) × State} {B = Constant × State} (reading.◌>>=◌ {A = ℕ × State} {B = (ℕ × ℕ) × State} o (λ x. reading.◌>>=◌ {A = ℕ × State} {B = (ℕ × ℕ) × State} (number_at m x.1) (λ y. Ok ((x.0, y.0), y.1)))) (λ x. Ok (C x.0.0 x.0.1, x.1))
    by (Ok x) = inner x.0 (number_at m x.1)
    by (Err f) = refl

two_is : (tag n m : ℕ) (C : ℕ → ℕ → Constant) → IsTwo tag n m C → (s : State) → IsBytes s.rest → Is (info tag) s (two_numbers n m C s)
two_is tag n m C p s fits =
    let whole : (x y : ℕ) → big_bytes n x ++ (big_bytes m y ++ []) ≡ spell_info (C x y) = λ x y. ap (λ (r : List ℕ). big_bytes n x ++ r) (append-nil (big_bytes m y)) ∙ sym (p.spelled x y) in
    let size : (x y : ℕ) → length (big_bytes n x ++ (big_bytes m y ++ [])) ≡ n + m = λ x y. length-append (big_bytes n x) (big_bytes m y ++ []) ∙ omega (arith, length-append (big_bytes m y) [], length-big_bytes n x, length-big_bytes m y) in
    subst (Is (info tag) s) (sym (regroup n m C s)) (via (pair_form n m) tag (n + m) (λ (q : ℕ × ℕ). C q.0 q.1) s (pair_at n m s) (pair_is n m s fits) p.size
    (λ q t h. let g = (pair_agree n m).found s t q h in (p.tag_is q.0 q.1, p.fits q.0 q.1 g.1.0 g.1.1.0, same_text s t _ _ (whole q.0 q.1) g.0))
    (λ c t e good h. let w = p.only c e in
    let b = p.below w.0 w.1 (subst IsInfo (sym w.2) good) in
    ((w.0, w.1), (pair_agree n m).again s t (w.0, w.1) (same_text s t _ _ (ap spell_info (sym w.2) ∙ sym (whole w.0 w.1)) h) (b.0, (b.1, tt)) tt, w.2))
    (λ q t h. let g = (pair_agree n m).found s t q h in long_enough s t _ (n + m) g.0 (size q.0 q.1))
    (λ g h. pair_short n m s g h))

integer : (c : Constant) → tag_of c ≡ 3 → (x : ℕ) × (Integer x ≡ c)
integer (Integer n) e = (n, refl)
integer c e = absurd (omega (arith, e))

float : (c : Constant) → tag_of c ≡ 4 → (x : ℕ) × (Float x ≡ c)
float (Float n) e = (n, refl)
float c e = absurd (omega (arith, e))

long : (c : Constant) → tag_of c ≡ 5 → (x : ℕ) × (Long x ≡ c)
long (Long n) e = (n, refl)
long c e = absurd (omega (arith, e))

double : (c : Constant) → tag_of c ≡ 6 → (x : ℕ) × (Double x ≡ c)
double (Double n) e = (n, refl)
double c e = absurd (omega (arith, e))

class : (c : Constant) → tag_of c ≡ 7 → (x : ℕ) × (Class x ≡ c)
class (Class n) e = (n, refl)
class c e = absurd (omega (arith, e))

string : (c : Constant) → tag_of c ≡ 8 → (x : ℕ) × (Text x ≡ c)
string (Text n) e = (n, refl)
string c e = absurd (omega (arith, e))

method_type : (c : Constant) → tag_of c ≡ 16 → (x : ℕ) × (MethodType x ≡ c)
method_type (MethodType n) e = (n, refl)
method_type c e = absurd (omega (arith, e))

field_of : (c : Constant) → tag_of c ≡ 9 → (x : ℕ) × (y : ℕ) × (Field x y ≡ c)
field_of (Field n m) e = (n, m, refl)
field_of c e = absurd (omega (arith, e))

method_of : (c : Constant) → tag_of c ≡ 10 → (x : ℕ) × (y : ℕ) × (Method x y ≡ c)
method_of (Method n m) e = (n, m, refl)
method_of c e = absurd (omega (arith, e))

interface_of : (c : Constant) → tag_of c ≡ 11 → (x : ℕ) × (y : ℕ) × (InterfaceMethod x y ≡ c)
interface_of (InterfaceMethod n m) e = (n, m, refl)
interface_of c e = absurd (omega (arith, e))

name_and_type_of : (c : Constant) → tag_of c ≡ 12 → (x : ℕ) × (y : ℕ) × (NameAndType x y ≡ c)
name_and_type_of (NameAndType n m) e = (n, m, refl)
name_and_type_of c e = absurd (omega (arith, e))

handle_of : (c : Constant) → tag_of c ≡ 15 → (x : ℕ) × (y : ℕ) × (Handle x y ≡ c)
handle_of (Handle n m) e = (n, m, refl)
handle_of c e = absurd (omega (arith, e))

dynamic_of : (c : Constant) → tag_of c ≡ 18 → (x : ℕ) × (y : ℕ) × (Dynamic x y ≡ c)
dynamic_of (Dynamic n m) e = (n, m, refl)
dynamic_of c e = absurd (omega (arith, e))

-- by the tag
chosen : (tag : ℕ) (s : State) (b : Bool) (x y : Outcome Fault Constant) → (b ≡ true → Is (info tag) s x) → (b ≡ false → Is (info tag) s y) → Is (info tag) s (cond b x y)
chosen tag s true x y p q = p refl
chosen tag s false x y p q = q refl

at_tag : (tag t : ℕ) (o : State → Outcome Fault Constant) {s : State} → eqb tag t ≡ true → Is (info t) s (o s) → Is (info tag) s (o s)
at_tag tag t o {s} e p = subst (λ n. Is (info n) s (o s)) (sym (eqb-true tag t e)) p

not_tag : (tag t : ℕ) → eqb tag t ≡ false → tag ≡ t → ⊥
not_tag tag t e = not_from_Decides (eqb tag t) (Decides-eqb tag t) e

pub info_is : (major tag : ℕ) (s : State) → IsTag major tag → (tag ≡ 1 → ⊥) → IsBytes s.rest → Is (info tag) s (read_info tag s)
unfolding read_info
info_is major tag s good not_text fits =
    chosen tag s (eqb tag 3) _ _ (λ e. at_tag tag 3 (one_number 4 Integer) e (one_is 3 4 Integer (record { tag_is = λ x. refl; spelled = λ x. refl; fits = λ x lt. lt; below = λ x lt. lt; only = integer; size = refl }) s fits)) (λ e3.
    chosen tag s (eqb tag 4) _ _ (λ e. at_tag tag 4 (one_number 4 Float) e (one_is 4 4 Float (record { tag_is = λ x. refl; spelled = λ x. refl; fits = λ x lt. lt; below = λ x lt. lt; only = float; size = refl }) s fits)) (λ e4.
    chosen tag s (eqb tag 5) _ _ (λ e. at_tag tag 5 (one_number 8 Long) e (one_is 5 8 Long (record { tag_is = λ x. refl; spelled = λ x. refl; fits = λ x lt. lt; below = λ x lt. lt; only = long; size = refl }) s fits)) (λ e5.
    chosen tag s (eqb tag 6) _ _ (λ e. at_tag tag 6 (one_number 8 Double) e (one_is 6 8 Double (record { tag_is = λ x. refl; spelled = λ x. refl; fits = λ x lt. lt; below = λ x lt. lt; only = double; size = refl }) s fits)) (λ e6.
    chosen tag s (eqb tag 7) _ _ (λ e. at_tag tag 7 (one_number 2 Class) e (one_is 7 2 Class (record { tag_is = λ x. refl; spelled = λ x. refl; fits = λ x lt. lt; below = λ x lt. lt; only = class; size = refl }) s fits)) (λ e7.
    chosen tag s (eqb tag 8) _ _ (λ e. at_tag tag 8 (one_number 2 Text) e (one_is 8 2 Text (record { tag_is = λ x. refl; spelled = λ x. refl; fits = λ x lt. lt; below = λ x lt. lt; only = string; size = refl }) s fits)) (λ e8.
    chosen tag s (eqb tag 9) _ _ (λ e. at_tag tag 9 (two_numbers 2 2 Field) e (two_is 9 2 2 Field (record { tag_is = λ x y. refl; spelled = λ x y. refl; fits = λ x y p q. (p, q); below = λ x y h. h; only = field_of; size = refl }) s fits)) (λ e9.
    chosen tag s (eqb tag 10) _ _ (λ e. at_tag tag 10 (two_numbers 2 2 Method) e (two_is 10 2 2 Method (record { tag_is = λ x y. refl; spelled = λ x y. refl; fits = λ x y p q. (p, q); below = λ x y h. h; only = method_of; size = refl }) s fits)) (λ e10.
    chosen tag s (eqb tag 11) _ _ (λ e. at_tag tag 11 (two_numbers 2 2 InterfaceMethod) e (two_is 11 2 2 InterfaceMethod (record { tag_is = λ x y. refl; spelled = λ x y. refl; fits = λ x y p q. (p, q); below = λ x y h. h; only = interface_of; size = refl }) s fits)) (λ e11.
    chosen tag s (eqb tag 12) _ _ (λ e. at_tag tag 12 (two_numbers 2 2 NameAndType) e (two_is 12 2 2 NameAndType (record { tag_is = λ x y. refl; spelled = λ x y. refl; fits = λ x y p q. (p, q); below = λ x y h. h; only = name_and_type_of; size = refl }) s fits)) (λ e12.
    chosen tag s (eqb tag 15) _ _ (λ e. at_tag tag 15 (two_numbers 1 2 Handle) e (two_is 15 1 2 Handle (record { tag_is = λ x y. refl; spelled = λ x y. refl; fits = λ x y p q. (p, q); below = λ x y h. h; only = handle_of; size = refl }) s fits)) (λ e15.
    chosen tag s (eqb tag 16) _ _ (λ e. at_tag tag 16 (one_number 2 MethodType) e (one_is 16 2 MethodType (record { tag_is = λ x. refl; spelled = λ x. refl; fits = λ x lt. lt; below = λ x lt. lt; only = method_type; size = refl }) s fits)) (λ e16.
    let last : tag ≡ 18 = left good (not_tag tag 3 e3) (not_tag tag 4 e4) (not_tag tag 5 e5) (not_tag tag 6 e6) (not_tag tag 7 e7) (not_tag tag 8 e8) (not_tag tag 9 e9) (not_tag tag 10 e10) (not_tag tag 11 e11) (not_tag tag 12 e12) (not_tag tag 15 e15) (not_tag tag 16 e16) in
    subst (λ n. Is (info n) s (two_numbers 2 2 Dynamic s)) (sym last) (two_is 18 2 2 Dynamic (record { tag_is = λ x y. refl; spelled = λ x y. refl; fits = λ x y p q. (p, q); below = λ x y h. h; only = dynamic_of; size = refl }) s fits)))))))))))))
  where
    left : IsTag major tag → (tag ≡ 3 → ⊥) → (tag ≡ 4 → ⊥) → (tag ≡ 5 → ⊥) → (tag ≡ 6 → ⊥) → (tag ≡ 7 → ⊥) → (tag ≡ 8 → ⊥) → (tag ≡ 9 → ⊥) → (tag ≡ 10 → ⊥) → (tag ≡ 11 → ⊥) → (tag ≡ 12 → ⊥) → (tag ≡ 15 → ⊥) → (tag ≡ 16 → ⊥) → tag ≡ 18
    left h n3 n4 n5 n6 n7 n8 n9 n10 n11 n12 n15 n16 = elim h [
      | inl k ↦ absurd (not_text k)
      | inr k ↦ elim k [
        | inl m ↦ absurd (omega arith)
        | inr m ↦ elim m.0 [ inl n ↦ absurd (n15 n) | inr n ↦ elim n [ inl o ↦ absurd (n16 o) | inr o ↦ o ] ]
      ]
    ]

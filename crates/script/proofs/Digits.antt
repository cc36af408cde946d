-- Numbers, digit by digit.
use Rattle.std.proofs.Common.{◌≡◌, ◌≢◌, ◌<◌, ◌≤◌, ◌+◌, ◌-◌, ◌*◌, ◌^◌, ◌⊎◌, ℕ, suc, List, [], ◌∷◌, ◌++◌, length, refl, sym, ap, ◌∙◌, subst, inl, inr, arith}
use Rattle.std.specs.Prelude.{All}
use Rattle.std.proofs.Math.Nat.{mul-le-mul_left, pow-le-pow_right}
use Rattle.std.proofs.lemmas.Bool.{cases_lt}
use Rattle.std.proofs.lemmas.List.Elements.{All-push, All-nil, All-cons, All-head, All-tail, All-get_or, All-same}
use Rattle.std.proofs.lemmas.List.{length-append, get_or_at}
use Rattle.slicer_ids.specs.Escapes.{StandsFor, BeginsWith}
use Rattle.script.specs.Operands.{IsDigit, decimal, IsNumber}
use Rattle.script.proofs.Standing.{IsReadAs, read_none, read_more, read_all, stands_one, stands_some, begins_one, not_nil}

ten_times : (x p q dec t b : ℕ) → q ≡ 10 * p → t ≡ 10 * dec + b → x * q + t ≡ 10 * (x * p + dec) + b
ten_times x p q dec t b e f = rw e (rw f (omega arith))

power : (m n : ℕ) → m ≡ suc n → 10 ^ m ≡ 10 * 10 ^ n
power m n e = rw e (omega arith)

decimal-push : (ds : List ℕ) (b : ℕ) → decimal (ds ++ b ∷ []) ≡ 10 * decimal ds + (b - 48)
decimal-push [] b = omega arith
decimal-push (d ∷ ds) b =
    ten_times (d - 48) (10 ^ length ds) (10 ^ length (ds ++ b ∷ [])) (decimal ds) (decimal (ds ++ b ∷ [])) (b - 48)
    (power (length (ds ++ b ∷ [])) (length ds) (omega (arith, length-append ds (b ∷ [])))) (decimal-push ds b)

below : (x p dec : ℕ) → x ≤ 9 → dec < p → x * p + dec < 10 * p
below x p dec h k = omega (arith, mul-le-mul_left p h)

-- digits have a value below a power of ten
decimal_below : (ds : List ℕ) → All IsDigit ds → decimal ds < 10 ^ length ds
decimal_below [] h = omega arith
decimal_below (d ∷ ds) h =
    let first = All-head IsDigit d ds h in
    let t = below (d - 48) (10 ^ length ds) (decimal ds) (omega (arith, first.0, first.1)) (decimal_below ds (All-tail IsDigit d ds h)) in
    omega (arith, power (length (d ∷ ds)) (length ds) refl, t)

-- the digits so far, and their number
pub record IsReadUpTo (word rest : List ℕ) (count value : ℕ) : Type 0 where
  pub digits : List ℕ
  pub read : IsReadAs word digits rest
  pub are_digits : All IsDigit digits
  pub length_is : length digits ≡ count
  pub few : count ≤ 5
  pub value_is : value ≡ decimal digits

pub up_to_none : (word : List ℕ) → IsReadUpTo word word 0 0
up_to_none word = record { digits = []; read = read_none word; are_digits = All-nil IsDigit; length_is = refl; few = omega arith; value_is = refl }

-- five digits or fewer have a small value
pub small_value : {word rest : List ℕ} {count value : ℕ} → IsReadUpTo word rest count value → value < 10 ^ 5
small_value {word} {rest} {count} {value} r =
    let b = decimal_below r.digits r.are_digits in
    let l : length r.digits ≤ 5 = omega (arith, r.length_is, r.few) in
    let ten : 0 < 10 = omega arith in
    let p : 10 ^ length r.digits ≤ 10 ^ 5 = pow-le-pow_right ten l in
    omega (arith, r.value_is, b, p)

pub up_to_more : {word rest : List ℕ} {count value : ℕ} (b : ℕ) (more : List ℕ) → IsReadUpTo word rest count value → BeginsWith rest b more
    → count ≢ 5 → 48 ≤ b → b ≤ 57 → IsReadUpTo word more (count + 1) (10 * value + (b - 48))
up_to_more {word} {rest} {count} {value} b more r e ne low high = record {
  digits = r.digits ++ b ∷ [];
  read = read_more word r.digits rest b more r.read e;
  are_digits = All-push IsDigit r.digits b r.are_digits (low, high);
  length_is = omega (arith, length-append r.digits (b ∷ []), r.length_is);
  few = omega (arith, r.few);
  value_is = omega (arith, decimal-push r.digits b, r.value_is);
}

-- a number of the word has one digit more, the next
pub begins_digits : {word rest : List ℕ} {count value : ℕ} (b : ℕ) (more : List ℕ) (n : ℕ) → IsReadUpTo word rest count value → BeginsWith rest b more
    → IsNumber word n → (count < 5) × IsDigit b
begins_digits {word} {rest} {count} {value} b more n r e k = let t = r.read.back k.digits k.stands in next t.0 t.1 t.2
  where
    next : (ys : List ℕ) → k.digits ≡ r.digits ++ ys → StandsFor rest ys → (count < 5) × IsDigit b
    next [] p s = absurd (not_nil rest b more e s)
    next (y ∷ ys) p s =
        let same = begins_one rest y b s.0 more s.1 e in
        let l = length-append r.digits (y ∷ ys) in
        let all = All-same IsDigit (r.digits ++ y ∷ ys) k.digits (sym p) k.are_digits in
        let d : IsDigit y = subst IsDigit (get_or_at r.digits y ys 0 (length r.digits) refl) (All-get_or IsDigit (r.digits ++ y ∷ ys) (length r.digits) 0 (omega arith) all) in
        (omega (arith, l, ap length p, k.few, r.length_is), subst IsDigit same.0 d)

pub no_number_past : {word rest : List ℕ} {count value : ℕ} (b : ℕ) (more : List ℕ) → IsReadUpTo word rest count value → BeginsWith rest b more
    → ((count < 5) × IsDigit b → ⊥) → (n : ℕ) → IsNumber word n → ⊥
no_number_past b more r e h n k = h (begins_digits b more n r e k)

-- at the end of the word, the number is the value so far
pub number_is_value : {word rest : List ℕ} {count value : ℕ} (n : ℕ) → IsReadUpTo word rest count value → rest ≡ [] → IsNumber word n → (1 ≤ count) × (n ≡ value)
number_is_value {word} {rest} {count} {value} n r e k =
    let s = read_all word r.digits (subst (IsReadAs word r.digits) e r.read) in
    let d = stands_one word r.digits k.digits s k.stands in
    (omega (arith, ap length d, k.some, r.length_is), k.value ∙ sym (ap decimal d) ∙ sym r.value_is)

pub number_of_value : {word rest : List ℕ} {count value : ℕ} → IsReadUpTo word rest count value → rest ≡ [] → count ≢ 0 → value ≤ 65535 → IsNumber word value
number_of_value {word} {rest} {count} {value} r e ne small = record {
  digits = r.digits;
  stands = read_all word r.digits (subst (IsReadAs word r.digits) e r.read);
  are_digits = r.are_digits;
  some = omega (arith, r.length_is);
  few = omega (arith, r.length_is, r.few);
  value = r.value_is;
  small = small;
}

pub number_one : (word : List ℕ) (n m : ℕ) → IsNumber word n → IsNumber word m → n ≡ m
number_one word n m k j = k.value ∙ ap decimal (stands_one word k.digits j.digits k.stands j.stands) ∙ sym j.value

decide_digits : (ds : List ℕ) → All IsDigit ds ⊎ (All IsDigit ds → ⊥)
decide_digits [] = inl (All-nil IsDigit)
decide_digits (d ∷ ds) = elim (cases_lt d 48) [
  | inl low ↦ inr (λ h. omega (arith, (All-head IsDigit d ds h).0))
  | inr ge ↦ elim (cases_lt 57 d) [
    | inl high ↦ inr (λ h. omega (arith, (All-head IsDigit d ds h).1))
    | inr le ↦ elim (decide_digits ds) [
      | inl all ↦ inl (All-cons IsDigit d ds (ge, le) all)
      | inr some ↦ inr (λ h. some (All-tail IsDigit d ds h))
    ]
  ]
]

-- a word is a number or none
pub decide_number : (word : List ℕ) → ((n : ℕ) × IsNumber word n) ⊎ ((n : ℕ) → IsNumber word n → ⊥)
decide_number word =
    let s = stands_some word in
    elim (decide_digits s.0) [
      | inr other ↦ inr (λ n k. other (All-same IsDigit s.0 k.digits (stands_one word s.0 k.digits s.1 k.stands) k.are_digits))
      | inl all ↦ elim (cases_lt 5 (length s.0)) [
        | inl many ↦ inr (λ n k. omega (arith, ap length (stands_one word s.0 k.digits s.1 k.stands), k.few))
        | inr few ↦ elim (cases_lt (length s.0) 1) [
          | inl none ↦ inr (λ n k. omega (arith, ap length (stands_one word s.0 k.digits s.1 k.stands), k.some))
          | inr some ↦ elim (cases_lt 65535 (decimal s.0)) [
            | inl high ↦ inr (λ n k. omega (arith, ap decimal (stands_one word s.0 k.digits s.1 k.stands), k.value, k.small))
            | inr low ↦ inl (decimal s.0, record { digits = s.0; stands = s.1; are_digits = all; some = some; few = few; value = refl; small = low })
          ]
        ]
      ]
    ]

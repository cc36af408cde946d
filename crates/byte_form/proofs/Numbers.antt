-- Bytes and their big-endian numbers.
use Rattle.std.proofs.Common.{◌≡◌, ℕ, zero, suc, ◌+◌, ◌*◌, ◌/◌, ◌^◌, ◌<◌, List, [], ◌∷◌, length, refl, sym, ap, subst, ◌∙◌, arith}
use Rattle.std.proofs.lemmas.Nat.{div-mul-add}
use Rattle.std.proofs.lemmas.List.{append-nil}
use Rattle.std.specs.Int.{byte_at}
use Rattle.byteorder.specs.Endian.{big_bytes, big_number}
use Rattle.byteorder.specs.Numbers.{big_from-cons, big_from-lt, big_number-reads_back, length-bytes_high_first}
use Rattle.byte_form.specs.Places.{IsBytes}

tail_bytes : (x : ℕ) (xs : List ℕ) → IsBytes (x ∷ xs) → IsBytes xs
tail_bytes x xs h i = h (suc i)

-- the first byte, and the number of the others
split : (x : ℕ) (xs : List ℕ) → IsBytes (x ∷ xs) → (big_number (suc (length xs)) (x ∷ xs) ≡ x * 256 ^ length xs + big_number (length xs) xs) × (big_number (length xs) xs < 256 ^ length xs)
split x xs h = (ap (λ r. x * 256 ^ length xs + r) (big_from-cons 0 (length xs) x xs), big_from-lt 0 (length xs) xs (tail_bytes x xs h))

same_front : (p a b r q : ℕ) → r < p → q < p → a * p + r ≡ b * p + q → (a ≡ b) × (r ≡ q)
same_front p a b r q lr lq e =
    let front : a ≡ b = sym (div-mul-add a p r lr) ∙ ap (λ n. n / p) e ∙ div-mul-add b p q lq in
    let products : a * p ≡ b * p = ap (λ n. n * p) front in
    (front, omega (arith, e, products))

pub equal_bytes : (xs ys : List ℕ) → IsBytes xs → IsBytes ys → length xs ≡ length ys → big_number (length xs) xs ≡ big_number (length ys) ys → xs ≡ ys
equal_bytes [] [] hx hy len e = refl
equal_bytes [] (y ∷ ys) hx hy len e = absurd (omega (arith, len))
equal_bytes (x ∷ xs) [] hx hy len e = absurd (omega (arith, len))
equal_bytes (x ∷ xs) (y ∷ ys) hx hy len e =
    let same : length ys ≡ length xs = omega (arith, len) in
    let sx = split x xs hx in
    let sy = split y ys hy in
    let whole : x * 256 ^ length xs + big_number (length xs) xs ≡ y * 256 ^ length xs + big_number (length ys) ys = sym sx.0 ∙ e ∙ sy.0 ∙ ap (λ n. y * 256 ^ n + big_number (length ys) ys) same in
    let below : big_number (length ys) ys < 256 ^ length xs = subst (λ n. big_number (length ys) ys < 256 ^ n) same sy.1 in
    let h = same_front (256 ^ length xs) x y (big_number (length xs) xs) (big_number (length ys) ys) sx.1 below whole in
    let rest = equal_bytes xs ys (tail_bytes x xs hx) (tail_bytes y ys hy) (sym same) h.1 in
    ap (λ z. z ∷ xs) h.0 ∙ ap (λ (zs : List ℕ). y ∷ zs) rest

pub length-big_bytes : (n x : ℕ) → length (big_bytes n x) ≡ n
length-big_bytes = length-bytes_high_first

byte_below : (k x : ℕ) → byte_at k x < 256
byte_below zero x = omega arith
byte_below (suc k) x = omega arith

pub IsBytes-big_bytes : (n x : ℕ) → IsBytes (big_bytes n x)
IsBytes-big_bytes zero x i = omega arith
IsBytes-big_bytes (suc n) x zero = byte_below n x
IsBytes-big_bytes (suc n) x (suc i) = IsBytes-big_bytes n x i

pub number_of_bytes : (n x : ℕ) → x < 256 ^ n → big_number n (big_bytes n x) ≡ x
number_of_bytes n x lt = ap (big_number n) (sym (append-nil (big_bytes n x))) ∙ big_number-reads_back n x [] lt

pub number_below : (n : ℕ) (bytes : List ℕ) → IsBytes bytes → big_number n bytes < 256 ^ n
number_below n bytes h = big_from-lt 0 n bytes h

pub bytes_of_number : (n : ℕ) (bytes : List ℕ) → length bytes ≡ n → IsBytes bytes → big_bytes n (big_number n bytes) ≡ bytes
bytes_of_number n bytes len h =
    let x = big_number n bytes in
    let long = length-big_bytes n x in
    equal_bytes (big_bytes n x) bytes (IsBytes-big_bytes n x) h (long ∙ sym len) (ap (λ m. big_number m (big_bytes n x)) long ∙ number_of_bytes n x (number_below n bytes h) ∙ ap (λ m. big_number m bytes) (sym len))

-- Rows of words.
use Rattle.std.proofs.Common.{◌≡◌, ◌≢◌, ℕ, ◌+◌, ◌-◌, ◌*◌, ◌/◌, ◌%◌, ◌^◌, ◌<◌, ◌≤◌, ◌⊎◌, ◌↔◌, inl, inr, Bool, true, false, ◌||◌, List, length, set, get_or, refl, sym, ap, ◌∙◌, subst, arith, get_or-set_same, get_or-set_other, length-set, w64, bit_or, max}
use Rattle.std.specs.Prelude.{slice_index}
use Rattle.std.specs.Int.{bit_at}
use Rattle.std.proofs.lemmas.Bool.{cases_eq, cases_lt}
use Rattle.std.proofs.lemmas.List.{get_or_default}
use Rattle.std.proofs.lemmas.List.Sums.{sum_by-set}
use Rattle.std.proofs.Math.Nat.{mul-le-mul_right}
use Rattle.std.proofs.lemmas.Nat.{le_or_l}
use Rattle.std.proofs.lemmas.Nat.Bits.{bit_at_or, bit_at_set_same, bit_at_set_other, bit_at-lt}
use Rattle.method_graph.specs.Flows.{HasWay, Adds, room}

-- a word with more bits leaves less room
pub bits_added : (words : List ℕ) (place old bits : ℕ) → place < length words → old ≡ get_or words place old
    → ((i d : ℕ) → i < length (set words place (bit_or old bits)) → get_or (set words place (bit_or old bits)) i d < 2 ^ 64) → (bit_or old bits ≡ old → ⊥)
    → Adds words (set words place (bit_or old bits)) true
bits_added words place old bits within read fit new =
    let is : old ≡ get_or words place 0 = read ∙ get_or_default words place old 0 within in
    let grows : old ≤ bit_or old bits = le_or_l old bits in
    let fits : bit_or old bits < 2 ^ 64 = subst (λ n. n < 2 ^ 64) (get_or-set_same words place (bit_or old bits) 0 within) (fit place 0 (omega (arith, within, length-set words place (bit_or old bits)))) in
    let sums = sum_by-set (λ w. 2 ^ 64 - 1 - w) words place (bit_or old bits) 0 within in
    let at : (2 ^ 64 - 1 - get_or words place 0) ≡ (2 ^ 64 - 1 - old) = ap (λ w. 2 ^ 64 - 1 - w) (sym is) in
    let above : old < bit_or old bits = elim (cases_lt old (bit_or old bits)) [ inl lt ↦ lt | inr le ↦ absurd (new (omega (arith, grows, le))) ] in
    let less : room (set words place (bit_or old bits)) < room words = omega (arith, sums, at, above, fits) in
    record { size = length-set words place (bit_or old bits); same = λ e. absurd cc; less = λ e. less; no_more = omega (arith, less) }

pub adds_none : (words : List ℕ) → Adds words words false
adds_none words = record { size = refl; same = λ e. refl; less = λ e. absurd cc; no_more = omega arith }

pub adds_then : (old mid new : List ℕ) (x y : Bool) → Adds old mid x → Adds mid new y → Adds old new (y || x)
adds_then old mid new x true a b = record { size = b.size ∙ a.size; same = λ e. absurd cc; less = λ e. omega (arith, a.no_more, b.less refl); no_more = omega (arith, a.no_more, b.no_more) }
adds_then old mid new x false a b = record { size = b.size ∙ a.size; same = λ e. b.same refl ∙ a.same e; less = λ e. omega (arith, a.less e, b.no_more); no_more = omega (arith, a.no_more, b.no_more) }

times_le : (a b width : ℕ) → a ≤ b → a * width ≤ b * width
times_le a b width le = mul-le-mul_right width le

next_row : (a p width i j : ℕ) → a < p → i < width → a * width + i < p * width + j
next_row a p width i j lt within = let m = times_le (a + 1) p width (omega arith) in let s : (a + 1) * width ≡ a * width + width = omega arith in omega (arith, m, s)

-- two places of rows of one width that are one
pub one_place : (a p width i j : ℕ) → i < width → j < width → a * width + i ≡ p * width + j → (a ≡ p) × (i ≡ j)
one_place a p width i j k l e = elim (cases_eq a p) [
  | inl is ↦ (is, let m = ap (λ n. n * width) is in omega (arith, e, m))
  | inr ne ↦ elim (cases_lt a p) [
    | inl lt ↦ absurd (omega (arith, e, next_row a p width i j lt k))
    | inr le ↦ absurd (omega (arith, e, next_row p a width j i (omega arith) l))
  ]
]

pub row_ends : (p points width : ℕ) → p < points → p * width + width ≤ points * width
row_ends p points width lt = let m = times_le (p + 1) points width (omega arith) in let s : (p + 1) * width ≡ p * width + width = omega arith in omega (arith, m, s)

pub rows_apart : (p q width : ℕ) → p ≢ q → (p * width + width ≤ q * width) ⊎ (q * width + width ≤ p * width)
rows_apart p q width ne = elim (cases_lt p q) [ inl lt ↦ inl (row_ends p q width lt) | inr le ↦ inr (row_ends q p width (omega arith)) ]

way_of : (width : ℕ) (words : List ℕ) (a b w : ℕ) → slice_index words (a * width + b / 64) ≡ w → bit_at w (b % 64) ≡ 1 → HasWay width words a b
way_of width words a b w e h = ap (λ x. bit_at x (b % 64)) e ∙ h

bit_of : (width : ℕ) (words : List ℕ) (a b w : ℕ) → slice_index words (a * width + b / 64) ≡ w → HasWay width words a b → bit_at w (b % 64) ≡ 1
bit_of width words a b w e h = sym (ap (λ x. bit_at x (b % 64)) e) ∙ h

-- one way more
pub with_way : (width : ℕ) (words : List ℕ) (p q : ℕ) → p * width + q / 64 < length words → q / 64 < width → (a b : ℕ) → b / 64 < width
    → HasWay width (set words (p * width + q / 64) (bit_or (slice_index words (p * width + q / 64)) (1 * 2 ^ (q % 64) % 18446744073709551616))) a b ↔ (HasWay width words a b ⊎ ((a ≡ p) × (b ≡ q)))
with_way width words p q lt in_row a b b_in =
    let place = p * width + q / 64 in
    let w = slice_index words place in
    let new = bit_or w (1 * 2 ^ (q % 64) % 18446744073709551616) in
    elim (cases_eq (a * width + b / 64) place) [
      | inr other ↦
          let same = get_or-set_other words place (a * width + b / 64) new 0 other in (
            λ h. inl (bit_of width _ a b (slice_index words (a * width + b / 64)) same h),
            λ h. elim h [
              | inl was ↦ way_of width _ a b (slice_index words (a * width + b / 64)) same was
              | inr is ↦ absurd (other (ap (λ x. x * width + b / 64) is.0 ∙ ap (λ x. p * width + x / 64) is.1))
            ],
          )
      | inl here ↦
          let at = one_place a p width (b / 64) (q / 64) b_in in_row here in
          let now : slice_index (set words place new) (a * width + b / 64) ≡ new = ap (slice_index (set words place new)) here ∙ get_or-set_same words place new 0 lt in
          let was : slice_index words (a * width + b / 64) ≡ w = ap (slice_index words) here in
          let small : q % 64 < 64 = omega arith in
          elim (cases_eq (b % 64) (q % 64)) [
            | inl bit ↦ (λ h. inr (at.0, omega (arith, at.1, bit)), λ h. way_of width _ a b new now (ap (bit_at new) bit ∙ bit_at_set_same w64 w (q % 64) small))
            | inr apart ↦
                let keeps = bit_at_set_other w64 w (q % 64) small (b % 64) apart in (
                  λ h. inl (way_of width words a b w was (sym keeps ∙ bit_of width _ a b new now h)),
                  λ h. elim h [ inl had ↦ way_of width _ a b new now (keeps ∙ bit_of width words a b w was had) | inr is ↦ absurd (apart (ap (λ x. x % 64) is.1)) ],
                )
          ]
    ]

bit_of_max : (x y : ℕ) → x < 2 → y < 2 → (max x y ≡ 1) ↔ ((x ≡ 1) ⊎ (y ≡ 1))
bit_of_max x y h k = (λ e. elim (cases_eq x 1) [ inl is ↦ inl is | inr ne ↦ inr (omega arith) ], λ e. elim e [ inl is ↦ omega arith | inr is ↦ omega arith ])

-- the ways from p joined with those from q
pub with_row : (width : ℕ) (words new : List ℕ) (p q : ℕ)
    → ((k : ℕ) → k < width → slice_index new (p * width + k) ≡ bit_or (slice_index words (p * width + k)) (slice_index words (q * width + k)))
    → ((k : ℕ) → ((k < p * width) ⊎ (p * width + width ≤ k)) → slice_index new k ≡ slice_index words k)
    → (a b : ℕ) → b / 64 < width → HasWay width new a b ↔ (HasWay width words a b ⊎ ((a ≡ p) × HasWay width words q b))
with_row width words new p q joined kept a b within = elim (cases_eq a p) [
  | inl is ↦
      let x = bit_at (slice_index words (p * width + b / 64)) (b % 64) in
      let y = bit_at (slice_index words (q * width + b / 64)) (b % 64) in
      let e : bit_at (slice_index new (p * width + b / 64)) (b % 64) ≡ max x y =
      ap (λ w. bit_at w (b % 64)) (joined (b / 64) within) ∙ bit_at_or (slice_index words (p * width + b / 64)) (slice_index words (q * width + b / 64)) (b % 64) in
      let f = bit_of_max x y (bit_at-lt _ _) (bit_at-lt _ _) in (
        λ h. elim (f.0 (sym e ∙ subst (λ n. HasWay width new n b) is h)) [ inl r ↦ inl (subst (λ n. HasWay width words n b) (sym is) r) | inr o ↦ inr (is, o) ],
        λ h. subst (λ n. HasWay width new n b) (sym is) (e ∙ f.1 (elim h [ inl r ↦ inl (subst (λ n. HasWay width words n b) is r) | inr o ↦ inr o.1 ])),
      )
  | inr ne ↦
      let out : (a * width + b / 64 < p * width) ⊎ (p * width + width ≤ a * width + b / 64) = elim (cases_lt a p) [
        | inl lt ↦ inl (omega (arith, next_row a p width (b / 64) 0 lt within))
        | inr le ↦ inr (omega (arith, row_ends p a width (omega arith)))
      ] in
      let same = kept (a * width + b / 64) out in (
        λ h. inl (bit_of width new a b (slice_index words (a * width + b / 64)) same h),
        λ h. elim h [
          | inl was ↦ way_of width new a b (slice_index words (a * width + b / 64)) same was
          | inr o ↦ absurd (ne o.0)
        ],
      )
]

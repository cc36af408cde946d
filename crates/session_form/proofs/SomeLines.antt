-- Each script has lines that are answered.
use Rattle.std.proofs.Common.{◌≡◌, ◌≢◌, ◌⊎◌, ◌≤◌, ◌^◌, ◌++◌, Bool, true, false, ℕ, zero, suc, List, [], ◌∷◌, length, take, refl, sym, ap, subst, ◌∙◌, inl, inr, arith}
use Rattle.std.specs.Prelude.{drop}
use Rattle.std.proofs.lemmas.Bool.{cases_lt, cases_eq}
use Rattle.std.proofs.lemmas.List.{take-append-drop, length-take-le, take_at, length-append}
use Rattle.std.proofs.lemmas.List.Elements.{All-nil, All-cons}
use Rattle.session_form.specs.Scripts.{IsOneLine, HasLines, IsAllowed, IsTaken, AreLines, of_all, of_rest, of_cut}
use Rattle.session_form.proofs.OneScript.{first_line, rest_lines, one_splitting}

-- ---- the lines of bytes
abbrev Split : List ℕ → Type 0
Split bytes = (lines : List (List ℕ)) × (rest : List ℕ) × HasLines bytes lines rest

longer : (b : ℕ) (bytes : List ℕ) (lines : List (List ℕ)) (rest : List ℕ) → b ≢ 10 → HasLines bytes lines rest → Split (b ∷ bytes)
longer b bytes [] rest other h = ([], b ∷ rest, record { spells = ap (λ z. b ∷ z) h.spells; each = h.each; last = All-cons (λ x. x ≢ 10) b rest other h.last })
longer b bytes (l ∷ ls) rest other h = (
  (b ∷ l) ∷ ls,
  rest,
  record {
    spells = ap (λ z. b ∷ z) h.spells;
    each = All-cons IsOneLine (b ∷ l) ls (All-cons (λ x. x ≢ 10) b l other (first_line l ls h.each)) (rest_lines l ls h.each);
    last = h.last;
  },
)

split : (bytes : List ℕ) → Split bytes
split [] = ([], [], record { spells = refl; each = All-nil IsOneLine; last = All-nil (λ x. x ≢ 10) })
split (b ∷ bytes) =
    let s = split bytes in
    elim (cases_eq b 10) [
      | inl e ↦ ([] ∷ s.0, s.1, record { spells = ap (λ z. z ∷ bytes) e ∙ ap (λ z. 10 ∷ z) s.2.spells; each = All-cons IsOneLine [] s.0 (All-nil (λ x. x ≢ 10)) s.2.each; last = s.2.last })
      | inr other ↦ longer b bytes s.0 s.1 other s.2
    ]

-- ---- whether bytes are allowed
abbrev Decided : Type 0 → Type 0
Decided P = P ⊎ (P → ⊥)

whether_full : (bytes rest : List ℕ) (lines : List (List ℕ)) → HasLines bytes lines rest → length bytes ≤ 2 ^ 28 → length lines ≡ 2 ^ 20 → Decided (IsAllowed bytes)
whether_full bytes [] lines h few full = inl (few, λ ks q g. let same = one_splitting bytes lines ks [] q h g in (omega (arith, full, ap length same.0), λ e. sym same.1))
whether_full bytes (x ∷ rest) lines h few full = inr (λ a. absurd (cc ((a.1 lines (x ∷ rest) h).1 full)))

whether : (bytes : List ℕ) → Decided (IsAllowed bytes)
whether bytes =
    let s = split bytes in
    elim (cases_lt (2 ^ 28) (length bytes)) [
      | inl many ↦ inr (λ a. omega (arith, a.0, many))
      | inr few ↦ elim (cases_lt (2 ^ 20) (length s.0)) [
        | inl many ↦ inr (λ a. omega (arith, (a.1 s.0 s.1 s.2).0, many))
        | inr below ↦ elim (cases_eq (length s.0) (2 ^ 20)) [
          | inl full ↦ whether_full bytes s.1 s.0 s.2 few full
          | inr fewer ↦ inl (few, λ ks q g. let same = one_splitting bytes s.0 ks s.1 q s.2 g in (omega (arith, below, ap length same.0), λ e. absurd (fewer (ap length same.0 ∙ e))))
        ]
      ]
    ]

no_lines : HasLines [] [] []
no_lines = record { spells = refl; each = All-nil IsOneLine; last = All-nil (λ x. x ≢ 10) }

none_allowed : IsAllowed []
none_allowed = (omega arith, λ ks q g. let same = one_splitting [] [] ks [] q no_lines g in (omega (arith, ap length same.0), λ e. sym same.1))

-- ---- the greatest number up to n for which P holds
module _ (P : ℕ → Type 0) (decide : (n : ℕ) → Decided (P n)) (start : P 0) where
  greatest : (n : ℕ) → (k : ℕ) × (k ≤ n) × P k × ((j : ℕ) → j ≤ n → P j → j ≤ k)
  greatest zero = (0, omega arith, start, λ j le h. le)
  greatest (suc n) = elim (decide (suc n)) [
    | inl h ↦ (suc n, omega arith, h, λ j le g. le)
    | inr never ↦
        let (k, below, h, most) = greatest n in
        (k, omega (arith, below), h, λ j le g. elim (cases_eq j (suc n)) [ inl e ↦ absurd (never (subst P e g)) | inr other ↦ most j (omega (arith, le, other)) g ])
  ]

-- ---- what is taken of a script, and its lines
some_taken : (script : List ℕ) → (taken : List ℕ) × (after : List ℕ) × IsTaken script taken after
some_taken script =
    let (k, below, allowed, most) = greatest (λ n. IsAllowed (take n script)) (λ n. whether (take n script)) none_allowed (length script) in (
      take k script,
      drop k script,
      record {
        begins = sym (take-append-drop k script);
        allowed = allowed;
        longest = λ more left e a.
            let front : take (length more) script ≡ more = ap (take (length more)) e ∙ take_at more left (length more) refl in
            let within : length more ≤ length script = omega (arith, ap length e, length-append more left) in
            omega (arith, most (length more) within (subst IsAllowed (sym front) a), length-take-le k script below);
      },
    )

lines_of : (script taken after : List ℕ) → IsTaken script taken after → (c : Bool) × (lines : List (List ℕ)) × AreLines script c lines
lines_of script taken (x ∷ after) t = let s = split taken in (true, s.0, of_cut t (λ e. absurd (cc e)) s.2)
lines_of script taken [] t = let s = split taken in by_rest s.1 s.0 s.2
  where
    by_rest : (rest : List ℕ) (lines : List (List ℕ)) → HasLines taken lines rest → (c : Bool) × (lines : List (List ℕ)) × AreLines script c lines
    by_rest [] lines h = (false, lines, of_all t h)
    by_rest (x ∷ rest) lines h = (false, lines ++ ((x ∷ rest) ∷ []), of_rest t h (λ e. absurd (cc e)))

pub some_lines : (script : List ℕ) → (c : Bool) × (lines : List (List ℕ)) × AreLines script c lines
some_lines script = let (taken, after, t) = some_taken script in lines_of script taken after t

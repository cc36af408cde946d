-- Two lists of one set have one length.
use Rattle.std.proofs.Common.{◌≡◌, ◌≢◌, ◌<◌, ◌≤◌, ◌+◌, ◌-◌, ℕ, suc, List, [], ◌∷◌, length, get_or, Contains, refl, sym, subst, ◌∙◌, inl, inr, arith}
use Rattle.std.specs.Prelude.{AllPairs, remove}
use Rattle.std.proofs.lemmas.Bool.{cases_eq, cases_lt}
use Rattle.std.proofs.lemmas.Option.{slice_get-get_or, same_Some}
use Rattle.std.proofs.lemmas.List.Edits.{length-remove, get_or-remove_below, get_or-remove_above}
use Rattle.std.proofs.lemmas.List.Elements.{All-contains}
use Rattle.slicer_ids.specs.Sets.{IsListOf}

-- what is at a place within the list, whatever is asked for places beyond
one_item : {A : Type 0} (xs : List A) (k : ℕ) (d e : A) → k < length xs → get_or xs k d ≡ get_or xs k e
one_item xs k d e lt = same_Some _ _ (sym (slice_get-get_or xs k d lt) ∙ slice_get-get_or xs k e lt)

-- another item stays when one is removed
pub stays : {A : Type 0} (ys : List A) (k : ℕ) (x z : A) → k < length ys → get_or ys k x ≡ x → Contains ys z → (x ≡ z → ⊥) → Contains (remove ys k) z
stays ys k x z lt at c other = elim (cases_lt c.0 k) [
  | inl before ↦ (c.0, omega (arith, length-remove ys k lt, before, lt), get_or-remove_below ys k z c.0 before lt ∙ c.2)
  | inr past ↦ elim (cases_eq c.0 k) [
    | inl same ↦ absurd (other (sym at ∙ one_item ys k x z lt ∙ subst (λ j. get_or ys j z ≡ z) same c.2))
    | inr apart ↦
        let j : c.0 - 1 + 1 ≡ c.0 = omega arith in
        (c.0 - 1, omega (arith, length-remove ys k lt, c.1), get_or-remove_above ys k z (c.0 - 1) (omega arith) lt ∙ subst (λ i. get_or ys i z ≡ z) (sym j) c.2)
  ]
]

-- a list without repeats is no longer than one that has all its items
pub no_longer : {A : Type 0} (xs ys : List A) → AllPairs (λ x y. x ≢ y) xs → ((x : A) → Contains xs x → Contains ys x) → length xs ≤ length ys
no_longer [] ys once sub = omega arith
no_longer (x ∷ xs) ys once sub =
    let c = sub x (0, omega arith, refl) in
    let rest = no_longer xs (remove ys c.0) (λ i j d lt within. once (suc i) (suc j) d (omega arith) (omega arith))
    (λ z h. stays ys c.0 x z c.1 c.2 (sub z (suc h.0, omega (arith, h.1), h.2)) (λ e. once 0 (suc h.0) z (omega arith) (omega (arith, h.1)) (e ∙ sym h.2))) in
    omega (arith, rest, length-remove ys c.0 c.1)

pub one_length : {A : Type 0} (P : A → Type 0) (xs ys : List A) → IsListOf xs P → IsListOf ys P → length xs ≡ length ys
one_length P xs ys p q =
    let a = no_longer xs ys p.once (λ x c. q.whole x (All-contains P xs x p.each c)) in
    let b = no_longer ys xs q.once (λ x c. p.whole x (All-contains P ys x q.each c)) in
    omega arith

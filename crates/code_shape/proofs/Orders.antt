-- Instructions in order, and the first of a kind.
use Rattle.std.proofs.Common.{◌≡◌, ◌<◌, ◌≤◌, ◌+◌, ℕ, List, take, length, get_or, All, Contains, Some, ◌⊎◌, inl, inr, refl, sym, ap, subst, ◌∙◌, arith}
use Rattle.std.specs.Prelude.{slice_get}
use Rattle.std.proofs.lemmas.Bool.{cases_lt}
use Rattle.std.proofs.lemmas.Option.{slice_get_within, slice_get-get_or, get_or_from_slice_get, same_Some}
use Rattle.std.proofs.lemmas.List.{get_or-take, length-take, take_more, take_all}
use Rattle.std.proofs.lemmas.List.Elements.{All-contains, Contains-push_cases}
use Rattle.class_form.specs.declared.body.Instr.{Instr}
use Rattle.class_form.specs.Shapes.{HasInstr, IsLeast}
use Rattle.code_shape.specs.Codes.{IsAt, AreInOrder, IsIndexOf}

-- an element and its index
pub index_in : {A : Type 0} (xs : List A) (x : A) → Contains xs x → (k : ℕ) × (slice_get xs k ≡ Some x)
index_in {A} xs x c = (c.0, slice_get-get_or xs c.0 x c.1 ∙ ap (λ (y : A). Some y) c.2)

pub there_at : {A : Type 0} (xs : List A) (k : ℕ) (x : A) → slice_get xs k ≡ Some x → Contains xs x
there_at xs k x e = (k, slice_get_within xs k x e, get_or_from_slice_get xs k x x e)

pub read_at : {A : Type 0} (xs : List A) (k : ℕ) (x : A) → k < length xs → x ≡ get_or xs k x → slice_get xs k ≡ Some x
read_at {A} xs k x lt e = slice_get-get_or xs k x lt ∙ ap (λ (y : A). Some y) (sym e)

-- what all of the first have, each of them has
pub all_before : {A : Type 0} (P : A → Type 0) (xs : List A) (k j : ℕ) (x : A) → All P (take k xs) → k ≤ length xs → j < k → slice_get xs j ≡ Some x → P x
all_before P xs k j x all le lt e = subst P (get_or-take k xs j x lt ∙ get_or_from_slice_get xs j x x e) (all j x (omega (arith, length-take k xs)))

-- the first instruction of a kind has the least pc of those
pub first_of_kind : (instrs : List Instr) (Is : Instr → Type 0) (k : ℕ) (x : Instr) → AreInOrder instrs → IsAt instrs k x → Is x
    → ((j : ℕ) (i : Instr) → j < k → IsAt instrs j i → Is i → ⊥) → IsLeast (HasInstr instrs Is) x.pc
first_of_kind instrs Is k x order at is none = ((x, (there_at instrs k x at, refl), is), least)
  where
    least : (m : ℕ) → HasInstr instrs Is m → x.pc ≤ m
    least m h =
        let i = h.0 in
        let j = index_in instrs i h.1.0 in
        elim (cases_lt j.0 k) [
          | inl lt ↦ absurd (none j.0 i lt j.1 h.2)
          | inr le ↦ elim (cases_lt k j.0) [
            | inl lt ↦ omega (arith, order k j.0 x i lt at j.1, h.1.1)
            | inr ge ↦ let e : j.0 ≡ k = omega arith in let same : x ≡ i = same_Some x i (sym at ∙ ap (slice_get instrs) (sym e) ∙ j.1) in omega (arith, ap (λ (y : Instr). y.pc) same, h.1.1)
          ]
        ]

-- a loop that finds each element to be of a kind
pub each_more : {A : Type 0} (P : A → Type 0) (xs : List A) (k : ℕ) (d : A) → k < length xs → ((x : A) → Contains (take k xs) x → P x) → P (get_or xs k d) → (x : A) → Contains (take (k + 1) xs) x → P x
each_more {A} P xs k d lt before here x c = elim (Contains-push_cases (take k xs) (get_or xs k d) x (subst (λ (ys : List A). Contains ys x) (take_more xs k d lt) c)) [ inl o ↦ before x o | inr e ↦ subst P e here ]

pub each_all : {A : Type 0} (P : A → Type 0) (xs : List A) (k : ℕ) → length xs ≤ k → ((x : A) → Contains (take k xs) x → P x) → (x : A) → Contains xs x → P x
each_all {A} P xs k le all x c = all x (subst (λ (ys : List A). Contains ys x) (sym (take_all k xs le)) c)

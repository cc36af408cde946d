-- Lines by place in the tables, and lines by what stands before and behind.
use Rattle.std.proofs.Common.{◌≡◌, ◌⊎◌, ◌<◌, ◌≤◌, ◌+◌, ◌++◌, ℕ, zero, suc, List, [], ◌∷◌, length, Contains, Option, Some, None, inl, inr, refl, sym, ap, subst, ◌∙◌, arith}
use Rattle.std.specs.Prelude.{slice_get}
use Rattle.std.specs.List.{flat_map}
use Rattle.std.proofs.lemmas.Bool.{cases_lt}
use Rattle.std.proofs.lemmas.Option.{same_Some, slice_get_within}
use Rattle.class_form.specs.declared.class_file.CodeAttribute.{CodeAttribute}
use Rattle.class_form.specs.declared.class_file.CodeBody.{CodeBody}
use Rattle.class_form.specs.declared.class_file.CodeContent.{CodeContent}
use Rattle.class_form.specs.declared.class_file.CodeContent.TheVariants.{Lines, Other}
use Rattle.class_form.proofs.Indices.{index_in, there_at}
use Rattle.fact_form.proofs.ItemLists.{join_left, join_right, joined}
use Rattle.line_numbers.specs.LineTables.{IsLineAt, lines_in, lines_of, lines_of_one}
use Rattle.program_form.specs.Lines.{IsLine, line_pairs, pairs_of}

-- the pairs of all tables
same_content : (c : CodeContent) → lines_in c ≡ pairs_of c
same_content (Lines pairs) = refl
same_content (Other bytes) = refl

pub same_pairs : (as' : List CodeAttribute) → flat_map lines_of_one as' ≡ line_pairs as'
same_pairs [] = refl
same_pairs (a ∷ as') = ap (λ (xs : List (ℕ × ℕ)). lines_of_one a ++ xs) (same_pairs as') ∙ ap (λ (xs : List (ℕ × ℕ)). xs ++ line_pairs as') (same_content a.content)

-- a list at a place of it
pub record IsCutAt {A : Type 0} (xs : List A) (k : ℕ) (x : A) : Type 0 where
  pub before : List A
  pub behind : List A
  pub is : xs ≡ before ++ x ∷ behind
  pub size : length before ≡ k

cut_at : {A : Type 0} (xs : List A) (k : ℕ) (x : A) → slice_get xs k ≡ Some x → IsCutAt xs k x
cut_at {A} [] k x e = absurd (omega (arith, slice_get_within [] k x e))
cut_at {A} (y ∷ xs) zero x e = record { before = []; behind = xs; is = ap (λ (z : A). z ∷ xs) (same_Some y x e); size = refl }
cut_at {A} (y ∷ xs) (suc k) x e =
    let c = cut_at xs k x e in
    record { before = y ∷ c.before; behind = c.behind; is = ap (λ (zs : List A). y ∷ zs) c.is; size = ap suc c.size }

pub to_meaning : (pairs : List (ℕ × ℕ)) (pc : ℕ) (o : Option ℕ) → IsLineAt pairs pc o → IsLine pairs pc o
to_meaning pairs pc None h = λ x among. let i = index_in pairs x among in omega (arith, h i.0 x i.1)
to_meaning pairs pc (Some line) (start, below, (k, at, last), most) =
    let c = cut_at pairs k (start, line) at in (
      c.before,
      start,
      c.behind,
      c.is,
      omega (arith, below),
      (λ x among le.
          let i = index_in c.before x among in
          let there : slice_get pairs i.0 ≡ Some x = subst (λ (xs : List (ℕ × ℕ)). slice_get xs i.0 ≡ Some x) (sym c.is) (join_left c.before ((start, line) ∷ c.behind) i.0 x i.1) in
          most i.0 x there (omega (arith, le))),
      (λ x among le.
          let i = index_in c.behind x among in
          let j : ℕ = length c.before + suc i.0 in
          let there : slice_get pairs j ≡ Some x = subst (λ (xs : List (ℕ × ℕ)). slice_get xs j ≡ Some x) (sym c.is) (join_right c.before ((start, line) ∷ c.behind) (suc i.0) j x refl i.1) in
          let up : x.0 ≤ start = most j x there (omega (arith, le)) in
          elim (cases_lt x.0 start) [
            | inl lt ↦ lt
            | inr ge ↦
                let same : x.0 ≡ start = omega (arith, up, ge) in
                let again : slice_get pairs j ≡ Some (start, x.1) = there ∙ ap (λ (n : ℕ). Some (n, x.1)) same in
                absurd (omega (arith, last j x.1 again, c.size))
          ]),
    )

-- what stands at a place: before, the pair itself, or behind
at_place : (before behind : List (ℕ × ℕ)) (p : ℕ × ℕ) (j : ℕ) (x : ℕ × ℕ) → slice_get (before ++ p ∷ behind) j ≡ Some x → (Contains before x × (j < length before)) ⊎ (((j ≡ length before) × (p ≡ x)) ⊎ Contains behind x)
at_place before behind p j x at = elim (joined before (p ∷ behind) j x at) [
  | inl h ↦ inl (there_at before j x h, slice_get_within before j x h)
  | inr (k, place, h) ↦ inr (by_index k place h)
]
  where
    by_index : (k : ℕ) → j ≡ length before + k → slice_get (p ∷ behind) k ≡ Some x → ((j ≡ length before) × (p ≡ x)) ⊎ Contains behind x
    by_index zero place h = inl (omega (arith, place), same_Some p x h)
    by_index (suc k) place h = inr (there_at behind k x h)

pub of_meaning : (pairs : List (ℕ × ℕ)) (pc : ℕ) (o : Option ℕ) → IsLine pairs pc o → IsLineAt pairs pc o
of_meaning pairs pc None h = λ j l at. omega (arith, h l (there_at pairs j l at))
of_meaning pairs pc (Some line) (before, start, behind, e, le, front, back) =
    let k : ℕ = length before in
    let here : slice_get pairs k ≡ Some (start, line) = subst (λ (xs : List (ℕ × ℕ)). slice_get xs k ≡ Some (start, line)) (sym e) (join_right before ((start, line) ∷ behind) 0 k (start, line) (omega arith) refl) in (
      start,
      omega (arith, le),
      (
        k,
        here,
        (λ j other at. elim (at_place before behind (start, line) j (start, other) (subst (λ (xs : List (ℕ × ℕ)). slice_get xs j ≡ Some (start, other)) e at)) [
          | inl near ↦ omega (arith, near.1)
          | inr (inl same) ↦ omega (arith, same.0)
          | inr (inr far) ↦ absurd (omega (arith, back (start, other) far le))
        ]),
      ),
      (λ j l at lt. elim (at_place before behind (start, line) j l (subst (λ (xs : List (ℕ × ℕ)). slice_get xs j ≡ Some l) e at)) [
        | inl near ↦ front l near.0 (omega (arith, lt))
        | inr (inl same) ↦ omega (arith, ap (λ (x : ℕ × ℕ). x.0) same.1)
        | inr (inr far) ↦ omega (arith, back l far (omega (arith, lt)))
      ]),
    )

-- the same of a code
pub line_meant : (code : CodeBody) (pc : ℕ) (o : Option ℕ) → IsLineAt (lines_of code) pc o → IsLine (line_pairs code.attributes) pc o
line_meant code pc o h = to_meaning (line_pairs code.attributes) pc o (subst (λ (xs : List (ℕ × ℕ)). IsLineAt xs pc o) (same_pairs code.attributes) h)

pub line_found : (code : CodeBody) (pc : ℕ) (o : Option ℕ) → IsLine (line_pairs code.attributes) pc o → IsLineAt (lines_of code) pc o
line_found code pc o h = subst (λ (xs : List (ℕ × ℕ)). IsLineAt xs pc o) (sym (same_pairs code.attributes)) (of_meaning (line_pairs code.attributes) pc o h)

-- One pair more, and one program counter more.
use Rattle.std.proofs.Common.{◌≡◌, OnOk, Result, Ok, Err, ◌-◌, Bool, true, false, take, append_assoc, ◌≢◌, ◌⊎◌, ◌<◌, ◌≤◌, ◌+◌, ◌++◌, ◌∷◌, [], ℕ, zero, suc, List, Option, Some, None, length, get_or, set, inl, inr, refl, sym, ap, subst, ◌∙◌, arith, length-append, get_or-set_same, get_or-set_other}
use Rattle.std.specs.Prelude.{slice_get, slice_index_or, nat_lt, if◌then◌else◌}
use Rattle.std.proofs.lemmas.Bool.{cases_eq, cases_lt}
use Rattle.std.proofs.lemmas.Option.{slice_get_within, slice_get-get_or, same_Some}
use Rattle.std.specs.Bool.{Decides}
use Rattle.std.specs.List.{flat_map}
use Rattle.std.proofs.lemmas.Bool.Decides.{Decides-ltb}
use Rattle.std.proofs.lemmas.List.{get_or_past, take_more, append-nil}
use Rattle.std.proofs.Math.ListN.{get_or-append}
use Rattle.std.proofs.Math.Seq.{get_or-append_right}
use Rattle.std.proofs.lemmas.Grind.{flat_map-append}
use Rattle.class_form.specs.declared.class_file.CodeAttribute.{CodeAttribute}
use Rattle.line_numbers.specs.LineTables.{lines_in, lines_of_one, IsLastAt, IsLineBelow, IsLineAt, AreLasts}

-- what holds of one outcome holds of the other
pub on_ok : {A E : Type 0} {P Q : Type 0} (r : Result A E) → (P → Q) → OnOk r P → OnOk r Q
on_ok (Ok x) f p = f p
on_ok (Err e) f p = tt

-- A LIST WITH ONE ITEM MORE

push_cases : {A : Type 0} (xs : List A) (y z : A) (j : ℕ) → slice_get (xs ++ y ∷ []) j ≡ Some z → (slice_get xs j ≡ Some z) ⊎ ((j ≡ length xs) × (y ≡ z))
push_cases [] y z zero e = inr (refl, same_Some y z e)
push_cases [] y z (suc j) e = absurd cc
push_cases (x ∷ xs) y z zero e = inl e
push_cases (x ∷ xs) y z (suc j) e = elim (push_cases xs y z j e) [ inl h ↦ inl h | inr h ↦ inr (ap (λ (n : ℕ). suc n) h.0, h.1) ]

push_keeps : {A : Type 0} (xs ys : List A) (z : A) (j : ℕ) → slice_get xs j ≡ Some z → slice_get (xs ++ ys) j ≡ Some z
push_keeps [] ys z j e = absurd cc
push_keeps (x ∷ xs) ys z zero e = e
push_keeps (x ∷ xs) ys z (suc j) e = push_keeps xs ys z j e

push_last : {A : Type 0} (xs : List A) (y : A) → slice_get (xs ++ y ∷ []) (length xs) ≡ Some y
push_last [] y = refl
push_last (x ∷ xs) y = push_last xs y

-- an item within a list doesn't depend on the default
pub same : {A : Type 0} (xs : List A) (k : ℕ) (x y : A) → k < length xs → get_or xs k x ≡ get_or xs k y
same xs k x y lt = same_Some (get_or xs k x) (get_or xs k y) (sym (slice_get-get_or xs k x lt) ∙ slice_get-get_or xs k y lt)

-- room that is made at the end has no line
pub grown : (old new : List (Option ℕ)) → new ≡ old ++ None ∷ [] → (k : ℕ) → slice_index_or new k None ≡ slice_index_or old k None
grown old new e k = ap (λ (xs : List (Option ℕ)). slice_index_or xs k None) e ∙ elim (cases_lt k (length old)) [
  | inl lt ↦ get_or-append old (None ∷ []) None k lt
  | inr le ↦ get_or-append_right old (None ∷ []) k None le ∙ none (k - length old) ∙ sym (get_or_past old k None le)
]
  where
    none : (j : ℕ) → ◌≡◌ {A = Option ℕ} (get_or (None ∷ []) j None) None
    none zero = refl
    none (suc j) = refl

-- WHERE LINES BEGIN

module _ (lines : List (ℕ × ℕ)) (start line : ℕ) where
  abbrev more : List (ℕ × ℕ)
  more = lines ++ (start, line) ∷ []

  here : IsLastAt more start (Some line)
  here = (length lines, push_last lines (start, line), λ j other e. let lt : j < length more = slice_get_within more j (start, other) e in omega (arith, length-append lines ((start, line) ∷ [])))

  elsewhere : (pc j other : ℕ) → pc ≢ start → slice_get more j ≡ Some (pc, other) → slice_get lines j ≡ Some (pc, other)
  elsewhere pc j other differs e = elim (push_cases lines (start, line) (pc, other) j e) [ inl h ↦ h | inr h ↦ absurd (differs (sym (ap (λ (l : ℕ × ℕ). l.0) h.1))) ]

  stays : (pc : ℕ) (entry : Option ℕ) → pc ≢ start → IsLastAt lines pc entry → IsLastAt more pc entry
  stays pc None differs h = λ j other e. h j other (elsewhere pc j other differs e)
  stays pc (Some l) differs h = (h.0, push_keeps lines ((start, line) ∷ []) (pc, l) h.0 h.1, λ j other e. h.2 j other (elsewhere pc j other differs e))

  pub one_more : (old grown : List (Option ℕ)) → start < length grown → ((k : ℕ) → slice_index_or grown k None ≡ slice_index_or old k None)
      → AreLasts lines old → AreLasts more (set grown start (Some line))
  one_more old grown within same lasts = λ pc. elim (cases_eq pc start) [
    | inl e ↦ rw e (subst (IsLastAt more start) (sym (get_or-set_same grown start (Some line) None within)) here)
    | inr differs ↦ subst (IsLastAt more pc) (sym (get_or-set_other grown start pc (Some line) None differs ∙ same pc)) (stays pc (slice_index_or old pc None) differs (lasts pc))
  ]

-- WHERE LINES GO ON

pub no_pair_below : (lines : List (ℕ × ℕ)) → IsLineBelow lines 0 None
no_pair_below lines = λ j l at. omega arith

-- behind the last program counter at which a line begins the last line goes on
pub past : (lines : List (ℕ × ℕ)) (size pc : ℕ) (line : Option ℕ) → ((k : ℕ) → size ≤ k → IsLastAt lines k None) → size ≤ pc + 1 → IsLineBelow lines size line → IsLineAt lines pc line
past lines size pc None none le h = λ j l at. elim (cases_lt l.0 size) [ inl lt ↦ let far = h j l at in absurd (omega arith) | inr far ↦ absurd (none l.0 far j l.1 at) ]
past lines size pc (Some line) none le h = (h.0, omega (arith, h.1), h.2, λ j l at lt. elim (cases_lt l.0 size) [ inl near ↦ h.3 j l at near | inr far ↦ absurd (none l.0 far j l.1 at) ])

-- a table of lines that were filled in, for every program counter
pub all_lines : (lines : List (ℕ × ℕ)) (first filled : List (Option ℕ)) → AreLasts lines first → length filled ≡ length first
    → ((pc : ℕ) → pc < length first → IsLineAt lines pc (slice_index_or filled pc None)) → (pc : ℕ) → IsLineAt lines pc (slice_index_or filled (if nat_lt pc (length filled) then pc else length filled - 1) None)
all_lines lines first filled lasts size near pc = by_size (nat_lt pc (length filled)) (Decides-ltb pc (length filled))
  where
    none : (k : ℕ) → length first ≤ k → IsLastAt lines k None
    none k le = subst (IsLastAt lines k) (get_or_past first k None le) (lasts k)

    far : (n : ℕ) → length filled ≡ n → length filled ≤ pc → IsLineAt lines pc (slice_index_or filled (n - 1) None)
    far zero e le = subst (IsLineAt lines pc) (sym (get_or_past filled 0 None (omega arith))) (past lines 0 pc None (λ k low. none k (omega arith)) (omega arith) (no_pair_below lines))
    far (suc n) e le =
        let last : n ≡ suc n - 1 = omega arith in
        subst (λ (m : ℕ). IsLineAt lines pc (slice_index_or filled m None)) last (past lines (suc n) pc (slice_index_or filled n None) (λ k low. none k (omega arith)) (omega arith) (subst (λ (m : ℕ). IsLineBelow lines m (slice_index_or filled n None)) (omega arith) (near n (omega arith))))

    by_size : (b : Bool) → Decides b (pc < length filled) → IsLineAt lines pc (slice_index_or filled (if b then pc else length filled - 1) None)
    by_size true d = near pc (omega (arith, d.0 refl, size))
    by_size false d = elim (cases_lt pc (length filled)) [ inl lt ↦ absurd (let e = d.1 lt in cc) | inr le ↦ far (length filled) refl le ]

-- LISTS THAT GROW BY ONE

pub more_lines : (P : List (ℕ × ℕ) → Type 0) (lines before : List (ℕ × ℕ)) (i : ℕ) (x d : ℕ × ℕ) → i < length lines → x ≡ get_or lines i d → P ((before ++ take i lines) ++ x ∷ []) → P (before ++ take (i + 1) lines)
more_lines P lines before i x d lt is h =
    subst P (append_assoc before (take i lines) (x ∷ []) ∙ ap (λ (t : List (ℕ × ℕ)). before ++ t) (ap (λ (y : ℕ × ℕ). take i lines ++ y ∷ []) is ∙ sym (take_more lines i d lt))) h

pub more_tables : (P : List (ℕ × ℕ) → Type 0) (tables : List CodeAttribute) (before : List (ℕ × ℕ)) (i : ℕ) (x : CodeAttribute) → i < length tables → x ≡ get_or tables i x
    → P ((before ++ flat_map lines_of_one (take i tables)) ++ lines_in x.content) → P (before ++ flat_map lines_of_one (take (i + 1) tables))
more_tables P tables before i x lt is h =
    subst P (append_assoc before (flat_map lines_of_one (take i tables)) (lines_in x.content) ∙ ap (λ (t : List (ℕ × ℕ)). before ++ t) (sym grown)) h
  where
    grown : flat_map lines_of_one (take (i + 1) tables) ≡ flat_map lines_of_one (take i tables) ++ lines_in x.content
    grown =
        ap (λ (ts : List CodeAttribute). flat_map lines_of_one ts) (take_more tables i x lt ∙ ap (λ (y : CodeAttribute). take i tables ++ y ∷ []) (sym is))
        ∙ flat_map-append lines_of_one (take i tables) (x ∷ []) ∙ ap (λ (t : List (ℕ × ℕ)). flat_map lines_of_one (take i tables) ++ t) (append-nil (lines_in x.content))

pub nothing_yet : AreLasts [] []
nothing_yet = λ start j other e. absurd cc

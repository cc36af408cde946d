-- Numbering the texts of a pool.
use Rattle.std.proofs.Common.{◌≡◌, inl, inr, ℕ, zero, suc, ◌+◌, ◌<◌, Bool, true, false, cond, List, [], ◌∷◌, ◌++◌, length, get_or, Option, Some, None, refl, sym, ap, ◌∙◌, length-append, get_or-append-add, arith}
use Rattle.std.specs.Prelude.{slice_get, option_and_then}
use Rattle.std.specs.Str.{bytes_eq}
use Rattle.std.specs.Bool.{Decides}
use Rattle.std.proofs.lemmas.Bool.{cases_lt}
use Rattle.std.proofs.lemmas.Slice.Eq.{bytes_eq-Decides}
use Rattle.std.proofs.Math.ListN.{get_or-append}
use Rattle.class_form.specs.Pools.{utf_at, text_of}
use Rattle.class_form.specs.declared.pool.Pool.{Pool}
use Rattle.class_form.specs.declared.pool.Constant.{Constant}
use Rattle.class_form.specs.declared.pool.Constant.TheVariants.{Utf8}
use Rattle.std.specs.BTreeMap as tree
use Rattle.std.specs.BTreeMap.{BTreeMap}
use Rattle.std.specs.Ordering.{nat_cmp}
use Rattle.std.specs.Cmp.Lexicographic.{slice_cmp}
use denote.Bor.{Bor}
use Rattle.std.proofs.lemmas.Map.Text.{is_eq-slice_cmp}
use Rattle.class_reader.specs.Numbers.{first_in, IsFirst, IsNumbered, IsNumbering, number_at, AreNumbersOf}

some_is : {A : Type 0} (x y : A) → Some x ≡ Some y → x ≡ y
some_is x y e = cc

same_utf : (s t : List ℕ) → Some (Utf8 s) ≡ Some (Utf8 t) → s ≡ t
same_utf s t e = cc

module _ (cs : List Constant) (i : ℕ) (numbers : List ℕ) (old new : List ℕ → Option ℕ) (n : ℕ) (h : IsNumbering cs i numbers old) where
  grown : length (numbers ++ n ∷ []) ≡ i + 1
  grown = omega (arith, h.len, length-append numbers (n ∷ []))

  before : (j : ℕ) → j < i → get_or (numbers ++ n ∷ []) j 0 ≡ get_or numbers j 0
  before j lt = get_or-append numbers (n ∷ []) 0 j (omega (arith, h.len))

  here : get_or (numbers ++ n ∷ []) i 0 ≡ n
  here = let at : length numbers + 0 ≡ i = omega (arith, h.len) in ap (λ k. get_or (numbers ++ n ∷ []) k 0) (sym at) ∙ get_or-append-add numbers (n ∷ []) 0 0

  -- a constant that is no text
  plain_step : (c : Constant) → slice_get cs i ≡ Some c → ((s : List ℕ) → c ≡ Utf8 s → ⊥) → ((s : List ℕ) → new s ≡ old s) → IsNumbering cs (i + 1) (numbers ++ n ∷ []) new
  plain_step c at other same = record {
    len = grown;
    met = λ j s lt e. elim (cases_lt j i) [
      | inl less ↦ same s ∙ h.met j s less e ∙ ap (λ (k : ℕ). Some k) (sym (before j less))
      | inr more ↦ absurd (let is : j ≡ i = omega arith in other s (some_is c (Utf8 s) (sym at ∙ ap (slice_get cs) (sym is) ∙ e)))
    ];
    kept = λ s k e. h.kept s k (sym (same s) ∙ e);
  }

  text_met : (t : List ℕ) → slice_get cs i ≡ Some (Utf8 t) → IsFirst t i old new n → (j : ℕ) (s : List ℕ) → j < i + 1 → slice_get cs j ≡ Some (Utf8 s) → new s ≡ Some (get_or (numbers ++ n ∷ []) j 0)
  text_met t at f j s lt e = elim (cases_lt j i) [
    | inl less ↦ f.0 s ∙ by (bytes_eq t s) (bytes_eq-Decides t s) less (h.met j s less e) ∙ ap (λ (k : ℕ). Some k) (sym (before j less))
    | inr more ↦
        let is : j ≡ i = omega arith in
        let same : t ≡ s = same_utf t s (sym at ∙ ap (slice_get cs) (sym is) ∙ e) in
        f.0 s ∙ ap (λ b. cond b (Some n) (old s)) ((bytes_eq-Decides t s).1 same) ∙ ap (λ (k : ℕ). Some k) (sym (ap (λ k. get_or (numbers ++ n ∷ []) k 0) is ∙ here))
  ]
    where
      by : (b : Bool) → Decides b (t ≡ s) → j < i → old s ≡ Some (get_or numbers j 0) → cond b (Some n) (old s) ≡ Some (get_or numbers j 0)
      by true d less m = elim f.1 [
        | inl k ↦ sym k ∙ ap old (d.0 refl) ∙ m
        | inr k ↦ absurd (let e = sym k.0 ∙ ap old (d.0 refl) ∙ m in cc)
      ]
      by false d less m = m

  text_kept : (t : List ℕ) → slice_get cs i ≡ Some (Utf8 t) → IsFirst t i old new n → (s : List ℕ) (k : ℕ) → new s ≡ Some k → slice_get cs k ≡ Some (Utf8 s)
  text_kept t at f s k e = by (bytes_eq t s) (bytes_eq-Decides t s) (sym (f.0 s) ∙ e)
    where
      by : (b : Bool) → Decides b (t ≡ s) → cond b (Some n) (old s) ≡ Some k → slice_get cs k ≡ Some (Utf8 s)
      by true d m =
          let same : n ≡ k = some_is n k m in
          let text = ap (λ (x : List ℕ). Some (Utf8 x)) (d.0 refl) in
          elim f.1 [
            | inl q ↦ h.kept t k (q ∙ m) ∙ text
            | inr q ↦ ap (slice_get cs) (sym same ∙ q.1) ∙ at ∙ text
          ]
      by false d m = h.kept s k m

  text_step : (t : List ℕ) → slice_get cs i ≡ Some (Utf8 t) → IsFirst t i old new n → IsNumbering cs (i + 1) (numbers ++ n ∷ []) new
  text_step t at f = record { len = grown; met = text_met t at f; kept = text_kept t at f }

pub step : (cs : List Constant) (i : ℕ) (numbers : List ℕ) (old new : List ℕ → Option ℕ) (n : ℕ) → IsNumbering cs i numbers old → (c : Constant) → slice_get cs i ≡ Some c → IsNumbered c i old new n → IsNumbering cs (i + 1) (numbers ++ n ∷ []) new
step cs i numbers old new n h (Utf8 t) at f = text_step cs i numbers old new n h t at f
step cs i numbers old new n h c at f = plain_step cs i numbers old new n h c at (λ s e. absurd cc) f

pub begun : (cs : List Constant) (number : List ℕ → Option ℕ) → ((s : List ℕ) → number s ≡ None) → IsNumbering cs 0 [] number
begun cs number none = record { len = refl; met = λ j s lt e. absurd (omega (arith, lt)); kept = λ s n e. absurd (let f = sym (none s) ∙ e in cc) }

utf_constant : (o : Option Constant) (s : List ℕ) → option_and_then text_of o ≡ Some s → o ≡ Some (Utf8 s)
utf_constant None s e = absurd cc
utf_constant (Some (Utf8 t)) s e = let same : t ≡ s = cc in ap (λ (x : List ℕ). Some (Utf8 x)) same
utf_constant (Some c) s e = absurd cc

within : {A : Type 0} (xs : List A) (i : ℕ) (x : A) → slice_get xs i ≡ Some x → i < length xs
within [] i x e = absurd cc
within (y ∷ xs) zero x e = omega arith
within (y ∷ xs) (suc i) x e = omega (arith, within xs i x e)

number_met : (p : Pool) (numbers : List ℕ) (number : List ℕ → Option ℕ) → IsNumbering p.constants (length p.constants) numbers number → (i : ℕ) (s : List ℕ) → utf_at p i ≡ Some s → number s ≡ Some (number_at numbers i)
number_met p numbers number h zero s e = absurd cc
number_met p numbers number h (suc i) s e =
    let c = utf_constant (slice_get p.constants i) s e in
    h.met i s (within p.constants i (Utf8 s) c) c

pub whole : (p : Pool) (numbers : List ℕ) (number : List ℕ → Option ℕ) → IsNumbering p.constants (length p.constants) numbers number → AreNumbersOf p numbers
whole p numbers number h i j s t e f =
    let a = number_met p numbers number h i s e in
    let b = number_met p numbers number h j t f in (
      λ same. same_utf s t (sym (h.kept s (number_at numbers i) a) ∙ ap (slice_get p.constants) same ∙ h.kept t (number_at numbers j) b),
      λ same. some_is (number_at numbers i) (number_at numbers j) (sym a ∙ ap number same ∙ b),
    )

pub empty_first : (m : BTreeMap (Bor (List ℕ)) ℕ) → tree.IsEmpty m → (s : List ℕ) → first_in m s ≡ None
empty_first m e s = rw e refl

-- a text was put in under the next number
pub put : (old new : BTreeMap (Bor (List ℕ)) ℕ) (t : Bor (List ℕ)) (next : ℕ) → tree.Updates (λ (x y : Bor (List ℕ)). slice_cmp nat_cmp x.now y.now) old new t (Some next) → first_in old t.now ≡ None → IsFirst t.now next (first_in old) (first_in new) next
put old new t next h none = (
  λ s.
      let q : Bor (List ℕ) = record { ref_ptr = t.ref_ptr; now = s } in
      h.0 q ∙ ap (λ b. cond b (Some next) (first_in old s)) (is_eq-slice_cmp t.now s),
  inr (none, refl),
)

-- What a line says, of which the first bytes are at hand.
use Rattle.std.proofs.Common.{◌≡◌, ◌≢◌, ◌≤◌, ◌<◌, ◌+◌, ◌++◌, ◌⊎◌, ◌↔◌, ℕ, List, [], ◌∷◌, length, take, Result, Ok, Err, refl, sym, ap, subst, ◌∙◌, inl, inr, arith, length-append}
use Rattle.std.specs.Prelude.{IfOk}
use Rattle.std.proofs.lemmas.Bool.{cases_lt}
use Rattle.std.proofs.lemmas.List.{length-take, take_all}
use Rattle.script.specs.declared.command.Command.{Command}
use Rattle.script.specs.declared.command.LineError.{LineError}
use Rattle.script.specs.declared.command.LineError.TheVariants.{NoMemory, TooLong, Unknown, Arity, BadNumber}
use Rattle.script.specs.Lines.{Says, too_long, empty, comment, unknown, arity, number, command}
use Rattle.session_form.specs.Scripts.{IsTrimmed, cut, kept}
use Rattle.script_lines.specs.Limits.{kept_bytes}
use Rattle.script_lines.proofs.Splitting.{hd, tl}

is_return : (x : ℕ) → (x ≡ 13) ⊎ (x ≢ 13)
is_return x = elim (cases_lt x 13) [
  | inl lt ↦ inr (λ e. omega (arith, lt, e))
  | inr ge ↦ elim (cases_lt 13 x) [ inl gt ↦ inr (λ e. omega (arith, gt, e)) | inr le ↦ inl (omega (arith, ge, le)) ]
]

only : (x : ℕ) (k : List ℕ) → x ∷ [] ≡ k ++ (13 ∷ []) → x ≡ 13
only x [] e = ap (hd 0) e
only x (y ∷ k) e = absurd (omega (arith, ap length e, length-append k (13 ∷ [])))

further : (x y : ℕ) (l k : List ℕ) → ((j : List ℕ) → y ∷ l ≡ j ++ (13 ∷ []) → ⊥) → x ∷ y ∷ l ≡ k ++ (13 ∷ []) → ⊥
further x y l [] n e = omega (arith, ap length e)
further x y l (z ∷ k) n e = n k (ap tl e)

returns_or_not : (l : List ℕ) → ((k : List ℕ) × (l ≡ k ++ (13 ∷ []))) ⊎ ((k : List ℕ) → l ≡ k ++ (13 ∷ []) → ⊥)
returns_or_not [] = inr (λ k e. omega (arith, ap length e, length-append k (13 ∷ [])))
returns_or_not (x ∷ []) = elim (is_return x) [ inl e ↦ inl ([], ap (λ z. z ∷ []) e) | inr n ↦ inr (λ k e. n (only x k e)) ]
returns_or_not (x ∷ y ∷ l) = elim (returns_or_not (y ∷ l)) [
  | inl h ↦ inl (x ∷ h.0, ap (λ z. x ∷ z) h.1)
  | inr n ↦ inr (λ k e. further x y l k n e)
]

-- a line without its last byte 13, and how much shorter it is
some_trimmed : (l : List ℕ) → (t : List ℕ) × IsTrimmed l t × (length l ≤ length t + 1)
some_trimmed l = elim (returns_or_not l) [
  | inl h ↦ (h.0, subst (λ z. IsTrimmed z h.0) (sym h.1) (cut h.0), omega (arith, ap length h.1, length-append h.0 (13 ∷ [])))
  | inr n ↦ (l, kept l n, omega arith)
]

no_shorter : (l t : List ℕ) → IsTrimmed l t → length l ≤ length t + 1
no_shorter _ _ (cut l) = omega (arith, length-append l (13 ∷ []))
no_shorter _ _ (kept l n) = omega arith

abbrev refused : Result Command LineError
refused = Err TooLong

-- what is too long says no more than that
too_long_says : (t : List ℕ) (r : Result Command LineError) → 4096 < length t → Says t r → r ≡ refused
too_long_says t _ lt (too_long h) = refl
too_long_says t _ lt (empty short h) = absurd (omega (arith, lt, short))
too_long_says t _ lt (comment word words short h b) = absurd (omega (arith, lt, short))
too_long_says t _ lt (unknown word words h u) = absurd (omega (arith, lt, h.short))
too_long_says t _ lt (arity word words h u) = absurd (omega (arith, lt, h.short))
too_long_says t _ lt (number word words h u) = absurd (omega (arith, lt, h.short))
too_long_says t _ lt (command word words h u) = absurd (omega (arith, lt, h.short))

pub whole_says : (line l t : List ℕ) (r : Result Command LineError) → line ≡ take kept_bytes l → IsTrimmed line t → Says t r → (u : List ℕ) × IsTrimmed l u × Says u r
whole_says line l t r is trim says = elim (cases_lt kept_bytes (length l)) [
  | inr le ↦ (t, subst (λ z. IsTrimmed z t) (is ∙ take_all kept_bytes l le) trim, says)
  | inl long ↦
      let size : length line ≡ kept_bytes = omega (arith, ap length is, length-take kept_bytes l, long) in
      let error : r ≡ refused = too_long_says t r (omega (arith, size, no_shorter line t trim)) says in
      let whole = some_trimmed l in
      (whole.0, whole.1, subst (Says whole.0) (sym error) (too_long (omega (arith, long, whole.2))))
]

-- what the parser tells
pub told : (t : List ℕ) (r : Result Command LineError) → IfOk r (λ c. Says t (Ok c)) → (r ≡ refused → Says t refused) → (r ≡ Err Unknown → Says t (Err Unknown))
    → (r ≡ Err Arity → Says t (Err Arity)) → (r ≡ Err BadNumber → Says t (Err BadNumber)) → r ≢ Err NoMemory → Says t r
told t (Ok c) ok a b d e some = ok
told t (Err TooLong) ok a b d e some = a refl
told t (Err Unknown) ok a b d e some = b refl
told t (Err Arity) ok a b d e some = d refl
told t (Err BadNumber) ok a b d e some = e refl
told t (Err NoMemory) ok a b d e some = absurd (some refl)

-- Each line says one thing.
use Rattle.std.proofs.Common.{◌≡◌, ◌≢◌, ◌<◌, ◌≤◌, ℕ, zero, suc, List, [], ◌∷◌, length, get_or, refl, sym, ap, ◌∙◌, ◌⊎◌, subst, inl, inr, arith, Ok, Err, Some}
use Rattle.std.specs.Prelude.{Result, Contains, slice_get}
use Rattle.slicer_ids.specs.Escapes.{StandsFor}
use Rattle.script.specs.Words.{HasFirstWord, HasWords}
use Rattle.script.specs.Operands.{IsNumber, IsPlace}
use Rattle.script.specs.Commands.{Takes, seed, seed_line, reset, expand, expand_all, slice, full, lines, explain, Gives, gives_seed, gives_seed_line, gives_reset, gives_expand, gives_expand_all, gives_slice, gives_full, gives_lines, gives_explain, IsUnknown, HasWrongCount, HasBadNumber, IsCommand}
use Rattle.script.specs.Lines.{BeginsComment, IsCommandLine, Says, too_long, empty, comment, unknown, arity, number, command, NeedsMemory}
use Rattle.script.specs.Steps.{Finishes, Answers}
use Rattle.script.specs.declared.command.Place.{Place}
use Rattle.script.specs.declared.command.Command.{Command}
use Rattle.script.specs.declared.command.Command.TheVariants.{Blank, Seed, Expand}
use Rattle.script.specs.declared.command.LineError.{LineError}
use Rattle.script.specs.declared.command.LineError.TheVariants.{NoMemory, TooLong, Unknown, Arity, BadNumber}
use Rattle.script.proofs.Counting.{words_one, words_some}
use Rattle.script.proofs.Standing.{stands_one}
use Rattle.script.proofs.Digits.{number_one}
use Rattle.script.proofs.Naming.{takes_one}
use Rattle.script.proofs.Meaning.{place_one, class_name_one}

-- the operands of a command are as many as it takes, and numbers where it takes numbers
record Suits (name : List ℕ) (words : List (List ℕ)) : Type 0 where
  n : ℕ
  numbers : List ℕ
  takes : Takes name n numbers
  count : length words ≡ n
  are_numbers : (i : ℕ) (operand : List ℕ) → Contains numbers i → slice_get words i ≡ Some operand → (k : ℕ) × IsNumber operand k

contains_one : (a i : ℕ) → Contains (a ∷ []) i → a ≡ i
contains_one a i (zero, l, e) = e
contains_one a i (suc k, l, e) = absurd (omega (arith, l))

contains_two : (a b i : ℕ) → Contains (a ∷ b ∷ []) i → (a ≡ i) ⊎ (b ≡ i)
contains_two a b i (zero, l, e) = inl e
contains_two a b i (suc zero, l, e) = inr e
contains_two a b i (suc (suc k), l, e) = absurd (omega (arith, l))

contains_none : (i : ℕ) → Contains [] i → ⊥
contains_none i (k, l, e) = omega (arith, l)

same_some : (a b : List ℕ) → Some a ≡ Some b → a ≡ b
same_some a b e = cc

number_at : (w operand : List ℕ) (words : List (List ℕ)) (i j k : ℕ) → j ≡ i → slice_get words j ≡ Some w → IsNumber w k → slice_get words i ≡ Some operand → (l : ℕ) × IsNumber operand l
number_at w operand words i j k e f h g =
    let same = same_some w operand (sym f ∙ ap (slice_get words) e ∙ g) in
    (k, subst (λ x. IsNumber x k) same h)

place_suits : (c n d p : List ℕ) (place : Place) → IsPlace c n d p place → (i : ℕ) (operand : List ℕ) → Contains (3 ∷ []) i → slice_get (c ∷ n ∷ d ∷ p ∷ []) i ≡ Some operand → (k : ℕ) × IsNumber operand k
place_suits c n d p place h i operand m e = number_at p operand (c ∷ n ∷ d ∷ p ∷ []) i 3 place.pc (contains_one 3 i m) refl h.at_pc e

places_suit : (c n d p c' n' d' p' : List ℕ) (a b : Place) → IsPlace c n d p a → IsPlace c' n' d' p' b → (i : ℕ) (operand : List ℕ) → Contains (3 ∷ 7 ∷ []) i
    → slice_get (c ∷ n ∷ d ∷ p ∷ c' ∷ n' ∷ d' ∷ p' ∷ []) i ≡ Some operand → (k : ℕ) × IsNumber operand k
places_suit c n d p c' n' d' p' a b h g i operand m e = elim (contains_two 3 7 i m) [
  | inl first ↦ number_at p operand (c ∷ n ∷ d ∷ p ∷ c' ∷ n' ∷ d' ∷ p' ∷ []) i 3 a.pc first refl h.at_pc e
  | inr second ↦ number_at p' operand (c ∷ n ∷ d ∷ p ∷ c' ∷ n' ∷ d' ∷ p' ∷ []) i 7 b.pc second refl g.at_pc e
]

suits : (name : List ℕ) (words : List (List ℕ)) (c : Command) → Gives name words c → Suits name words
suits name words c (gives_seed {c = c'} {n} {d} {p} {place} h) = record { n = 4; numbers = 3 ∷ []; takes = seed; count = refl; are_numbers = place_suits c' n d p place h }
suits name words c (gives_expand {c = c'} {n} {d} {p} {place} h) = record { n = 4; numbers = 3 ∷ []; takes = expand; count = refl; are_numbers = place_suits c' n d p place h }
suits name words c (gives_seed_line {c = c'} {l} {name = name'} {line} h k) = record {
  n = 2;
  numbers = 1 ∷ [];
  takes = seed_line;
  count = refl;
  are_numbers = λ i operand m e. number_at l operand (c' ∷ l ∷ []) i 1 line (contains_one 1 i m) refl k e;
}
suits name words c gives_reset = record { n = 0; numbers = []; takes = reset; count = refl; are_numbers = λ i operand m e. absurd (contains_none i m) }
suits name words c gives_expand_all = record { n = 0; numbers = []; takes = expand_all; count = refl; are_numbers = λ i operand m e. absurd (contains_none i m) }
suits name words c gives_slice = record { n = 0; numbers = []; takes = slice; count = refl; are_numbers = λ i operand m e. absurd (contains_none i m) }
suits name words c gives_full = record { n = 0; numbers = []; takes = full; count = refl; are_numbers = λ i operand m e. absurd (contains_none i m) }
suits name words c gives_lines = record { n = 0; numbers = []; takes = lines; count = refl; are_numbers = λ i operand m e. absurd (contains_none i m) }
suits name words c (gives_explain {c = c'} {n} {d} {p} {c' = c2} {n' = n2} {d' = d2} {p' = p2} {a} {b} h g) = record {
  n = 8;
  numbers = 3 ∷ 7 ∷ [];
  takes = explain;
  count = refl;
  are_numbers = places_suit c' n d p c2 n2 d2 p2 a b h g;
}

gives_one : (name : List ℕ) (words : List (List ℕ)) (a b : Command) → Gives name words a → Gives name words b → a ≡ b
gives_one name words a b (gives_seed {c} {n} {d} {p} {place = x} h) (gives_seed {place = y} k) = ap Seed (place_one c n d p x y h k)
gives_one name words a b (gives_expand {c} {n} {d} {p} {place = x} h) (gives_expand {place = y} k) = ap Expand (place_one c n d p x y h k)
gives_one name words a b (gives_seed_line {c} {l} {name = x} {line = i} h g) (gives_seed_line {name = y} {line = j} k f) =
    let e = class_name_one c x y h k in let o = number_one l i j g f in cc
gives_one name words a b gives_reset gives_reset = refl
gives_one name words a b gives_expand_all gives_expand_all = refl
gives_one name words a b gives_slice gives_slice = refl
gives_one name words a b gives_full gives_full = refl
gives_one name words a b gives_lines gives_lines = refl
gives_one name words a b (gives_explain {c} {n} {d} {p} {c' = c2} {n' = n2} {d' = d2} {p' = p2} {a = x} {b = y} h g) (gives_explain {a = u} {b = v} k f) =
    let e = place_one c n d p x u h k in let o = place_one c2 n2 d2 p2 y v g f in cc

-- what the words of a line say, one of four
data Answer (word : List ℕ) (words : List (List ℕ)) : Result Command LineError → Type 0 where
  is_unknown : IsUnknown word → Answer word words (Err Unknown)
  wrong_count : HasWrongCount word words → Answer word words (Err Arity)
  bad_number : HasBadNumber word words → Answer word words (Err BadNumber)
  gives_command : {c : Command} → IsCommand word words c → Answer word words (Ok c)

-- what suits a word's command
command_suits : (word : List ℕ) (words : List (List ℕ)) (c : Command) → IsCommand word words c → (name : List ℕ) × StandsFor word name × Suits name words
command_suits word words c h = (h.0, h.1, suits h.0 words c h.2)

same_takes : (word name name' : List ℕ) (n m : ℕ) (ps qs : List ℕ) → StandsFor word name → StandsFor word name' → Takes name n ps → Takes name' m qs → (n ≡ m) × (ps ≡ qs)
same_takes word name name' n m ps qs h k t u = takes_one t (subst (λ x. Takes x m qs) (stands_one word name' name k h) u)

no_wrong_count : (word : List ℕ) (words : List (List ℕ)) (c : Command) → IsCommand word words c → HasWrongCount word words → ⊥
no_wrong_count word words c h k =
    let s = command_suits word words c h in
    let e = same_takes word s.0 k.0 s.2.n k.1 s.2.numbers k.2 s.1 k.4 s.2.takes k.3 in
    k.5 (s.2.count ∙ e.0)

no_bad_number : (word : List ℕ) (words : List (List ℕ)) (c : Command) → IsCommand word words c → HasBadNumber word words → ⊥
no_bad_number word words c h k =
    let s = command_suits word words c h in
    let e = same_takes word s.0 k.0 s.2.n k.1 s.2.numbers k.2 s.1 k.4 s.2.takes k.3 in
    let found = s.2.are_numbers k.6 k.7 (subst (λ ps. Contains ps k.6) (sym e.1) k.8) k.9 in
    k.10 found.0 found.1

not_both : (word : List ℕ) (words : List (List ℕ)) → HasWrongCount word words → HasBadNumber word words → ⊥
not_both word words h k =
    let e = same_takes word h.0 k.0 h.1 k.1 h.2 k.2 h.4 k.4 h.3 k.3 in
    h.5 (k.5 ∙ sym e.0)

answer_one : (word : List ℕ) (words : List (List ℕ)) (r s : Result Command LineError) → Answer word words r → Answer word words s → r ≡ s
answer_one word words r s (is_unknown h) (is_unknown k) = refl
answer_one word words r s (is_unknown h) (wrong_count k) = absurd (h k.0 k.1 k.2 k.3 k.4)
answer_one word words r s (is_unknown h) (bad_number k) = absurd (h k.0 k.1 k.2 k.3 k.4)
answer_one word words r s (is_unknown h) (gives_command {c} k) = let t = command_suits word words c k in absurd (h t.0 t.2.n t.2.numbers t.2.takes t.1)
answer_one word words r s (wrong_count h) (is_unknown k) = absurd (k h.0 h.1 h.2 h.3 h.4)
answer_one word words r s (wrong_count h) (wrong_count k) = refl
answer_one word words r s (wrong_count h) (bad_number k) = absurd (not_both word words h k)
answer_one word words r s (wrong_count h) (gives_command {c} k) = absurd (no_wrong_count word words c k h)
answer_one word words r s (bad_number h) (is_unknown k) = absurd (k h.0 h.1 h.2 h.3 h.4)
answer_one word words r s (bad_number h) (wrong_count k) = absurd (not_both word words k h)
answer_one word words r s (bad_number h) (bad_number k) = refl
answer_one word words r s (bad_number h) (gives_command {c} k) = absurd (no_bad_number word words c k h)
answer_one word words r s (gives_command {c} h) (is_unknown k) = let t = command_suits word words c h in absurd (k t.0 t.2.n t.2.numbers t.2.takes t.1)
answer_one word words r s (gives_command {c} h) (wrong_count k) = absurd (no_wrong_count word words c h k)
answer_one word words r s (gives_command {c} h) (bad_number k) = absurd (no_bad_number word words c h k)
answer_one word words r s (gives_command {c} h) (gives_command {c = d} k) =
    ap Ok (gives_one h.0 words c d h.2 (subst (λ n. Gives n words d) (stands_one word k.0 h.0 k.1 h.1) k.2))

-- what the words of a line that isn't too long say
Reads : List (List ℕ) → Result Command LineError → Type 0
Reads [] r = r ≡ Ok Blank
Reads (word ∷ words) r = (BeginsComment word × (r ≡ Ok Blank)) ⊎ ((BeginsComment word → ⊥) × Answer word words r)

reads_one : (ws : List (List ℕ)) (r s : Result Command LineError) → Reads ws r → Reads ws s → r ≡ s
unfolding Reads
reads_one [] r s h k = h ∙ sym k
reads_one (w ∷ ws) r s (inl h) (inl k) = h.1 ∙ sym k.1
reads_one (w ∷ ws) r s (inl h) (inr k) = absurd (k.0 h.0)
reads_one (w ∷ ws) r s (inr h) (inl k) = absurd (h.0 k.0)
reads_one (w ∷ ws) r s (inr h) (inr k) = answer_one w ws r s h.1 k.1

-- the line is too long, or has words that are read
Told : List ℕ → Result Command LineError → Type 0
Told line r = ((4096 < length line) × (r ≡ Err TooLong)) ⊎ ((length line ≤ 4096) × (ws : List (List ℕ)) × HasWords line ws × Reads ws r)

told : (line : List ℕ) (r : Result Command LineError) → Says line r → Told line r
unfolding Told Reads
told line r (too_long h) = inl (h, refl)
told line r (empty short h) = inr (short, [], h, refl)
told line r (comment word words short h c) = inr (short, word ∷ words, h, inl (c, refl))
told line r (unknown word words h k) = inr (h.short, word ∷ words, h.has, inr (h.no_comment, is_unknown k))
told line r (arity word words h k) = inr (h.short, word ∷ words, h.has, inr (h.no_comment, wrong_count k))
told line r (number word words h k) = inr (h.short, word ∷ words, h.has, inr (h.no_comment, bad_number k))
told line r (command word words h k) = inr (h.short, word ∷ words, h.has, inr (h.no_comment, gives_command k))

told_one : (line : List ℕ) (r s : Result Command LineError) → Told line r → Told line s → r ≡ s
unfolding Told
told_one line r s (inl h) (inl k) = h.1 ∙ sym k.1
told_one line r s (inl h) (inr k) = absurd (omega (arith, h.0, k.0))
told_one line r s (inr h) (inl k) = absurd (omega (arith, h.0, k.0))
told_one line r s (inr h) (inr k) = reads_one h.1 r s h.3 (subst (λ ws. Reads ws s) (words_one line k.1 h.1 k.2 h.2) k.3)

-- a line says one thing at most
pub says_one : (line : List ℕ) (r s : Result Command LineError) → Says line r → Says line s → r ≡ s
says_one line r s h k = told_one line r s (told line r h) (told line s k)

-- the first byte tells a comment
pub begins_comment : (word : List ℕ) → word ≢ [] → get_or word 0 0 ≡ 35 → BeginsComment word
begins_comment [] ne e = absurd (ne refl)
begins_comment (b ∷ bs) ne e = e

pub no_comment : (word : List ℕ) → get_or word 0 0 ≢ 35 → BeginsComment word → ⊥
no_comment [] ne h = h
no_comment (b ∷ bs) ne h = ne h

pub says_comment : (line word rest : List ℕ) → length line ≤ 4096 → HasFirstWord line word rest → get_or word 0 0 ≡ 35 → Says line (Ok Blank)
says_comment line word rest short h e =
    let t = words_some rest in
    comment word t.0 short (t.1.0, (rest, h, t.1.1), t.1.2) (begins_comment word h.is_word.0 e)

pub says_unknown : (line word rest : List ℕ) → length line ≤ 4096 → HasFirstWord line word rest → get_or word 0 0 ≢ 35 → IsUnknown word → Says line (Err Unknown)
says_unknown line word rest short h ne k =
    let t = words_some rest in
    unknown word t.0 (record { short = short; has = (t.1.0, (rest, h, t.1.1), t.1.2); no_comment = no_comment word ne }) k

command_line : (line word rest : List ℕ) (words : List (List ℕ)) → length line ≤ 4096 → HasFirstWord line word rest → get_or word 0 0 ≢ 35 → HasWords rest words → IsCommandLine line word words
command_line line word rest words short h ne t = record { short = short; has = (t.0, (rest, h, t.1), t.2); no_comment = no_comment word ne }

-- the command's operands finish the line
pub finishes_line : (line word rest name : List ℕ) (r : Result Command LineError) → length line ≤ 4096 → HasFirstWord line word rest → get_or word 0 0 ≢ 35 → StandsFor word name
    → Finishes name rest r → Answers line r
finishes_line line word rest name (Ok c) short h ne s f = command word f.0 (command_line line word rest f.0 short h ne f.1) (name, s, f.2)
finishes_line line word rest name (Err NoMemory) short h ne s f = record {
  word = word;
  words = f.0;
  command = f.1;
  is_line = command_line line word rest f.0 short h ne f.2;
  is_command = (name, s, f.3);
  several = f.4;
}
finishes_line line word rest name (Err TooLong) short h ne s f = absurd f
finishes_line line word rest name (Err Unknown) short h ne s f = absurd f
finishes_line line word rest name (Err Arity) short h ne s f =
    arity word f.0 (command_line line word rest f.0 short h ne f.3) (name, f.1, f.2, f.4, s, f.5)
finishes_line line word rest name (Err BadNumber) short h ne s f =
    number word f.0 (command_line line word rest f.0 short h ne f.5) (name, f.1, f.2, f.6, s, f.7, f.3, f.4, f.8, f.9, f.10)

needs_command : (line : List ℕ) → NeedsMemory line → (c : Command) × Says line (Ok c)
needs_command line h = (h.command, command h.word h.words h.is_line h.is_command)

-- what is said is answered, but where there was no memory for a command
pub answers_said : (line : List ℕ) (r : Result Command LineError) (e : LineError) → Answers line r → Says line (Err e) → r ≡ Err e
answers_said line (Ok c) e h k = says_one line (Ok c) (Err e) h k
answers_said line (Err NoMemory) e h k = let n = needs_command line h in absurd (ok_is_no_error n.0 e (says_one line (Ok n.0) (Err e) n.1 k))
  where
    ok_is_no_error : (c : Command) (e : LineError) → Ok c ≡ Err e → ⊥
    ok_is_no_error c e p = cc
answers_said line (Err TooLong) e h k = says_one line (Err TooLong) (Err e) h k
answers_said line (Err Unknown) e h k = says_one line (Err Unknown) (Err e) h k
answers_said line (Err Arity) e h k = says_one line (Err Arity) (Err e) h k
answers_said line (Err BadNumber) e h k = says_one line (Err BadNumber) (Err e) h k

pub answered : (line : List ℕ) (r : Result Command LineError) (s : Result Command LineError) → r ≡ s → Answers line r → Answers line s
answered line r s e h = subst (Answers line) e h

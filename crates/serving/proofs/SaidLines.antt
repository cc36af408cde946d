-- What was said, line after line.
use Rattle.std.proofs.Common.{◌≡◌, ◌⊎◌, ◌<◌, ◌+◌, ◌++◌, ◌∷◌, [], ℕ, Bool, zero, suc, List, Option, Some, None, inl, inr, length, map, take, get_or, refl, sym, ap, subst, ◌∙◌, append_assoc, append-nil, arith, if◌then◌else◌, ◌||◌}
use Rattle.std.proofs.lemmas.List.{take_more}
use Rattle.std.specs.Option.{option_map}
use Rattle.std.specs.List.{list_any}
use Rattle.edge_io.specs.Reads.{appended}
use Rattle.sessions.specs.declared.desk.Outcome.{Outcome}
use Rattle.run_form.specs.Said.{Ending, session_line, session_lines, host_fault_line}
use Rattle.run_form.specs.Endings.{SaysAfter, all_said, some_said, failed, fault_said, status_of, is_no_memory, is_fault}
use Rattle.serving.specs.Attended.{ending_of, is_faulty, status_by}

-- what a host says of its saying, by another word
pub said_is : (text : List ℕ) (before after : Option (List ℕ)) → after ≡ option_map (λ w. w ++ text) before → after ≡ appended text before
said_is text None after e = e
said_is text (Some before) after e = e

pub said_nothing : (before after : Option (List ℕ)) → after ≡ before → after ≡ appended [] before
said_nothing None after e = e
said_nothing (Some before) after e = e ∙ ap Some (sym (append-nil before))

pub said_twice : (a b : List ℕ) (before now after : Option (List ℕ)) → now ≡ appended a before → after ≡ appended b now → after ≡ appended (a ++ b) before
said_twice a b None now after e f = f ∙ ap (appended b) e
said_twice a b (Some before) now after e f = f ∙ (ap (appended b) e ∙ ap Some (append_assoc before a b))

-- ---- lines

lines_push : (k : ℕ) (es : List Ending) (e : Ending) → session_lines k (es ++ e ∷ []) ≡ session_lines k es ++ session_line (k + length es) e
lines_push k [] e =
    let number : k ≡ k + 0 = omega arith in
    append-nil (session_line k e) ∙ ap (λ (n : ℕ). session_line n e) number
lines_push k (x ∷ es) e =
    let number : suc k + length es ≡ k + length (x ∷ es) = omega arith in
    ap (λ (t : List ℕ). session_line k x ++ t) (lines_push (suc k) es e ∙ ap (λ (n : ℕ). session_lines (suc k) es ++ session_line n e) number)
    ∙ sym (append_assoc (session_line k x) (session_lines (suc k) es) (session_line (k + length (x ∷ es)) e))

map_take : {A B : Type 0} (f : A → B) (n : ℕ) (xs : List A) → map f (take n xs) ≡ take n (map f xs)
map_take f zero xs = refl
map_take f (suc n) [] = refl
map_take f (suc n) (x ∷ xs) = ap (λ ys. f x ∷ ys) (map_take f n xs)

map_push : {A B : Type 0} (f : A → B) (xs : List A) (x : A) → map f (xs ++ x ∷ []) ≡ map f xs ++ f x ∷ []
map_push f [] x = refl
map_push f (y ∷ xs) x = ap (λ ys. f y ∷ ys) (map_push f xs x)

length_map_take : {A B : Type 0} (f : A → B) (n : ℕ) (xs : List A) → n < length xs → length (map f (take n xs)) ≡ n
length_map_take f zero xs lt = refl
length_map_take f (suc n) [] lt = absurd (omega (arith, lt))
length_map_take f (suc n) (x ∷ xs) lt = ap suc (length_map_take f n xs (omega (arith, lt)))

-- the lines on the first n of the outcomes
abbrev pub lines_of : ℕ → List Outcome → List ℕ
lines_of n outcomes = session_lines 1 (map ending_of (take n outcomes))

-- one line more
pub one_more : (outcomes : List Outcome) (n k : ℕ) (d : Outcome) (before now after : Option (List ℕ)) → k ≡ n + 1 → n < length outcomes → now ≡ appended (lines_of n outcomes) before
    → after ≡ appended (session_line k (ending_of (get_or outcomes n d))) now → after ≡ appended (lines_of (n + 1) outcomes) before
one_more outcomes n k d before now after counted lt e f =
    let es = map ending_of (take n outcomes) in
    let x = ending_of (get_or outcomes n d) in
    let number : 1 + length es ≡ n + 1 = omega (arith, length_map_take ending_of n outcomes lt) in
    let lists : map ending_of (take (n + 1) outcomes) ≡ es ++ x ∷ [] = ap (map ending_of) (take_more outcomes n d lt) ∙ map_push ending_of (take n outcomes) (get_or outcomes n d) in
    said_twice (lines_of n outcomes) (session_line k x) before now after e f
    ∙ ap (λ (t : List ℕ). appended t before) (ap (λ (j : ℕ). session_lines 1 es ++ session_line j x) (counted ∙ sym number) ∙ (sym (lines_push 1 es x) ∙ ap (session_lines 1) (sym lists)))

-- the lines that were said, as the ends of a run have them
pub lines_so_far : (outcomes : List Outcome) (n : ℕ) (before now : Option (List ℕ)) → now ≡ appended (lines_of n outcomes) before
    → (k : ℕ) × (now ≡ appended (session_lines 1 (take k (map ending_of outcomes))) before)
lines_so_far outcomes n before now e = (n, e ∙ ap (λ (es : List Ending). appended (session_lines 1 es) before) (map_take ending_of n outcomes))

-- ---- how a run ends

-- nothing more was said
pub some_lines : (ends : List Ending) (before now : Option (List ℕ)) → (n : ℕ) × (now ≡ appended (session_lines 1 (take n ends)) before)
    → (told : List ℕ) × (now ≡ appended told before) × SaysAfter ends 1 told
some_lines ends before now (n, e) = (session_lines 1 (take n ends), e, some_said n)

pub all_lines : (ends : List Ending) (status : ℕ) (before now : Option (List ℕ)) → status ≡ status_of ends → now ≡ appended (session_lines 1 ends) before
    → (told : List ℕ) × (now ≡ appended told before) × SaysAfter ends status told
all_lines ends status before now is e = (session_lines 1 ends, e, subst (λ (s : ℕ). SaysAfter ends s (session_lines 1 ends)) (sym is) all_said)

-- and that a call failed was said, where it could be said
pub failed_lines : (ends : List Ending) (before now after : Option (List ℕ)) → (n : ℕ) × (now ≡ appended (session_lines 1 (take n ends)) before)
    → (more : List ℕ) × (after ≡ appended more now) × ((more ≡ []) ⊎ (more ≡ host_fault_line)) → (told : List ℕ) × (after ≡ appended told before) × SaysAfter ends 3 told
failed_lines ends before now after (n, e) (more, f, inl none) = (
  session_lines 1 (take n ends),
  said_twice (session_lines 1 (take n ends)) more before now after e f
      ∙ ap (λ (t : List ℕ). appended t before) (ap (λ (m : List ℕ). session_lines 1 (take n ends) ++ m) none ∙ append-nil (session_lines 1 (take n ends))),
  failed n,
)
failed_lines ends before now after (n, e) (more, f, inr fault) = (
  session_lines 1 (take n ends) ++ host_fault_line,
  said_twice (session_lines 1 (take n ends)) more before now after e f ∙ ap (λ (m : List ℕ). appended (session_lines 1 (take n ends) ++ m) before) fault,
  fault_said n,
)

-- ---- statuses

any_map : {A B : Type 0} (test : B → Bool) (f : A → B) (xs : List A) → list_any test (map f xs) ≡ list_any (λ x. test (f x)) xs
any_map test f [] = refl
any_map test f (x ∷ xs) = ap (λ (b : Bool). test (f x) || b) (any_map test f xs)

pub status_same : (outcomes : List Outcome) → status_by outcomes ≡ status_of (map ending_of outcomes)
status_same outcomes =
    ap (λ (b : Bool). if b then 1 else (if list_any is_faulty outcomes then 5 else 0)) (sym (any_map is_no_memory ending_of outcomes))
    ∙ ap (λ (b : Bool). if list_any is_no_memory (map ending_of outcomes) then 1 else (if b then 5 else 0)) (sym (any_map is_fault ending_of outcomes))

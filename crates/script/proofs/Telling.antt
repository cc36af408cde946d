-- Each line says something.
use Rattle.std.proofs.Common.{◌≡◌, ◌≢◌, ◌≤◌, ℕ, suc, List, [], ◌∷◌, length, refl, sym, ap, ◌∙◌, ◌⊎◌, subst, inl, inr, arith, Ok, Err, Some}
use Rattle.std.specs.Prelude.{Result, codes, Contains, slice_get, map}
use Rattle.std.proofs.lemmas.Bool.{cases_lt}
use Rattle.slicer_ids.specs.Escapes.{StandsFor}
use Rattle.script.specs.Words.{HasWords}
use Rattle.script.specs.Operands.{with_slash, IsNumber}
use Rattle.script.specs.Commands.{Takes, seed, seed_line, reset, expand, expand_all, slice, full, lines, explain, Gives, gives_seed, gives_seed_line, gives_reset, gives_expand, gives_expand_all, gives_slice, gives_full, gives_lines, gives_explain}
use Rattle.script.specs.Lines.{BeginsComment, IsCommandLine, Says, too_long, empty, comment, unknown, arity, number, command}
use Rattle.script.specs.declared.command.Command.{Command}
use Rattle.script.specs.declared.command.Command.TheVariants.{Blank, Seed, SeedLine, Reset, Slice, Full, Lines, Expand, ExpandAll, Explain}
use Rattle.script.specs.declared.command.LineError.{LineError}
use Rattle.script.specs.declared.command.LineError.TheVariants.{TooLong, Unknown, Arity, BadNumber}
use Rattle.script.proofs.Counting.{words_some}
use Rattle.script.proofs.Standing.{stands_one, stands_some}
use Rattle.script.proofs.Digits.{decide_number}
use Rattle.script.proofs.Meaning.{place_some}

cases_eq : (a b : ℕ) → (a ≡ b) ⊎ (a ≢ b)
cases_eq a b = elim (cases_lt a b) [
  | inl lt ↦ inr (λ e. omega arith)
  | inr ge ↦ elim (cases_lt b a) [ inl gt ↦ inr (λ e. omega arith) | inr le ↦ inl (omega arith) ]
]

same_bytes : (xs ys : List ℕ) → (xs ≡ ys) ⊎ (xs ≢ ys)
same_bytes [] [] = inl refl
same_bytes [] (y ∷ ys) = inr (λ e. omega (arith, ap length e))
same_bytes (x ∷ xs) [] = inr (λ e. omega (arith, ap length e))
same_bytes (x ∷ xs) (y ∷ ys) = elim (cases_eq x y) [
  | inr ne ↦ inr (λ e. ne (cc e))
  | inl h ↦ elim (same_bytes xs ys) [ inl t ↦ inl (cc (h, t)) | inr ne ↦ inr (λ e. ne (cc e)) ]
]

-- whether a name is that of a command
Known : List ℕ → Type 0
Known name = (n : ℕ) × (numbers : List ℕ) × Takes name n numbers

Strange : List ℕ → Type 0
Strange name = (n : ℕ) (numbers : List ℕ) → Takes name n numbers → ⊥

strange : (name : List ℕ) → (name ≢ codes "seed") → (name ≢ codes "seedline") → (name ≢ codes "reset") → (name ≢ codes "slice") → (name ≢ codes "full")
    → (name ≢ codes "lines") → (name ≢ codes "expand") → (name ≢ codes "expand-all") → (name ≢ codes "explain") → (n : ℕ) (numbers : List ℕ) → Takes name n numbers → ⊥
strange name s sl r l f n e a x k ns seed = s refl
strange name s sl r l f n e a x k ns seed_line = sl refl
strange name s sl r l f n e a x k ns reset = r refl
strange name s sl r l f n e a x k ns slice = l refl
strange name s sl r l f n e a x k ns full = f refl
strange name s sl r l f n e a x k ns lines = n refl
strange name s sl r l f n e a x k ns expand = e refl
strange name s sl r l f n e a x k ns expand_all = a refl
strange name s sl r l f n e a x k ns explain = x refl

known : {name text : List ℕ} {n : ℕ} {numbers : List ℕ} → name ≡ text → Takes text n numbers → Known name
unfolding Known
known {name} {text} {n} {numbers} e t = (n, numbers, subst (λ x. Takes x n numbers) (sym e) t)

decide_known : (name : List ℕ) → Known name ⊎ Strange name
unfolding Strange
decide_known name = elim (same_bytes name (codes "seed")) [
  | inl e ↦ inl (known e seed)
  | inr s ↦
      elim (same_bytes name (codes "seedline")) [
        | inl e ↦ inl (known e seed_line)
        | inr sl ↦
            elim (same_bytes name (codes "reset")) [
              | inl e ↦ inl (known e reset)
              | inr r ↦
                  elim (same_bytes name (codes "slice")) [
                    | inl e ↦ inl (known e slice)
                    | inr l ↦
                        elim (same_bytes name (codes "full")) [
                          | inl e ↦ inl (known e full)
                          | inr f ↦
                              elim (same_bytes name (codes "lines")) [
                                | inl e ↦ inl (known e lines)
                                | inr n ↦
                                    elim (same_bytes name (codes "expand")) [
                                      | inl e ↦ inl (known e expand)
                                      | inr x ↦
                                          elim (same_bytes name (codes "expand-all")) [
                                            | inl e ↦ inl (known e expand_all)
                                            | inr a ↦
                                                elim (same_bytes name (codes "explain")) [
                                                  | inl e ↦ inl (known e explain)
                                                  | inr p ↦
                                                      inr (strange name s sl r l f n x a p)
                                                ]
                                          ]
                                    ]
                              ]
                        ]
                  ]
            ]
      ]
]

-- a list with a first element
split_first : (n : ℕ) (ws : List (List ℕ)) → length ws ≡ suc n → (x : List ℕ) × (xs : List (List ℕ)) × (ws ≡ x ∷ xs) × (length xs ≡ n)
split_first n [] e = absurd (omega arith)
split_first n (x ∷ xs) e = (x, xs, refl, omega arith)

no_words : (ws : List (List ℕ)) → length ws ≡ 0 → ws ≡ []
no_words [] e = refl
no_words (x ∷ xs) e = absurd (omega arith)

two_of : (ws : List (List ℕ)) → length ws ≡ 2 → (a : List ℕ) × (b : List ℕ) × (ws ≡ a ∷ b ∷ [])
two_of ws h =
    let f = split_first 1 ws h in let g = split_first 0 f.1 f.3 in
    (f.0, g.0, f.2 ∙ ap (λ xs. f.0 ∷ xs) (g.2 ∙ ap (λ xs. g.0 ∷ xs) (no_words g.1 g.3)))

four_and : (n : ℕ) (ws : List (List ℕ)) → length ws ≡ suc (suc (suc (suc n))) → (a : List ℕ) × (b : List ℕ) × (c : List ℕ) × (d : List ℕ) × (xs : List (List ℕ)) × (ws ≡ a ∷ b ∷ c ∷ d ∷ xs) × (length xs ≡ n)
four_and n ws h =
    let f = split_first (suc (suc (suc n))) ws h in
    let g = split_first (suc (suc n)) f.1 f.3 in
    let i = split_first (suc n) g.1 g.3 in
    let j = split_first n i.1 i.3 in
    (f.0, g.0, i.0, j.0, j.1, f.2 ∙ ap (λ xs. f.0 ∷ xs) (g.2 ∙ ap (λ xs. g.0 ∷ xs) (i.2 ∙ ap (λ xs. i.0 ∷ xs) j.2)), j.3)

-- the words give the command, or one in a number's place is none
Given : List ℕ → List ℕ → List (List ℕ) → Type 0
Given name numbers words =
    ((c : Command) × Gives name words c) ⊎ ((i : ℕ) × (operand : List ℕ) × Contains numbers i × (slice_get words i ≡ Some operand) × ((k : ℕ) → IsNumber operand k → ⊥))

given_four : (words : List (List ℕ)) → length words ≡ 4 → Given (codes "seed") (3 ∷ []) words × Given (codes "expand") (3 ∷ []) words
unfolding Given
given_four words h =
    let f = four_and 0 words h in
    let e = f.5 ∙ ap (λ xs. f.0 ∷ f.1 ∷ f.2 ∷ f.3 ∷ xs) (no_words f.4 f.6) in
    subst (λ ws. Given (codes "seed") (3 ∷ []) ws × Given (codes "expand") (3 ∷ []) ws) (sym e) (elim (decide_number f.3) [
      | inl k ↦ let p = place_some f.0 f.1 f.2 f.3 k.0 k.1 in (inl (Seed p.0, gives_seed p.1), inl (Expand p.0, gives_expand p.1))
      | inr bad ↦ (inr (3, f.3, (0, omega arith, refl), refl, bad), inr (3, f.3, (0, omega arith, refl), refl, bad))
    ])

given_two : (words : List (List ℕ)) → length words ≡ 2 → Given (codes "seedline") (1 ∷ []) words
unfolding Given
given_two words h =
    let f = two_of words h in
    subst (Given (codes "seedline") (1 ∷ [])) (sym f.2) (elim (decide_number f.1) [
      | inl k ↦ let s = stands_some f.0 in inl (SeedLine (map with_slash s.0) k.0, gives_seed_line (s.0, s.1, refl) k.1)
      | inr bad ↦ inr (1, f.1, (0, omega arith, refl), refl, bad)
    ])

given_eight : (words : List (List ℕ)) → length words ≡ 8 → Given (codes "explain") (3 ∷ 7 ∷ []) words
unfolding Given
given_eight words h =
    let f = four_and 4 words h in
    let g = four_and 0 f.4 f.6 in
    let e = f.5 ∙ ap (λ xs. f.0 ∷ f.1 ∷ f.2 ∷ f.3 ∷ xs) (g.5 ∙ ap (λ xs. g.0 ∷ g.1 ∷ g.2 ∷ g.3 ∷ xs) (no_words g.4 g.6)) in
    subst (Given (codes "explain") (3 ∷ 7 ∷ [])) (sym e) (elim (decide_number f.3) [
      | inr bad ↦ inr (3, f.3, (0, omega arith, refl), refl, bad)
      | inl k ↦ elim (decide_number g.3) [
        | inr bad ↦ inr (7, g.3, (1, omega arith, refl), refl, bad)
        | inl l ↦
            let p = place_some f.0 f.1 f.2 f.3 k.0 k.1 in let q = place_some g.0 g.1 g.2 g.3 l.0 l.1 in
            inl (Explain p.0 q.0, gives_explain p.1 q.1)
      ]
    ])

given_bare : (name : List ℕ) (c : Command) (words : List (List ℕ)) → Gives name [] c → length words ≡ 0 → Given name [] words
unfolding Given
given_bare name c words g h = inl (c, subst (λ ws. Gives name ws c) (sym (no_words words h)) g)

given : (name : List ℕ) (n : ℕ) (numbers : List ℕ) (words : List (List ℕ)) → Takes name n numbers → length words ≡ n → Given name numbers words
given name n numbers words seed h = (given_four words h).0
given name n numbers words expand h = (given_four words h).1
given name n numbers words seed_line h = given_two words h
given name n numbers words explain h = given_eight words h
given name n numbers words reset h = given_bare (codes "reset") Reset words gives_reset h
given name n numbers words expand_all h = given_bare (codes "expand-all") ExpandAll words gives_expand_all h
given name n numbers words slice h = given_bare (codes "slice") Slice words gives_slice h
given name n numbers words full h = given_bare (codes "full") Full words gives_full h
given name n numbers words lines h = given_bare (codes "lines") Lines words gives_lines h

decide_comment : (word : List ℕ) → BeginsComment word ⊎ (BeginsComment word → ⊥)
decide_comment [] = inr (λ h. h)
decide_comment (b ∷ bs) = cases_eq b 35

Told : List ℕ → Type 0
Told line = (r : Result Command LineError) × Says line r

tell_known : (line word name : List ℕ) (words : List (List ℕ)) (n : ℕ) (numbers : List ℕ) → IsCommandLine line word words → StandsFor word name → Takes name n numbers → Told line
unfolding Told Given
tell_known line word name words n numbers h s t = elim (cases_eq (length words) n) [
  | inr ne ↦ (Err Arity, arity word words h (name, n, numbers, t, s, ne))
  | inl e ↦ elim (given name n numbers words t e) [
    | inl g ↦ (Ok g.0, command word words h (name, s, g.1))
    | inr b ↦ (Err BadNumber, number word words h (name, n, numbers, t, s, e, b.0, b.1, b.2, b.3, b.4))
  ]
]

tell_word : (line word : List ℕ) (words : List (List ℕ)) → IsCommandLine line word words → Told line
unfolding Told Known Strange
tell_word line word words h =
    let s = stands_some word in
    elim (decide_known s.0) [
      | inl k ↦ tell_known line word s.0 words k.0 k.1 h s.1 k.2
      | inr no_name ↦ (Err Unknown, unknown word words h (λ name n numbers t st. no_name n numbers (subst (λ x. Takes x n numbers) (stands_one word name s.0 st s.1) t)))
    ]

tell_words : (line : List ℕ) (words : List (List ℕ)) → length line ≤ 4096 → HasWords line words → Told line
unfolding Told
tell_words line [] short h = (Ok Blank, empty short h)
tell_words line (word ∷ words) short h = elim (decide_comment word) [
  | inl c ↦ (Ok Blank, comment word words short h c)
  | inr nc ↦ tell_word line word words (record { short = short; has = h; no_comment = nc })
]

-- a line says one thing at least
pub says_some : (line : List ℕ) → (r : Result Command LineError) × Says line r
unfolding Told
says_some line = elim (cases_lt 4096 (length line)) [
  | inl long ↦ (Err TooLong, too_long long)
  | inr short ↦ let t = words_some line in tell_words line t.0 short t.1
]

-- A script has as many replies by any facts: which lines are answered the script tells alone.
use Rattle.std.proofs.Common.{◌≡◌, ◌++◌, Bool, ℕ, ◌+◌, suc, List, [], ◌∷◌, length, Ok, Err, refl, sym, ap, subst, ◌∙◌, arith, length-append}
use Rattle.std.specs.Prelude.{Result}
use Rattle.dep_form.specs.declared.facts.Facts.{Facts}
use Rattle.script.specs.Lines.{Says}
use Rattle.script.proofs.Deciding.{says_one}
use Rattle.script.specs.declared.command.Command.{Command}
use Rattle.script.specs.declared.command.Command.TheVariants as command
use Rattle.script.specs.declared.command.LineError.{LineError}
use Rattle.report.specs.Replies.{Answer}
use Rattle.session_form.specs.States.{State, at_first}
use Rattle.session_form.specs.Answers.{Answers}
use Rattle.session_form.specs.Scripts.{HasLines, IsTaken, AreLines, of_all, of_rest, of_cut, IsTrimmed, cut, kept, AreReplies, none, blank, refused, answered, closing, AreScriptReplies}
use Rattle.session_form.proofs.OneScript.{one_splitting}

abbrev tl : List ℕ → List ℕ
tl [] = []
tl (x ∷ xs) = xs

abbrev hd : ℕ → List ℕ → ℕ
hd d [] = d
hd d (x ∷ xs) = x

fronts_are : (a b c d : List ℕ) → a ++ b ≡ c ++ d → length a ≡ length c → (a ≡ c) × (b ≡ d)
fronts_are [] b [] d e n = (refl, e)
fronts_are [] b (y ∷ c) d e n = absurd (omega (arith, n))
fronts_are (x ∷ a) b [] d e n = absurd (omega (arith, n))
fronts_are (x ∷ a) b (y ∷ c) d e n =
    let h = fronts_are a b c d (ap tl e) (omega (arith, n)) in
    (ap (λ z. z ∷ a) (ap (hd 0) e) ∙ ap (λ z. y ∷ z) h.0, h.1)

one_taken : (bytes a b c d : List ℕ) → IsTaken bytes a b → IsTaken bytes c d → (a ≡ c) × (b ≡ d)
one_taken bytes a b c d h g =
    fronts_are a b c d (sym h.begins ∙ g.begins) (omega (arith, h.longest c d g.begins g.allowed, g.longest a b h.begins h.allowed))

lines_of_one : (taken other : List ℕ) (ls ks : List (List ℕ)) (r q : List ℕ) → taken ≡ other → HasLines taken ls r → HasLines other ks q → (ls ≡ ks) × (r ≡ q)
lines_of_one taken other ls ks r q same h g = one_splitting taken ls ks r q h (subst (λ z. HasLines z ks q) (sym same) g)

one_lines : (bytes : List ℕ) (c d : Bool) (ls ks : List (List ℕ)) → AreLines bytes c ls → AreLines bytes d ks → (c ≡ d) × (ls ≡ ks)
one_lines bytes _ _ _ _ (of_all {taken} {lines} t h) (of_all {taken = taken2} {lines = lines2} u g) =
    (refl, (lines_of_one taken taken2 lines lines2 [] [] (one_taken bytes taken [] taken2 [] t u).0 h g).0)
one_lines bytes _ _ _ _ (of_all {taken} {lines} t h) (of_rest {taken = taken2} {lines = lines2} {rest} u g some) =
    absurd (some (sym (lines_of_one taken taken2 lines lines2 [] rest (one_taken bytes taken [] taken2 [] t u).0 h g).1))
one_lines bytes _ _ _ _ (of_all {taken} {lines} t h) (of_cut {taken = taken2} {after} u some g) = absurd (some (sym (one_taken bytes taken [] taken2 after t u).1))
one_lines bytes _ _ _ _ (of_rest {taken} {lines} {rest} t h some) (of_all {taken = taken2} {lines = lines2} u g) =
    absurd (some (lines_of_one taken taken2 lines lines2 rest [] (one_taken bytes taken [] taken2 [] t u).0 h g).1)
one_lines bytes _ _ _ _ (of_rest {taken} {lines} {rest} t h some) (of_rest {taken = taken2} {lines = lines2} {rest = rest2} u g more) =
    let e = lines_of_one taken taken2 lines lines2 rest rest2 (one_taken bytes taken [] taken2 [] t u).0 h g in
    (refl, ap (λ z. z ++ (rest ∷ [])) e.0 ∙ ap (λ z. lines2 ++ (z ∷ [])) e.1)
one_lines bytes _ _ _ _ (of_rest {taken} t h some) (of_cut {taken = taken2} {after} u more g) = absurd (more (sym (one_taken bytes taken [] taken2 after t u).1))
one_lines bytes _ _ _ _ (of_cut {taken} {after} t some h) (of_all {taken = taken2} u g) = absurd (some (one_taken bytes taken after taken2 [] t u).1)
one_lines bytes _ _ _ _ (of_cut {taken} {after} t some h) (of_rest {taken = taken2} u g more) = absurd (some (one_taken bytes taken after taken2 [] t u).1)
one_lines bytes _ _ _ _ (of_cut {taken} {after} {lines} {rest} t some h) (of_cut {taken = taken2} {after = after2} {lines = lines2} {rest = rest2} u more g) =
    (refl, (lines_of_one taken taken2 lines lines2 rest rest2 (one_taken bytes taken after taken2 after2 t u).0 h g).0)

last_is : (a b : List ℕ) → a ++ (13 ∷ []) ≡ b ++ (13 ∷ []) → a ≡ b
last_is a b e =
    let n : length a ≡ length b = omega (arith, sym (length-append a (13 ∷ [])) ∙ ap length e ∙ length-append b (13 ∷ [])) in
    (fronts_are a (13 ∷ []) b (13 ∷ []) e n).0

one_trimmed : (l s t u : List ℕ) → l ≡ u → IsTrimmed l s → IsTrimmed u t → s ≡ t
one_trimmed _ _ _ _ e (cut s) (cut t) = last_is s t e
one_trimmed _ _ _ _ e (cut s) (kept t n) = absurd (n s (sym e))
one_trimmed _ _ _ _ e (kept s n) (cut t) = absurd (n t e)
one_trimmed _ _ _ _ e (kept s n) (kept t k) = e

said : (l s t : List ℕ) (r q : Result Command LineError) → IsTrimmed l s → IsTrimmed l t → Says s r → Says t q → r ≡ q
said l s t r q a b x y = says_one s r q x (subst (λ z. Says z q) (sym (one_trimmed l s t l refl a b)) y)

abbrev told : Command → Result Command LineError
told c = Ok c

abbrev command_in : Command → Result Command LineError → Command
command_in d (Ok c) = c
command_in d (Err e) = d

ok_is : (c d : Command) → told c ≡ told d → c ≡ d
ok_is c d e = ap (command_in d) e

-- a blank line gets no answer
unanswered : (f : Facts) (c : Command) (st next : State) (a : Answer) → command.Blank ≡ c → Answers f st c a next → ⊥
unanswered f c st next a e h = never (subst (λ x. Answers f st x a next) (sym e) h)
  where
    never : Answers f st command.Blank a next → ⊥
    never h = elim h [ ]

module _ (f g : Facts) where
  as_many : (st su : State) (ls : List (List ℕ)) (rs bs : List Answer) (s t : State) → AreReplies f st ls rs s → AreReplies g su ls bs t → length rs ≡ length bs
  as_many st su _ _ _ _ _ none none = refl
  as_many st su _ _ _ _ _ (blank {last} {ls} {rs} a x h) (blank {last = last2} {rs = bs} b y k) = as_many st su ls rs bs last last2 h k
  as_many st su _ _ _ _ _ (blank {l} {t} a x h) (refused {t = t2} {e} b y z k) = absurd (cc (said l t t2 (Ok command.Blank) (Err e) a b x y))
  as_many st su _ _ _ _ _ (blank {l} {t} a x h) (answered {next} {t = t2} {a = w} {c} b y z k) =
      absurd (unanswered g c su next w (ok_is command.Blank c (said l t t2 (Ok command.Blank) (Ok c) a b x y)) z)
  as_many st su _ _ _ _ _ (refused {l} {t} {e} a x z h) (blank {t = t2} b y k) = absurd (cc (said l t t2 (Err e) (Ok command.Blank) a b x y))
  as_many st su _ _ _ _ _ (refused {last} {ls} {rs} a x z h) (refused {last = last2} {rs = bs} b y w k) = ap suc (as_many st su ls rs bs last last2 h k)
  as_many st su _ _ _ _ _ (refused {last} {ls} {rs} a x z h) (answered {next} {last = last2} {rs = bs} b y w k) = ap suc (as_many st next ls rs bs last last2 h k)
  as_many st su _ _ _ _ _ (answered {next} {l} {t} {a = v} {c} a x z h) (blank {t = t2} b y k) =
      absurd (unanswered f c st next v (sym (ok_is c command.Blank (said l t t2 (Ok c) (Ok command.Blank) a b x y))) z)
  as_many st su _ _ _ _ _ (answered {next} {last} {ls} {rs} a x z h) (refused {last = last2} {rs = bs} b y w k) = ap suc (as_many next su ls rs bs last last2 h k)
  as_many st su _ _ _ _ _ (answered {next} {last} {ls} {rs} a x z h) (answered {next = next2} {last = last2} {rs = bs} b y w k) = ap suc (as_many next next2 ls rs bs last last2 h k)

  longer : (rs bs : List Answer) (c d : Bool) → length rs ≡ length bs → c ≡ d → length (rs ++ closing c) ≡ length (bs ++ closing d)
  longer rs bs c d same e =
      length-append rs (closing c) ∙ ap (λ (n : ℕ). n + length (closing c)) same ∙ ap (λ (x : Bool). length bs + length (closing x)) e ∙ sym (length-append bs (closing d))

  pub replies_are_as_many : (script : List ℕ) (rs bs : List Answer) → AreScriptReplies f script rs → AreScriptReplies g script bs → length rs ≡ length bs
  replies_are_as_many script rs bs h k =
      let lines = one_lines script h.is_cut k.is_cut h.lines k.lines h.are_lines k.are_lines in
      let same : length h.replies ≡ length k.replies = as_many at_first at_first h.lines h.replies k.replies h.last k.last h.are_replies (subst (λ ls. AreReplies g at_first ls k.replies k.last) (sym lines.1) k.are_replies) in
      ap length h.all ∙ longer h.replies k.replies h.is_cut k.is_cut same lines.0 ∙ sym (ap length k.all)

-- A script has one list of lines, and lines have one list of replies.
use Rattle.std.proofs.Common.{◌≡◌, ◌++◌, Bool, ℕ, List, [], ◌∷◌, length, Ok, Err, refl, sym, ap, subst, ◌∙◌, arith, length-append}
use Rattle.std.specs.Prelude.{Result}
use Rattle.dep_form.specs.declared.facts.Facts.{Facts}
use Rattle.script.specs.Lines.{Says}
use Rattle.script.proofs.Deciding.{says_one}
use Rattle.script.specs.declared.command.Command.{Command}
use Rattle.script.specs.declared.command.Command.TheVariants as command
use Rattle.script.specs.declared.command.LineError.{LineError}
use Rattle.report.specs.declared.reply.CommandError.{CommandError}
use Rattle.report.specs.Replies.{Answer, Error}
use Rattle.session_form.specs.States.{State}
use Rattle.session_form.specs.Answers.{Answers}
use Rattle.session_form.specs.Scripts.{HasLines, IsTaken, AreLines, of_all, of_rest, of_cut, IsTrimmed, cut, kept, IsRefusal, too_long, unknown, arity, number, AreReplies, none, blank, refused, answered}
use Rattle.session_form.proofs.OneAnswer.{one_answer}
use Rattle.script_lines.proofs.Splitting.{one_splitting}

-- ---- lists
abbrev hd : ℕ → List ℕ → ℕ
hd d [] = d
hd d (x ∷ xs) = x

abbrev tl : List ℕ → List ℕ
tl [] = []
tl (x ∷ xs) = xs

-- ---- what is taken of a script
fronts_are : (a b c d : List ℕ) → a ++ b ≡ c ++ d → length a ≡ length c → (a ≡ c) × (b ≡ d)
fronts_are [] b [] d e n = (refl, e)
fronts_are [] b (y ∷ c) d e n = absurd (omega (arith, n))
fronts_are (x ∷ a) b [] d e n = absurd (omega (arith, n))
fronts_are (x ∷ a) b (y ∷ c) d e n =
    let h = fronts_are a b c d (ap tl e) (omega (arith, n)) in
    (ap (λ z. z ∷ a) (ap (hd 0) e) ∙ ap (λ z. y ∷ z) h.0, h.1)

one_taken : (bytes a b c d : List ℕ) → IsTaken bytes a b → IsTaken bytes c d → (a ≡ c) × (b ≡ d)
one_taken bytes a b c d h g =
    fronts_are a b c d (sym h.begins ∙ g.begins) (omega (arith, h.longest c d g.begins g.allowed, g.longest a b h.begins h.allowed))

lines_of_one : (taken other : List ℕ) (ls ks : List (List ℕ)) (r q : List ℕ) → taken ≡ other → HasLines taken ls r → HasLines other ks q → (ls ≡ ks) × (r ≡ q)
lines_of_one taken other ls ks r q same h g = one_splitting taken ls ks r q h (subst (λ z. HasLines z ks q) (sym same) g)

pub one_lines : (bytes : List ℕ) (c d : Bool) (ls ks : List (List ℕ)) → AreLines bytes c ls → AreLines bytes d ks → (c ≡ d) × (ls ≡ ks)
one_lines bytes _ _ _ _ (of_all {taken} {lines} t h) (of_all {taken = taken2} {lines = lines2} u g) =
    (refl, (lines_of_one taken taken2 lines lines2 [] [] (one_taken bytes taken [] taken2 [] t u).0 h g).0)
one_lines bytes _ _ _ _ (of_all {taken} {lines} t h) (of_rest {taken = taken2} {lines = lines2} {rest} u g some) =
    absurd (some (sym (lines_of_one taken taken2 lines lines2 [] rest (one_taken bytes taken [] taken2 [] t u).0 h g).1))
one_lines bytes _ _ _ _ (of_all {taken} {lines} t h) (of_cut {taken = taken2} {after} u some g) = absurd (some (sym (one_taken bytes taken [] taken2 after t u).1))
one_lines bytes _ _ _ _ (of_rest {taken} {lines} {rest} t h some) (of_all {taken = taken2} {lines = lines2} u g) =
    absurd (some (lines_of_one taken taken2 lines lines2 rest [] (one_taken bytes taken [] taken2 [] t u).0 h g).1)
one_lines bytes _ _ _ _ (of_rest {taken} {lines} {rest} t h some) (of_rest {taken = taken2} {lines = lines2} {rest = rest2} u g more) =
    let e = lines_of_one taken taken2 lines lines2 rest rest2 (one_taken bytes taken [] taken2 [] t u).0 h g in
    (refl, ap (λ z. z ++ (rest ∷ [])) e.0 ∙ ap (λ z. lines2 ++ (z ∷ [])) e.1)
one_lines bytes _ _ _ _ (of_rest {taken} t h some) (of_cut {taken = taken2} {after} u more g) = absurd (more (sym (one_taken bytes taken [] taken2 after t u).1))
one_lines bytes _ _ _ _ (of_cut {taken} {after} t some h) (of_all {taken = taken2} u g) = absurd (some (one_taken bytes taken after taken2 [] t u).1)
one_lines bytes _ _ _ _ (of_cut {taken} {after} t some h) (of_rest {taken = taken2} u g more) = absurd (some (one_taken bytes taken after taken2 [] t u).1)
one_lines bytes _ _ _ _ (of_cut {taken} {after} {lines} {rest} t some h) (of_cut {taken = taken2} {after = after2} {lines = lines2} {rest = rest2} u more g) =
    (refl, (lines_of_one taken taken2 lines lines2 rest rest2 (one_taken bytes taken after taken2 after2 t u).0 h g).0)

-- ---- lines without a byte 13 at their end
last_is : (a b : List ℕ) → a ++ (13 ∷ []) ≡ b ++ (13 ∷ []) → a ≡ b
last_is a b e =
    let n : length a ≡ length b = omega (arith, sym (length-append a (13 ∷ [])) ∙ ap length e ∙ length-append b (13 ∷ [])) in
    (fronts_are a (13 ∷ []) b (13 ∷ []) e n).0

one_trimmed : (l s t u : List ℕ) → l ≡ u → IsTrimmed l s → IsTrimmed u t → s ≡ t
one_trimmed _ _ _ _ e (cut s) (cut t) = last_is s t e
one_trimmed _ _ _ _ e (cut s) (kept t n) = absurd (n s (sym e))
one_trimmed _ _ _ _ e (kept s n) (cut t) = absurd (n t e)
one_trimmed _ _ _ _ e (kept s n) (kept t k) = e

-- ---- why a line is refused
pub one_refusal : (d e : LineError) (x y : CommandError) → d ≡ e → IsRefusal d x → IsRefusal e y → x ≡ y
one_refusal _ _ _ _ e too_long too_long = refl
one_refusal _ _ _ _ e too_long unknown = absurd (cc e)
one_refusal _ _ _ _ e too_long arity = absurd (cc e)
one_refusal _ _ _ _ e too_long number = absurd (cc e)
one_refusal _ _ _ _ e unknown too_long = absurd (cc e)
one_refusal _ _ _ _ e unknown unknown = refl
one_refusal _ _ _ _ e unknown arity = absurd (cc e)
one_refusal _ _ _ _ e unknown number = absurd (cc e)
one_refusal _ _ _ _ e arity too_long = absurd (cc e)
one_refusal _ _ _ _ e arity unknown = absurd (cc e)
one_refusal _ _ _ _ e arity arity = refl
one_refusal _ _ _ _ e arity number = absurd (cc e)
one_refusal _ _ _ _ e number too_long = absurd (cc e)
one_refusal _ _ _ _ e number unknown = absurd (cc e)
one_refusal _ _ _ _ e number arity = absurd (cc e)
one_refusal _ _ _ _ e number number = refl

-- ---- what two readings of one line say
pub said : (l s t : List ℕ) (r q : Result Command LineError) → IsTrimmed l s → IsTrimmed l t → Says s r → Says t q → r ≡ q
said l s t r q a b x y = says_one s r q x (subst (λ z. Says z q) (sym (one_trimmed l s t l refl a b)) y)

abbrev pub told : Command → Result Command LineError
told c = Ok c

abbrev pub untold : LineError → Result Command LineError
untold e = Err e

abbrev command_in : Command → Result Command LineError → Command
command_in d (Ok c) = c
command_in d (Err e) = d

abbrev error_in : LineError → Result Command LineError → LineError
error_in d (Ok c) = d
error_in d (Err e) = e

pub ok_is : (c d : Command) → told c ≡ told d → c ≡ d
ok_is c d e = ap (command_in d) e

pub err_is : (c d : LineError) → untold c ≡ untold d → c ≡ d
err_is c d e = ap (error_in d) e

module _ (f : Facts) where
  -- a blank line gets no answer
  pub unanswered : (c : Command) (st next : State) (a : Answer) → command.Blank ≡ c → Answers f st c a next → ⊥
  unanswered c st next a e h = never (subst (λ x. Answers f st x a next) (sym e) h)
    where
      never : Answers f st command.Blank a next → ⊥
      never h = elim h [ ]

  pub one_reply : (st : State) (ls : List (List ℕ)) (rs bs : List Answer) (s t : State) → AreReplies f st ls rs s → AreReplies f st ls bs t → (rs ≡ bs) × (s ≡ t)
  one_reply st _ _ _ _ _ none none = (refl, refl)
  one_reply st _ _ _ _ _ (blank {last} {ls} {rs} a x h) (blank {last = last2} {rs = bs} b y g) = one_reply st ls rs bs last last2 h g
  one_reply st _ _ _ _ _ (blank {l} {t} a x h) (refused {t = t2} {e} b y z g) = absurd (cc (said l t t2 (Ok command.Blank) (Err e) a b x y))
  one_reply st _ _ _ _ _ (blank {l} {t} a x h) (answered {next} {t = t2} {a = w} {c} b y z g) = absurd (unanswered c st next w (ok_is command.Blank c (said l t t2 (Ok command.Blank) (Ok c) a b x y)) z)
  one_reply st _ _ _ _ _ (refused {l} {t} {e} a x z h) (blank {t = t2} b y g) = absurd (cc (said l t t2 (Err e) (Ok command.Blank) a b x y))
  one_reply st _ _ _ _ _ (refused {last} {l} {t} {ls} {rs} {e = d} {c} a x z h) (refused {last = last2} {t = t2} {rs = bs} {e} {c = k} b y w g) =
      let same : c ≡ k = one_refusal d e c k (err_is d e (said l t t2 (Err d) (Err e) a b x y)) z w in
      let rest = one_reply st ls rs bs last last2 h g in
      (ap (λ v. Error v ∷ rs) same ∙ ap (λ v. Error k ∷ v) rest.0, rest.1)
  one_reply st _ _ _ _ _ (refused {l} {t} {e} a x z h) (answered {t = t2} {c} b y w g) = absurd (cc (said l t t2 (Err e) (Ok c) a b x y))
  one_reply st _ _ _ _ _ (answered {next} {l} {t} {a = v} {c} a x z h) (blank {t = t2} b y g) = absurd (unanswered c st next v (sym (ok_is c command.Blank (said l t t2 (Ok c) (Ok command.Blank) a b x y))) z)
  one_reply st _ _ _ _ _ (answered {l} {t} {c} a x z h) (refused {t = t2} {e} b y w g) = absurd (cc (said l t t2 (Ok c) (Err e) a b x y))
  one_reply st _ _ _ _ _ (answered {next} {last} {l} {t} {ls} {a = v} {rs} {c} a x z h) (answered {next = next2} {last = last2} {t = t2} {a = w} {rs = bs} {c = d} b y k g) =
      let same : c ≡ d = ok_is c d (said l t t2 (Ok c) (Ok d) a b x y) in
      let one = one_answer f c st v w next next2 z (subst (λ u. Answers f st u w next2) (sym same) k) in
      let rest = one_reply next ls rs bs last last2 h (subst (λ u. AreReplies f u ls bs last2) (sym one.1) g) in
      (ap (λ u. u ∷ rs) one.0 ∙ ap (λ u. w ∷ u) rest.0, rest.1)

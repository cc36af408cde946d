-- A script has one text.
use Rattle.std.proofs.Common.{◌≡◌, ◌≢◌, ◌++◌, Bool, ℕ, suc, List, [], ◌∷◌, length, Ok, Err, refl, sym, ap, subst, ◌∙◌, arith, length-append}
use Rattle.std.specs.Prelude.{All, Result}
use Rattle.std.specs.List.{flat_map}
use Rattle.dep_form.specs.declared.facts.Facts.{Facts}
use Rattle.script.specs.Lines.{Says}
use Rattle.script.proofs.Deciding.{says_one}
use Rattle.script.specs.declared.command.Command.{Command}
use Rattle.script.specs.declared.command.Command.TheVariants as command
use Rattle.script.specs.declared.command.LineError.{LineError}
use Rattle.report.specs.declared.reply.CommandError.{CommandError}
use Rattle.report.specs.Replies.{Answer, Error, text}
use Rattle.session_form.specs.States.{State, at_first}
use Rattle.session_form.specs.Answers.{Answers}
use Rattle.session_form.specs.Scripts.{IsOneLine, ended, HasLines, IsTaken, AreLines, of_all, of_rest, of_cut, IsTrimmed, cut, kept, IsRefusal, too_long, unknown, arity, number, AreReplies, none, blank, refused, answered, closing, AreScriptReplies, IsScriptText}
use Rattle.session_form.proofs.OneAnswer.{one_answer}

-- ---- lists
abbrev hd : ℕ → List ℕ → ℕ
hd d [] = d
hd d (x ∷ xs) = x

abbrev tl : List ℕ → List ℕ
tl [] = []
tl (x ∷ xs) = xs

first_of : (x : ℕ) (xs : List ℕ) → IsOneLine (x ∷ xs) → x ≢ 10
first_of x xs all = all 0 x (omega arith)

rest_of : (x : ℕ) (xs : List ℕ) → IsOneLine (x ∷ xs) → IsOneLine xs
rest_of x xs all = λ k d lt. all (suc k) d (omega (arith, lt))

pub first_line : (l : List ℕ) (ls : List (List ℕ)) → All IsOneLine (l ∷ ls) → IsOneLine l
first_line l ls all = all 0 l (omega arith)

pub rest_lines : (l : List ℕ) (ls : List (List ℕ)) → All IsOneLine (l ∷ ls) → All IsOneLine ls
rest_lines l ls all = λ k d lt. all (suc k) d (omega (arith, lt))

-- ---- the first end of a line
first_end : (l k X Y : List ℕ) → l ++ (10 ∷ X) ≡ k ++ (10 ∷ Y) → IsOneLine l → IsOneLine k → (l ≡ k) × (X ≡ Y)
first_end [] [] X Y e p q = (refl, ap tl e)
first_end [] (y ∷ k) X Y e p q = absurd (first_of y k q (sym (ap (hd 0) e)))
first_end (x ∷ l) [] X Y e p q = absurd (first_of x l p (ap (hd 0) e))
first_end (x ∷ l) (y ∷ k) X Y e p q =
    let h = first_end l k X Y (ap tl e) (rest_of x l p) (rest_of y k q) in
    (ap (λ z. z ∷ l) (ap (hd 0) e) ∙ ap (λ z. y ∷ z) h.0, h.1)

-- a line with no end is none with one
no_end : (r l X : List ℕ) → r ≡ l ++ (10 ∷ X) → IsOneLine r → ⊥
no_end [] [] X e p = absurd (cc e)
no_end [] (y ∷ l) X e p = absurd (cc e)
no_end (x ∷ r) [] X e p = first_of x r p (ap (hd 0) e)
no_end (x ∷ r) (y ∷ l) X e p = no_end r l X (ap tl e) (rest_of x r p)

ended_then : (l X : List ℕ) → (ended l) ++ X ≡ l ++ (10 ∷ X)
ended_then [] X = refl
ended_then (x ∷ l) X = ap (λ z. x ∷ z) (ended_then l X)

append_is : (a b c : List ℕ) → (a ++ b) ++ c ≡ a ++ (b ++ c)
append_is [] b c = refl
append_is (x ∷ a) b c = ap (λ z. x ∷ z) (append_is a b c)

next_line : (l : List ℕ) (ls : List (List ℕ)) (r : List ℕ) → flat_map ended (l ∷ ls) ++ r ≡ l ++ (10 ∷ (flat_map ended ls ++ r))
next_line l ls r = append_is (ended l) (flat_map ended ls) r ∙ ended_then l (flat_map ended ls ++ r)

lines_are : (ls ks : List (List ℕ)) (r q : List ℕ) → flat_map ended ls ++ r ≡ flat_map ended ks ++ q → All IsOneLine ls → All IsOneLine ks → IsOneLine r → IsOneLine q →
    (ls ≡ ks) × (r ≡ q)
lines_are [] [] r q e a b p o = (refl, e)
lines_are [] (k ∷ ks) r q e a b p o = absurd (no_end r k (flat_map ended ks ++ q) (e ∙ next_line k ks q) p)
lines_are (l ∷ ls) [] r q e a b p o = absurd (no_end q l (flat_map ended ls ++ r) (sym e ∙ next_line l ls r) o)
lines_are (l ∷ ls) (k ∷ ks) r q e a b p o =
    let h = first_end l k (flat_map ended ls ++ r) (flat_map ended ks ++ q) (sym (next_line l ls r) ∙ e ∙ next_line k ks q) (first_line l ls a) (first_line k ks b) in
    let g = lines_are ls ks r q h.1 (rest_lines l ls a) (rest_lines k ks b) p o in
    (ap (λ z. z ∷ ls) h.0 ∙ ap (λ z. k ∷ z) g.0, g.1)

pub one_splitting : (bytes : List ℕ) (ls ks : List (List ℕ)) (r q : List ℕ) → HasLines bytes ls r → HasLines bytes ks q → (ls ≡ ks) × (r ≡ q)
one_splitting bytes ls ks r q h g = lines_are ls ks r q (sym h.spells ∙ g.spells) h.each g.each h.last g.last

-- ---- what is taken of a script
fronts_are : (a b c d : List ℕ) → a ++ b ≡ c ++ d → length a ≡ length c → (a ≡ c) × (b ≡ d)
fronts_are [] b [] d e n = (refl, e)
fronts_are [] b (y ∷ c) d e n = absurd (omega (arith, n))
fronts_are (x ∷ a) b [] d e n = absurd (omega (arith, n))
fronts_are (x ∷ a) b (y ∷ c) d e n =
    let h = fronts_are a b c d (ap tl e) (omega (arith, n)) in
    (ap (λ z. z ∷ a) (ap (hd 0) e) ∙ ap (λ z. y ∷ z) h.0, h.1)

one_taken : (bytes a b c d : List ℕ) → IsTaken bytes a b → IsTaken bytes c d → (a ≡ c) × (b ≡ d)
one_taken bytes a b c d h g =
    fronts_are a b c d (sym h.begins ∙ g.begins) (omega (arith, h.longest c d g.begins g.allowed, g.longest a b h.begins h.allowed))

lines_of_one : (taken other : List ℕ) (ls ks : List (List ℕ)) (r q : List ℕ) → taken ≡ other → HasLines taken ls r → HasLines other ks q → (ls ≡ ks) × (r ≡ q)
lines_of_one taken other ls ks r q same h g = one_splitting taken ls ks r q h (subst (λ z. HasLines z ks q) (sym same) g)

one_lines : (bytes : List ℕ) (c d : Bool) (ls ks : List (List ℕ)) → AreLines bytes c ls → AreLines bytes d ks → (c ≡ d) × (ls ≡ ks)
one_lines bytes _ _ _ _ (of_all {taken} {lines} t h) (of_all {taken = taken2} {lines = lines2} u g) =
    (refl, (lines_of_one taken taken2 lines lines2 [] [] (one_taken bytes taken [] taken2 [] t u).0 h g).0)
one_lines bytes _ _ _ _ (of_all {taken} {lines} t h) (of_rest {taken = taken2} {lines = lines2} {rest} u g some) =
    absurd (some (sym (lines_of_one taken taken2 lines lines2 [] rest (one_taken bytes taken [] taken2 [] t u).0 h g).1))
one_lines bytes _ _ _ _ (of_all {taken} {lines} t h) (of_cut {taken = taken2} {after} u some g) = absurd (some (sym (one_taken bytes taken [] taken2 after t u).1))
one_lines bytes _ _ _ _ (of_rest {taken} {lines} {rest} t h some) (of_all {taken = taken2} {lines = lines2} u g) =
    absurd (some (lines_of_one taken taken2 lines lines2 rest [] (one_taken bytes taken [] taken2 [] t u).0 h g).1)
one_lines bytes _ _ _ _ (of_rest {taken} {lines} {rest} t h some) (of_rest {taken = taken2} {lines = lines2} {rest = rest2} u g more) =
    let e = lines_of_one taken taken2 lines lines2 rest rest2 (one_taken bytes taken [] taken2 [] t u).0 h g in
    (refl, ap (λ z. z ++ (rest ∷ [])) e.0 ∙ ap (λ z. lines2 ++ (z ∷ [])) e.1)
one_lines bytes _ _ _ _ (of_rest {taken} t h some) (of_cut {taken = taken2} {after} u more g) = absurd (more (sym (one_taken bytes taken [] taken2 after t u).1))
one_lines bytes _ _ _ _ (of_cut {taken} {after} t some h) (of_all {taken = taken2} u g) = absurd (some (one_taken bytes taken after taken2 [] t u).1)
one_lines bytes _ _ _ _ (of_cut {taken} {after} t some h) (of_rest {taken = taken2} u g more) = absurd (some (one_taken bytes taken after taken2 [] t u).1)
one_lines bytes _ _ _ _ (of_cut {taken} {after} {lines} {rest} t some h) (of_cut {taken = taken2} {after = after2} {lines = lines2} {rest = rest2} u more g) =
    (refl, (lines_of_one taken taken2 lines lines2 rest rest2 (one_taken bytes taken after taken2 after2 t u).0 h g).0)

-- ---- lines without a byte 13 at their end
last_is : (a b : List ℕ) → a ++ (13 ∷ []) ≡ b ++ (13 ∷ []) → a ≡ b
last_is a b e =
    let n : length a ≡ length b = omega (arith, sym (length-append a (13 ∷ [])) ∙ ap length e ∙ length-append b (13 ∷ [])) in
    (fronts_are a (13 ∷ []) b (13 ∷ []) e n).0

one_trimmed : (l s t u : List ℕ) → l ≡ u → IsTrimmed l s → IsTrimmed u t → s ≡ t
one_trimmed _ _ _ _ e (cut s) (cut t) = last_is s t e
one_trimmed _ _ _ _ e (cut s) (kept t n) = absurd (n s (sym e))
one_trimmed _ _ _ _ e (kept s n) (cut t) = absurd (n t e)
one_trimmed _ _ _ _ e (kept s n) (kept t k) = e

-- ---- why a line is refused
one_refusal : (d e : LineError) (x y : CommandError) → d ≡ e → IsRefusal d x → IsRefusal e y → x ≡ y
one_refusal _ _ _ _ e too_long too_long = refl
one_refusal _ _ _ _ e too_long unknown = absurd (cc e)
one_refusal _ _ _ _ e too_long arity = absurd (cc e)
one_refusal _ _ _ _ e too_long number = absurd (cc e)
one_refusal _ _ _ _ e unknown too_long = absurd (cc e)
one_refusal _ _ _ _ e unknown unknown = refl
one_refusal _ _ _ _ e unknown arity = absurd (cc e)
one_refusal _ _ _ _ e unknown number = absurd (cc e)
one_refusal _ _ _ _ e arity too_long = absurd (cc e)
one_refusal _ _ _ _ e arity unknown = absurd (cc e)
one_refusal _ _ _ _ e arity arity = refl
one_refusal _ _ _ _ e arity number = absurd (cc e)
one_refusal _ _ _ _ e number too_long = absurd (cc e)
one_refusal _ _ _ _ e number unknown = absurd (cc e)
one_refusal _ _ _ _ e number arity = absurd (cc e)
one_refusal _ _ _ _ e number number = refl

-- ---- what two readings of one line say
said : (l s t : List ℕ) (r q : Result Command LineError) → IsTrimmed l s → IsTrimmed l t → Says s r → Says t q → r ≡ q
said l s t r q a b x y = says_one s r q x (subst (λ z. Says z q) (sym (one_trimmed l s t l refl a b)) y)

abbrev told : Command → Result Command LineError
told c = Ok c

abbrev untold : LineError → Result Command LineError
untold e = Err e

abbrev command_in : Command → Result Command LineError → Command
command_in d (Ok c) = c
command_in d (Err e) = d

abbrev error_in : LineError → Result Command LineError → LineError
error_in d (Ok c) = d
error_in d (Err e) = e

ok_is : (c d : Command) → told c ≡ told d → c ≡ d
ok_is c d e = ap (command_in d) e

err_is : (c d : LineError) → untold c ≡ untold d → c ≡ d
err_is c d e = ap (error_in d) e

module _ (f : Facts) where
  -- a blank line gets no answer
  unanswered : (c : Command) (st next : State) (a : Answer) → command.Blank ≡ c → Answers f st c a next → ⊥
  unanswered c st next a e h = never (subst (λ x. Answers f st x a next) (sym e) h)
    where
      never : Answers f st command.Blank a next → ⊥
      never h = elim h [ ]

  one_reply : (st : State) (ls : List (List ℕ)) (rs bs : List Answer) (s t : State) → AreReplies f st ls rs s → AreReplies f st ls bs t → (rs ≡ bs) × (s ≡ t)
  one_reply st _ _ _ _ _ none none = (refl, refl)
  one_reply st _ _ _ _ _ (blank {last} {ls} {rs} a x h) (blank {last = last2} {rs = bs} b y g) = one_reply st ls rs bs last last2 h g
  one_reply st _ _ _ _ _ (blank {l} {t} a x h) (refused {t = t2} {e} b y z g) = absurd (cc (said l t t2 (Ok command.Blank) (Err e) a b x y))
  one_reply st _ _ _ _ _ (blank {l} {t} a x h) (answered {next} {t = t2} {a = w} {c} b y z g) = absurd (unanswered c st next w (ok_is command.Blank c (said l t t2 (Ok command.Blank) (Ok c) a b x y)) z)
  one_reply st _ _ _ _ _ (refused {l} {t} {e} a x z h) (blank {t = t2} b y g) = absurd (cc (said l t t2 (Err e) (Ok command.Blank) a b x y))
  one_reply st _ _ _ _ _ (refused {last} {l} {t} {ls} {rs} {e = d} {c} a x z h) (refused {last = last2} {t = t2} {rs = bs} {e} {c = k} b y w g) =
      let same : c ≡ k = one_refusal d e c k (err_is d e (said l t t2 (Err d) (Err e) a b x y)) z w in
      let rest = one_reply st ls rs bs last last2 h g in
      (ap (λ v. Error v ∷ rs) same ∙ ap (λ v. Error k ∷ v) rest.0, rest.1)
  one_reply st _ _ _ _ _ (refused {l} {t} {e} a x z h) (answered {t = t2} {c} b y w g) = absurd (cc (said l t t2 (Err e) (Ok c) a b x y))
  one_reply st _ _ _ _ _ (answered {next} {l} {t} {a = v} {c} a x z h) (blank {t = t2} b y g) = absurd (unanswered c st next v (sym (ok_is c command.Blank (said l t t2 (Ok c) (Ok command.Blank) a b x y))) z)
  one_reply st _ _ _ _ _ (answered {l} {t} {c} a x z h) (refused {t = t2} {e} b y w g) = absurd (cc (said l t t2 (Ok c) (Err e) a b x y))
  one_reply st _ _ _ _ _ (answered {next} {last} {l} {t} {ls} {a = v} {rs} {c} a x z h) (answered {next = next2} {last = last2} {t = t2} {a = w} {rs = bs} {c = d} b y k g) =
      let same : c ≡ d = ok_is c d (said l t t2 (Ok c) (Ok d) a b x y) in
      let one = one_answer f c st v w next next2 z (subst (λ u. Answers f st u w next2) (sym same) k) in
      let rest = one_reply next ls rs bs last last2 h (subst (λ u. AreReplies f u ls bs last2) (sym one.1) g) in
      (ap (λ u. u ∷ rs) one.0 ∙ ap (λ u. w ∷ u) rest.0, rest.1)

  one_list_of_replies : (script : List ℕ) (rs bs : List Answer) → AreScriptReplies f script rs → AreScriptReplies f script bs → rs ≡ bs
  one_list_of_replies script rs bs h g =
      let lines = one_lines script h.is_cut g.is_cut h.lines g.lines h.are_lines g.are_lines in
      let replies = one_reply at_first h.lines h.replies g.replies h.last g.last h.are_replies (subst (λ ls. AreReplies f at_first ls g.replies g.last) (sym lines.1) g.are_replies) in
      h.all ∙ ap (λ qs. qs ++ closing h.is_cut) replies.0 ∙ ap (λ c. g.replies ++ closing c) lines.0 ∙ sym g.all

  pub one_text : (script a b : List ℕ) → IsScriptText f script a → IsScriptText f script b → a ≡ b
  one_text script a b h g = h.2 ∙ ap (flat_map (text f)) (one_list_of_replies script h.0 g.0 h.1 g.1) ∙ sym g.2

-- What was written for a line, by what the line says.
use Rattle.std.proofs.Common.{◌≡◌, ◌≢◌, ◌⊎◌, ◌<◌, ◌∙◌, ◌++◌, Bool, true, false, ℕ, List, [], ◌∷◌, length, take, Option, Some, None, Result, Ok, Err, inl, inr, refl, sym, ap, subst, arith}
use Rattle.std.specs.Prelude.{IfOk, OnErr}
use Rattle.std.specs.List.{flat_map}
use Rattle.std.proofs.lemmas.List.{append-nil}
use Rattle.dep_form.specs.declared.facts.Facts.{Facts}
use Rattle.edge_io.specs.declared.sink.SinkError.{SinkError}
use Rattle.edge_io.specs.Reads.{appended}
use Rattle.script.specs.Lines.{Says}
use Rattle.script.specs.declared.command.Command.{Command}
use Rattle.script.specs.declared.command.Command.TheVariants as command
use Rattle.script.specs.declared.command.LineError.{LineError}
use Rattle.script.specs.declared.command.LineError.TheVariants as line
use Rattle.script_lines.specs.Limits.{kept_bytes}
use Rattle.report.specs.declared.reply.CommandError.{CommandError}
use Rattle.report.specs.Replies.{Answer, Error, text}
use Rattle.session_form.specs.States.{State}
use Rattle.session_form.specs.Answers.{Answers}
use Rattle.session_form.specs.Scripts.{IsTrimmed, IsRefusal, too_long, unknown, arity, number, AreReplies, none, blank, refused, answered}
use Rattle.sessions.specs.Desks.{IsShown, IsPartShown, IsLineTold, IsLinePart}
use Rattle.sessions.proofs.ScriptReplies.{appended_none}
use Rattle.sessions.proofs.OneReply.{said, unanswered, ok_is, err_is, told, untold}

pub blank_or_not : (c : Command) → (c ≡ command.Blank) ⊎ (c ≢ command.Blank)
blank_or_not command.Blank = inl refl
blank_or_not (command.Seed p) = inr (λ e. absurd (cc e))
blank_or_not (command.SeedLine name l) = inr (λ e. absurd (cc e))
blank_or_not command.Reset = inr (λ e. absurd (cc e))
blank_or_not command.Slice = inr (λ e. absurd (cc e))
blank_or_not command.Full = inr (λ e. absurd (cc e))
blank_or_not command.Lines = inr (λ e. absurd (cc e))
blank_or_not (command.Expand p) = inr (λ e. absurd (cc e))
blank_or_not command.ExpandAll = inr (λ e. absurd (cc e))
blank_or_not (command.Explain p q) = inr (λ e. absurd (cc e))

pub never_refused : (e : CommandError) → IsRefusal line.NoMemory e → ⊥
never_refused e h = elim h [ ]

pub memory_or_not : (e : LineError) → (e ≡ line.NoMemory) ⊎ (untold e ≢ untold line.NoMemory)
memory_or_not line.NoMemory = inl refl
memory_or_not line.TooLong = inr (λ e. absurd (cc e))
memory_or_not line.Unknown = inr (λ e. absurd (cc e))
memory_or_not line.Arity = inr (λ e. absurd (cc e))
memory_or_not line.BadNumber = inr (λ e. absurd (cc e))

pub not_untold : (c : Command) → told c ≢ untold line.NoMemory
not_untold c e = absurd (cc e)

module _ (f : Facts) (l t : List ℕ) (trimmed : IsTrimmed l t) (st : State) (old new : Option (List ℕ)) where
  one_text : (a : Answer) → flat_map (text f) (a ∷ []) ≡ text f a
  one_text a = append-nil (text f a)

  -- ---- whole
  pub told_blank : (st' : State) → Says t (told command.Blank) → st' ≡ st → new ≡ old → IsLineTold f l false st st' old new
  told_blank st' says same e = ([], subst (λ (z : State). AreReplies f st (l ∷ []) [] z) (sym same) (blank trimmed says none), refl, e ∙ appended_none old)

  pub told_shown : (c : Command) (st' : State) → Says t (told c) → IsShown f st c st' old new → IsLineTold f l true st st' old new
  told_shown c st' says h = (h.0 ∷ [], answered trimmed says h.1 none, refl, h.2 ∙ ap (λ (x : List ℕ). appended x old) (sym (one_text h.0)))

  pub told_refused : (e : LineError) (c : CommandError) → Says t (untold e) → IsRefusal e c → new ≡ appended (text f (Error c)) old → IsLineTold f l true st st old new
  told_refused e c says is h = (Error c ∷ [], refused trimmed says is none, refl, h ∙ ap (λ (x : List ℕ). appended x old) (sym (one_text (Error c))))

  -- ---- a part
  abbrev Part : List Answer → Type 0
  Part rs = (k : ℕ) × ((k ≡ 0) ⊎ (k < length (flat_map (text f) rs))) × (new ≡ appended (take k (flat_map (text f) rs)) old)

  part_of : (a : Answer) (rs : List Answer) → rs ≡ [] → IsPartShown f a old new → Part (a ∷ rs)
  part_of a rs nil h =
      subst (λ (qs : List Answer). Part (a ∷ qs)) (sym nil)
      (h.0, subst (λ (x : List ℕ). (h.0 ≡ 0) ⊎ (h.0 < length x)) (sym (one_text a)) h.1, h.2 ∙ ap (λ (x : List ℕ). appended (take h.0 x) old) (sym (one_text a)))

  no_more : (a b : State) (rs : List Answer) → AreReplies f a [] rs b → rs ≡ []
  no_more _ _ _ none = refl

  pub part_nothing : new ≡ old → IsLinePart f l st old new
  part_nothing e rs last h = (0, inl refl, e ∙ appended_none old)

  pub part_command : (c : Command) → Says t (told c) → c ≢ command.Blank → ((a : Answer) (st' : State) → Answers f st c a st' → IsPartShown f a old new) → IsLinePart f l st old new
  part_command c says some part _ last (blank {t = u} x y h) = absurd (some (ok_is c command.Blank (said l t u (told c) (told command.Blank) trimmed x says y)))
  part_command c says some part _ last (refused {t = u} {e} x y z h) = absurd (cc (said l t u (told c) (untold e) trimmed x says y))
  part_command c says some part _ last (answered {next} {t = u} {a} {rs} {c = d} x y z h) =
      let same : c ≡ d = ok_is c d (said l t u (told c) (told d) trimmed x says y) in
      part_of a rs (no_more next last rs h) (part a next (subst (λ (k : Command). Answers f st k a next) (sym same) z))

  pub part_refused : (e : LineError) → Says t (untold e) → ((c : CommandError) → IsRefusal e c → IsPartShown f (Error c) old new) → IsLinePart f l st old new
  part_refused e says part _ last (blank {t = u} x y h) = absurd (cc (said l t u (untold e) (told command.Blank) trimmed x says y))
  part_refused e says part _ last (refused {t = u} {rs} {e = d} {c} x y z h) =
      let same : e ≡ d = err_is e d (said l t u (untold e) (untold d) trimmed x says y) in
      part_of (Error c) rs (no_more st last rs h) (part c (subst (λ (k : LineError). IsRefusal k c) (sym same) z))
  part_refused e says part _ last (answered {t = u} {c} x y z h) = absurd (cc (said l t u (untold e) (told c) trimmed x says y))

-- ---- of the first bytes of a line
abbrev pub HasRead : List ℕ → Result Command LineError → Type 0
HasRead bytes r = r ≢ untold line.NoMemory → (l : List ℕ) → bytes ≡ take kept_bytes l → (t : List ℕ) × IsTrimmed l t × Says t r

module _ (f : Facts) (bytes : List ℕ) (st st' : State) (old new : Option (List ℕ)) where
  abbrev Told : Bool → Type 0
  Told b = (l : List ℕ) → bytes ≡ take kept_bytes l → IsLineTold f l b st st' old new

  pub command_told : (c : Command) (r : Result Bool SinkError) → HasRead bytes (told c) → (c ≡ command.Blank → (r ≡ Ok false) × (st' ≡ st) × (new ≡ old)) → (c ≢ command.Blank → IfOk r (λ b. (b ≡ true) × IsShown f st c st' old new))
      → IfOk r (λ b. (l : List ℕ) → bytes ≡ take kept_bytes l → IsLineTold f l b st st' old new)
  command_told c (Err e) read is_blank shown = tt
  command_told c (Ok b) read is_blank shown = λ l e.
      let t = read (not_untold c) l e in
      elim (blank_or_not c) [
        | inl nil ↦
            let h = is_blank nil in
            let says : Says t.0 (told command.Blank) = subst (λ (k : Command). Says t.0 (told k)) nil t.2 in
            let none : b ≡ false = cc h.0 in
            subst (λ (x : Bool). IsLineTold f l x st st' old new) (sym none) (told_blank f l t.0 t.1 st old new st' says h.1 h.2)
        | inr some ↦
            let h = shown some in
            subst (λ (x : Bool). IsLineTold f l x st st' old new) (sym h.0) (told_shown f l t.0 t.1 st old new c st' t.2 h.1)
      ]

  pub command_part : (c : Command) (r : Result Bool SinkError) → HasRead bytes (told c) → (c ≡ command.Blank → (r ≡ Ok false) × (st' ≡ st) × (new ≡ old)) → OnErr r ((a : Answer) (after : State) → Answers f st c a after → IsPartShown f a old new)
      → OnErr r ((l : List ℕ) → bytes ≡ take kept_bytes l → IsLinePart f l st old new)
  command_part c (Ok b) read is_blank part = tt
  command_part c (Err x) read is_blank part = λ l e. let t = read (not_untold c) l e in part_command f l t.0 t.1 st old new c t.2 (λ nil. absurd (cc (is_blank nil).0)) part

module _ (f : Facts) (bytes : List ℕ) (st : State) (old new : Option (List ℕ)) (x : LineError) where
  pub refusal_told : (r : Result Bool SinkError) → HasRead bytes (untold x) → (x ≡ line.NoMemory → new ≡ old) → IfOk r (λ b. (b ≡ true) × (e : CommandError) × IsRefusal x e × (new ≡ appended (text f (Error e)) old))
      → IfOk r (λ b. (l : List ℕ) → bytes ≡ take kept_bytes l → IsLineTold f l b st st old new)
  refusal_told (Err y) read same h = tt
  refusal_told (Ok b) read same h = λ l e. elim (memory_or_not x) [
    | inl nil ↦ absurd (never_refused h.1 (subst (λ (k : LineError). IsRefusal k h.1) nil h.2))
    | inr some ↦
        let t = read some l e in
        subst (λ (k : Bool). IsLineTold f l k st st old new) (sym h.0) (told_refused f l t.0 t.1 st old new x h.1 t.2 h.2 h.3)
  ]

  pub refusal_part : (r : Result Bool SinkError) → HasRead bytes (untold x) → (x ≡ line.NoMemory → new ≡ old) → OnErr r ((c : CommandError) → IsRefusal x c → IsPartShown f (Error c) old new)
      → OnErr r ((l : List ℕ) → bytes ≡ take kept_bytes l → IsLinePart f l st old new)
  refusal_part (Ok b) read same part = tt
  refusal_part (Err y) read same part = λ l e. elim (memory_or_not x) [
    | inl nil ↦ λ rs last h. (0, inl refl, same nil ∙ appended_none old)
    | inr some ↦ let t = read some l e in part_refused f l t.0 t.1 st old new x t.2 part
  ]

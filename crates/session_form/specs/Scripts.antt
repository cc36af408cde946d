-- What a script is replied: its lines, their replies, and the text of these.
use Rattle.std.specs.Prelude.{◌≡◌, ◌≢◌, ◌≤◌, ◌^◌, ◌++◌, Bool, true, false, ℕ, List, [], ◌∷◌, All, length, Ok, Err}
use Rattle.std.specs.List.{flat_map}
use Rattle.dep_form.specs.declared.facts.Facts.{Facts}
use Rattle.script.specs.Lines.{Says}
use Rattle.script.specs.declared.command.Command.{Command}
use Rattle.script.specs.declared.command.Command.TheVariants as command
use Rattle.script.specs.declared.command.LineError.{LineError}
use Rattle.script.specs.declared.command.LineError.TheVariants as line
use Rattle.report.specs.declared.reply.CommandError.{CommandError}
use Rattle.report.specs.declared.reply.CommandError.TheVariants.{ScriptTooLong, LineTooLong, UnknownCommand, WrongArity, BadNumber}
use Rattle.report.specs.Replies.{Answer, Error, text}
use Rattle.session_form.specs.States.{State, at_first}
use Rattle.session_form.specs.Answers.{Answers}

-- no byte ends a line
abbrev pub IsOneLine : List ℕ → Type 0
IsOneLine bytes = All (λ b. b ≢ 10) bytes

-- a line with its end
abbrev pub ended : List ℕ → List ℕ
ended l = l ++ (10 ∷ [])

-- whole lines, and what follows the last of them
pub record HasLines (bytes : List ℕ) (lines : List (List ℕ)) (rest : List ℕ) : Type 0 where
  pub spells : bytes ≡ flat_map ended lines ++ rest
  pub each : All IsOneLine lines
  pub last : IsOneLine rest

-- at most 2^28 bytes, and none after the 2^20th line
abbrev pub IsAllowed : List ℕ → Type 0
IsAllowed bytes =
    (length bytes ≤ 2 ^ 28)
    × ((lines : List (List ℕ)) (rest : List ℕ) → HasLines bytes lines rest → (length lines ≤ 2 ^ 20) × (length lines ≡ 2 ^ 20 → rest ≡ []))

-- the longest beginning that is allowed
pub record IsTaken (bytes taken after : List ℕ) : Type 0 where
  pub begins : bytes ≡ taken ++ after
  pub allowed : IsAllowed taken
  pub longest : (more left : List ℕ) → bytes ≡ more ++ left → IsAllowed more → length more ≤ length taken

-- the lines that are answered. Of a script that is cut off these are the whole ones; else what follows the last whole line is one
-- too, unless it is empty
pub data AreLines (bytes : List ℕ) : Bool → List (List ℕ) → Type 0 where
  of_all : {taken : List ℕ} {lines : List (List ℕ)} → IsTaken bytes taken [] → HasLines taken lines [] → AreLines bytes false lines
  of_rest : {taken : List ℕ} {lines : List (List ℕ)} {rest : List ℕ} → IsTaken bytes taken [] → HasLines taken lines rest → rest ≢ [] →
      AreLines bytes false (lines ++ (rest ∷ []))
  of_cut : {taken after : List ℕ} {lines : List (List ℕ)} {rest : List ℕ} → IsTaken bytes taken after → after ≢ [] → HasLines taken lines rest →
      AreLines bytes true lines

-- a line without a byte 13 at its end
pub data IsTrimmed : List ℕ → List ℕ → Type 0 where
  cut : (l : List ℕ) → IsTrimmed (l ++ (13 ∷ [])) l
  kept : (l : List ℕ) → ((k : List ℕ) → l ≡ k ++ (13 ∷ []) → ⊥) → IsTrimmed l l

-- why a line is refused
pub data IsRefusal : LineError → CommandError → Type 0 where
  too_long : IsRefusal line.TooLong LineTooLong
  unknown : IsRefusal line.Unknown UnknownCommand
  arity : IsRefusal line.Arity WrongArity
  number : IsRefusal line.BadNumber BadNumber

-- what follows the replies to a script's lines
abbrev pub closing : Bool → List Answer
closing false = []
closing true = Error ScriptTooLong ∷ []

module _ (f : Facts) where
  -- the replies to lines, from a state on, and the state after them; a blank line has none
  pub data AreReplies : State → List (List ℕ) → List Answer → State → Type 0 where
    none : {st : State} → AreReplies st [] [] st
    blank : {st last : State} {l t : List ℕ} {ls : List (List ℕ)} {rs : List Answer} → IsTrimmed l t → Says t (Ok command.Blank) →
        AreReplies st ls rs last → AreReplies st (l ∷ ls) rs last
    refused : {st last : State} {l t : List ℕ} {ls : List (List ℕ)} {rs : List Answer} {e : LineError} {c : CommandError} → IsTrimmed l t →
        Says t (Err e) → IsRefusal e c → AreReplies st ls rs last → AreReplies st (l ∷ ls) (Error c ∷ rs) last
    answered : {st next last : State} {l t : List ℕ} {ls : List (List ℕ)} {a : Answer} {rs : List Answer} {c : Command} → IsTrimmed l t →
        Says t (Ok c) → Answers f st c a next → AreReplies next ls rs last → AreReplies st (l ∷ ls) (a ∷ rs) last

  -- all replies to a script
  pub record AreScriptReplies (script : List ℕ) (answers : List Answer) : Type 0 where
    pub is_cut : Bool
    pub lines : List (List ℕ)
    pub replies : List Answer
    pub last : State
    pub are_lines : AreLines script is_cut lines
    pub are_replies : AreReplies at_first lines replies last
    pub all : answers ≡ replies ++ closing is_cut

  -- the text that is written for a script
  abbrev pub IsScriptText : List ℕ → List ℕ → Type 0
  IsScriptText script bytes = (answers : List Answer) × AreScriptReplies script answers × (bytes ≡ flat_map (text f) answers)

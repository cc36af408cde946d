-- What a session has of what the replies to its lines need, line by line.
use Rattle.std.proofs.Common.{◌≡◌, ◌⊎◌, ◌+◌, ◌∙◌, ◌++◌, Bool, true, false, ℕ, List, [], ◌∷◌, length, take, Contains, Option, Some, None, Result, Ok, Err, inl, inr, refl, sym, ap, subst, arith, length-append}
use Rattle.std.specs.Prelude.{MatchOption, IfOk, OnOk, OnErr}
use Rattle.slicer_ids.specs.declared.ids.Mode.TheVariants.{Thin, Full}
use Rattle.dep_form.specs.declared.facts.Facts.{Facts}
use Rattle.edge_io.specs.declared.sink.SinkError.{SinkError}
use Rattle.edge_io.specs.declared.sink.SinkError.TheVariants as refusal
use Rattle.graph_store.specs.declared.pass.GraphPass.{GraphPass}
use Rattle.graph_store.specs.Store.{Keeps}
use Rattle.script.specs.Lines.{Says}
use Rattle.script.specs.declared.command.Command.{Command}
use Rattle.script.specs.declared.command.Command.TheVariants as command
use Rattle.script.specs.declared.command.LineError.{LineError}
use Rattle.script_lines.specs.Limits.{kept_bytes}
use Rattle.script_lines.specs.declared.reader.ScriptReader.{ScriptReader}
use Rattle.script_lines.specs.declared.next.Next.TheVariants as next
use Rattle.script_lines.specs.Reading.{IsBetween, Comes, line_in}
use Rattle.summary_memo.specs.declared.view.View.{View}
use Rattle.summary_memo.specs.Memo.{view_of}
use Rattle.summary_memo.specs.Rule.{Knows}
use Rattle.report.specs.declared.reply.CommandError.{CommandError}
use Rattle.report.specs.Replies.{Answer}
use Rattle.session_form.specs.States.{State, at_first, SeedNodes}
use Rattle.session_form.specs.Scripts.{IsTrimmed, IsRefusal, AreLines, AreReplies}
use Rattle.session_slices.specs.Needs.{SliceOf, HasNeeded}
use Rattle.session_slices.proofs.Slicing.{needed_later}
use Rattle.sessions.specs.declared.desk.Outcome.{Outcome}
use Rattle.sessions.specs.declared.desk.Outcome.TheVariants.{Done, ReadFault, WriteFault, NoMemory}
use Rattle.sessions.specs.declared.session.Session.{Session}
use Rattle.sessions.specs.Needed.{HasForReply}
use Rattle.sessions.specs.Desks.{IsTaken, IsStopped, IsLastTaken, IsTooLongTold, IsReplied, HasEnded, HasReadAll, stopped_by}
use Rattle.sessions.specs.Serving.{HasForLine, HasForLines, HasForScript, HasServed, IsServed, EndsServed}
use Rattle.sessions.proofs.OneReply.{said, ok_is, told, untold, one_lines, one_reply}
use Rattle.sessions.proofs.LineReplies.{HasRead, not_untold, memory_or_not, never_refused}
use Rattle.sessions.proofs.ScriptReplies.{replied_line, after_line, after_last, after_end, after_too_long, fault_part, first_replied}

-- ---- lists
abbrev head : List ℕ → List (List ℕ) → List ℕ
head d [] = d
head d (x ∷ xs) = x

abbrev tail : List (List ℕ) → List (List ℕ)
tail [] = []
tail (x ∷ xs) = xs

-- a line of some lines and one more is the last, or stands among the others
last_or_before : (lines before after : List (List ℕ)) (l k : List ℕ) → lines ++ (l ∷ []) ≡ before ++ (k ∷ after) → ((lines ≡ before) × (l ≡ k)) ⊎ ((more : List (List ℕ)) × (lines ≡ before ++ (k ∷ more)))
last_or_before [] [] after l k e = inl (refl, ap (head l) e)
last_or_before [] (b ∷ bs) after l k e = absurd (omega (arith, ap length e, length-append bs (k ∷ after)))
last_or_before (x ∷ xs) [] after l k e = inr (xs, ap (λ z. z ∷ xs) (ap (head l) e))
last_or_before (x ∷ xs) (b ∷ bs) after l k e = elim (last_or_before xs bs after l k (ap tail e)) [
  | inl h ↦ inl (ap (λ z. z ∷ xs) (ap (head l) e) ∙ ap (λ z. b ∷ z) h.0, h.1)
  | inr h ↦ inr (h.0, ap (λ z. z ∷ xs) (ap (head l) e) ∙ ap (λ z. b ∷ z) h.1)
]

none_among : (before after : List (List ℕ)) (l : List ℕ) → [] ≡ before ++ (l ∷ after) → ⊥
none_among before after l e = omega (arith, ap length e, length-append before (l ∷ after))

-- what stops a session is no end
pub never_done : (o : Outcome) (e : SinkError) (n m : ℕ) → o ≡ stopped_by e n → o ≡ Done m → ⊥
never_done o refusal.NoMemory n m s d = absurd (cc (sym s ∙ d))
never_done o refusal.Fault n m s d = absurd (cc (sym s ∙ d))

pub not_read : (script : List ℕ) (left : Option (List ℕ)) (e : SinkError) (n : ℕ) → HasReadAll script left (stopped_by e n)
not_read script left refusal.NoMemory n = tt
not_read script left refusal.Fault n = tt

module _ (f : Facts) where
  -- ---- what is had stays
  pub reply_later : (st : State) (c : Command) (p q : GraphPass) (v w : View) → Keeps p q → Knows v w → HasForReply f st c p v → HasForReply f st c q w
  reply_later st command.Blank p q v w keeps knows h = tt
  reply_later st (command.Seed x) p q v w keeps knows h = tt
  reply_later st (command.SeedLine name line) p q v w keeps knows h = tt
  reply_later st command.Reset p q v w keeps knows h = tt
  reply_later st command.Slice p q v w keeps knows h = λ some none. needed_later f Thin (SliceOf f Thin (SeedNodes f st)) p q v w keeps knows (h some none)
  reply_later st command.Full p q v w keeps knows h = λ some. needed_later f Full (SliceOf f Full (SeedNodes f st)) p q v w keeps knows (h some)
  reply_later st command.Lines p q v w keeps knows h = λ some none. needed_later f Thin (SliceOf f Thin (SeedNodes f st)) p q v w keeps knows (h some none)
  reply_later st (command.Expand x) p q v w keeps knows h = tt
  reply_later st command.ExpandAll p q v w keeps knows h = tt
  reply_later st (command.Explain x y) p q v w keeps knows h = λ s t a b n m.
      let both = h s t a b n m in (
        needed_later f Thin (SliceOf f Thin (Contains a.object)) p q v w keeps knows both.0,
        needed_later f Thin (SliceOf f Thin (Contains b.object)) p q v w keeps knows both.1,
      )

  pub lines_later : (lines : List (List ℕ)) (p q : GraphPass) (v w : View) → Keeps p q → Knows v w → HasForLines f lines p v → HasForLines f lines q w
  lines_later lines p q v w keeps knows h before after l rs st e is t c trimmed says = reply_later st c p q v w keeps knows (h before after l rs st e is t c trimmed says)

  -- ---- one line more
  pub lines_more : (lines : List (List ℕ)) (l : List ℕ) (rs : List Answer) (st : State) (p : GraphPass) (v : View) → AreReplies f at_first lines rs st → HasForLines f lines p v → HasForLine f l st p v → HasForLines f (lines ++ (l ∷ [])) p v
  lines_more lines l rs st p v are h more before after k qs next e is t c trimmed says = elim (last_or_before lines before after l k e) [
    | inl same ↦
        let one = one_reply f at_first lines rs qs st next are (subst (λ (ls : List (List ℕ)). AreReplies f at_first ls qs next) (sym same.0) is) in
        subst (λ (z : State). HasForReply f z c p v) one.1 (more t c (subst (λ (x : List ℕ). IsTrimmed x t) (sym same.1) trimmed) says)
    | inr among ↦ h before among.0 k qs next among.1 is t c trimmed says
  ]

  pub no_lines : (lines : List (List ℕ)) (p : GraphPass) (v : View) → lines ≡ [] → HasForLines f lines p v
  no_lines lines p v nil before after l rs st e is t c trimmed says = absurd (none_among before after l (sym nil ∙ e))

  -- a script has one list of lines
  pub by_lines : (script : List ℕ) (b : Bool) (ls : List (List ℕ)) (p : GraphPass) (v : View) → AreLines script b ls → HasForLines f ls p v → HasForScript f script p v
  by_lines script b ls p v are h is_cut lines other =
      subst (λ (ks : List (List ℕ)). HasForLines f ks p v) (one_lines script b is_cut ls lines are other).1 h

  pub not_done : (script : List ℕ) (p : GraphPass) (v : View) (e : SinkError) (n : ℕ) → HasServed f script p v (stopped_by e n)
  not_done script p v refusal.NoMemory n = tt
  not_done script p v refusal.Fault n = tt

  -- ---- of the first bytes of a line
  pub command_has : (bytes : List ℕ) (st : State) (p : GraphPass) (v : View) (c : Command) (r : Result Bool SinkError) → HasRead bytes (told c) → OnOk r (HasForReply f st c p v)
      → OnOk r ((l : List ℕ) → bytes ≡ take kept_bytes l → HasForLine f l st p v)
  command_has bytes st p v c (Err e) read h = tt
  command_has bytes st p v c (Ok b) read h = λ l e t d trimmed says.
      let one = read (not_untold c) l e in
      subst (λ (k : Command). HasForReply f st k p v) (ok_is c d (said l one.0 t (told c) (told d) one.1 trimmed one.2 says)) h

  pub refusal_has : (bytes : List ℕ) (st : State) (p : GraphPass) (v : View) (x : LineError) (r : Result Bool SinkError) (R : CommandError → Type 0) → HasRead bytes (untold x) → IfOk r (λ b. (b ≡ true) × (e : CommandError) × IsRefusal x e × R e)
      → OnOk r ((l : List ℕ) → bytes ≡ take kept_bytes l → HasForLine f l st p v)
  refusal_has bytes st p v x (Err y) R read h = tt
  refusal_has bytes st p v x (Ok b) R read h = λ l e t d trimmed says. elim (memory_or_not x) [
    | inl nil ↦ absurd (never_refused h.1 (subst (λ (k : LineError). IsRefusal k h.1) nil h.2))
    | inr some ↦ let one = read some l e in absurd (cc (said l one.0 t (untold x) (told d) one.1 trimmed one.2 says))
  ]

module _ (f : Facts) (script : List ℕ) (start : Option (List ℕ)) (r : ScriptReader) (left : Option (List ℕ)) (s : Session) (old : Option (List ℕ)) (n : ℕ) (h : IsServed f script start r left s old n) where
  -- ---- what comes of a turn
  pub serves_line : (r' : ScriptReader) (left' : Option (List ℕ)) (bytes : List ℕ) (s' : Session) (new : Option (List ℕ)) (m faults faults' : ℕ) (o : Option Outcome) → Comes script h.replied.lines r' left' next.Line → bytes ≡ line_in r'
      → Keeps s.pass s'.pass → Knows (view_of s.seat) (view_of s'.seat) → (o ≡ None → (l : List ℕ) → bytes ≡ take kept_bytes l → HasForLine f l s.state s'.pass (view_of s'.seat))
      → MatchOption o (IsTaken f bytes s.state s'.state old new n m) (IsStopped f bytes s.state old new faults faults' n) → MatchOption o (IsServed f script start r' left' s' new m) (EndsServed f script start left' s' new)
  serves_line r' left' bytes s' new m faults faults' None comes e keeps knows has t = record {
    replied = replied_line f script start r left s.state old n h.replied r' left' s'.state new m comes.0 t.0 comes.3 (t.2 comes.0 (e ∙ comes.2)) t.1;
    served = lines_more f h.replied.lines comes.0 h.replied.answers s.state s'.pass (view_of s'.seat) h.replied.replies (lines_later f h.replied.lines s.pass s'.pass (view_of s.seat) (view_of s'.seat) keeps knows h.served) (has refl comes.0 (e ∙ comes.2));
  }
  serves_line r' left' bytes s' new m faults faults' (Some o) comes e keeps knows has t = record {
    ended = after_line f script start r left s.state old n h.replied r' left' bytes s'.state new m faults faults' (Some o) comes e t;
    read = subst (HasReadAll script left') (sym t.1) (not_read script left' t.0 n);
    served = subst (HasServed f script s'.pass (view_of s'.seat)) (sym t.1) (not_done f script s'.pass (view_of s'.seat) t.0 n);
  }

  pub serves_last : (r' : ScriptReader) (left' : Option (List ℕ)) (bytes : List ℕ) (s' : Session) (new : Option (List ℕ)) (faults faults' : ℕ) (o : Outcome) → Comes script h.replied.lines r' left' next.Last → bytes ≡ line_in r'
      → Keeps s.pass s'.pass → Knows (view_of s.seat) (view_of s'.seat) → ((m : ℕ) → o ≡ Done m → (l : List ℕ) → bytes ≡ take kept_bytes l → HasForLine f l s.state s'.pass (view_of s'.seat))
      → IsLastTaken f bytes s.state old new faults faults' n o → EndsServed f script start left' s' new o
  serves_last r' left' bytes s' new faults faults' o comes e keeps knows has t = record {
    ended = after_last f script start r left s.state old n h.replied r' left' bytes new faults faults' o comes e t;
    read = read_by t;
    served = by_kind t;
  }
    where
      read_by : IsLastTaken f bytes s.state old new faults faults' n o → HasReadAll script left' o
      read_by (inl k) = subst (HasReadAll script left') (sym k.2) (inl comes.4)
      read_by (inr k) = subst (HasReadAll script left') (sym k.1) (not_read script left' k.0 n)

      by_kind : IsLastTaken f bytes s.state old new faults faults' n o → HasServed f script s'.pass (view_of s'.seat) o
      by_kind (inl k) =
          let more = lines_more f h.replied.lines comes.0 h.replied.answers s.state s'.pass (view_of s'.seat) h.replied.replies (lines_later f h.replied.lines s.pass s'.pass (view_of s.seat) (view_of s'.seat) keeps knows h.served) (has k.0 k.2 comes.0 (e ∙ comes.2)) in
          subst (HasServed f script s'.pass (view_of s'.seat)) (sym k.2) (by_lines f script false (h.replied.lines ++ (comes.0 ∷ [])) s'.pass (view_of s'.seat) comes.3 more)
      by_kind (inr k) = subst (HasServed f script s'.pass (view_of s'.seat)) (sym k.1) (not_done f script s'.pass (view_of s'.seat) k.0 n)

  pub serves_too_long : (r' : ScriptReader) (left' : Option (List ℕ)) (new : Option (List ℕ)) (faults faults' : ℕ) (o : Outcome) → Comes script h.replied.lines r' left' next.TooLong → IsTooLongTold f old new faults faults' n o → EndsServed f script start left' s new o
  serves_too_long r' left' new faults faults' o comes t = record {
    ended = after_too_long f script start r left s.state old n h.replied r' left' new faults faults' o comes t;
    read = read_by t;
    served = by_kind t;
  }
    where
      read_by : IsTooLongTold f old new faults faults' n o → HasReadAll script left' o
      read_by (inl k) = subst (HasReadAll script left') (sym k.0) (inr (h.replied.lines, comes))
      read_by (inr k) = subst (HasReadAll script left') (sym k.1) (not_read script left' k.0 n)

      by_kind : IsTooLongTold f old new faults faults' n o → HasServed f script s.pass (view_of s.seat) o
      by_kind (inl k) = subst (HasServed f script s.pass (view_of s.seat)) (sym k.0) (by_lines f script true h.replied.lines s.pass (view_of s.seat) comes h.served)
      by_kind (inr k) = subst (HasServed f script s.pass (view_of s.seat)) (sym k.1) (not_done f script s.pass (view_of s.seat) k.0 n)

  pub serves_end : (r' : ScriptReader) (left' : Option (List ℕ)) → Comes script h.replied.lines r' left' next.End → EndsServed f script start left' s old (Done n)
  serves_end r' left' comes = record {
    ended = after_end f script start r left s.state old n h.replied r' left' comes;
    read = inl comes.1;
    served = by_lines f script false h.replied.lines s.pass (view_of s.seat) comes.0 h.served;
  }

  pub serves_fault : (left' : Option (List ℕ)) → EndsServed f script start left' s old (ReadFault n)
  serves_fault left' = record { ended = fault_part f script start r left s.state old n h.replied; read = tt; served = tt }

-- ---- before the first turn
pub first_served : (f : Facts) (script : List ℕ) (r : ScriptReader) (left : Option (List ℕ)) (s : Session) (written : Option (List ℕ)) → s.state ≡ at_first → left ≡ Some script → ((t : List ℕ) → IsBetween t [] r (Some t)) → IsServed f script written r left s written 0
first_served f script r left s written e told fresh = record {
  replied = first_replied f script r left s.state written e told fresh;
  served = no_lines f [] s.pass (view_of s.seat) refl;
}

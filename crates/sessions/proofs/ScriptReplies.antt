-- Replies to lines, one after another, and how much of them was written.
use Rattle.std.proofs.Common.{◌≡◌, ◌⊎◌, ◌≤◌, ◌<◌, ◌+◌, ◌∙◌, ◌++◌, Bool, true, false, ℕ, zero, suc, List, [], ◌∷◌, length, take, drop, Option, Some, None, inl, inr, refl, sym, ap, subst, arith, append_assoc, length-append}
use Rattle.std.specs.Prelude.{◌-◌, ◌^◌, min, IfSome, MatchOption, if◌then◌else◌}
use Rattle.std.specs.List.{flat_map}
use Rattle.std.proofs.lemmas.List.{append-nil, take-append-le}
use Rattle.std.proofs.lemmas.List.Concat.{flat_map-append}
use Rattle.std.proofs.Math.Seq.{take-append_seam, drop-append_seam}
use Rattle.dep_form.specs.declared.facts.Facts.{Facts}
use Rattle.edge_io.specs.Reads.{appended}
use Rattle.edge_io.specs.Faults.{Rose}
use Rattle.edge_io.specs.declared.sink.SinkError.{SinkError}
use Rattle.edge_io.specs.declared.sink.SinkError.TheVariants as refusal
use Rattle.script_lines.specs.declared.reader.ScriptReader.{ScriptReader}
use Rattle.script_lines.specs.declared.next.Next.TheVariants as next
use Rattle.script_lines.specs.Reading.{IsBetween, Comes, line_in}
use Rattle.script_lines.proofs.Beginning.{first_lines}
use Rattle.report.specs.declared.reply.CommandError.TheVariants.{ScriptTooLong}
use Rattle.report.specs.Replies.{Answer, Error, text}
use Rattle.session_form.specs.States.{State, at_first}
use Rattle.session_form.specs.Scripts.{AreLines, AreReplies, none, blank, refused, answered, closing, AreScriptReplies}
use Rattle.sessions.specs.declared.desk.Outcome.{Outcome}
use Rattle.sessions.specs.declared.desk.Outcome.TheVariants.{Done, ReadFault, WriteFault, NoMemory}
use Rattle.sessions.specs.Desks.{HasWritten, IsPartShown, IsLineTold, IsLinePart, IsTaken, IsStopped, IsLastTaken, IsTooLongTold, IsReplied, IsDone, IsPart, HasEnded, HasCause, IsNoFault, IsSinkLater, stopped_by}
use Rattle.sessions.proofs.OneReply.{one_lines, one_reply}

-- ---- what is appended, one after another
pub appended_on : (s t : List ℕ) (o : Option (List ℕ)) → appended t (appended s o) ≡ appended (s ++ t) o
appended_on s t None = refl
appended_on s t (Some b) = ap (λ x. Some x) (append_assoc b s t)

pub appended_none : (o : Option (List ℕ)) → o ≡ appended [] o
appended_none None = refl
appended_none (Some b) = ap (λ x. Some x) (sym (append-nil b))

-- a text after others
pub after_others : (start old new : Option (List ℕ)) (s t : List ℕ) → old ≡ appended s start → new ≡ appended t old → new ≡ appended (s ++ t) start
after_others start old new s t e h = h ∙ ap (appended t) e ∙ appended_on s t start

module _ (f : Facts) where
  -- ---- replies to lines, and to further lines
  pub replies_on : (a b c : State) (ls ks : List (List ℕ)) (rs qs : List Answer) → AreReplies f a ls rs b → AreReplies f b ks qs c → AreReplies f a (ls ++ ks) (rs ++ qs) c
  replies_on _ _ c _ ks _ qs none g = g
  replies_on a b c _ ks _ qs (blank {ls} {rs} t s h) g = blank t s (replies_on a b c ls ks rs qs h g)
  replies_on a b c _ ks _ qs (refused {ls} {rs} t s z h) g = refused t s z (replies_on a b c ls ks rs qs h g)
  replies_on a b c _ ks _ qs (answered {next} {ls} {rs} t s z h) g = answered t s z (replies_on next b c ls ks rs qs h g)

  abbrev Split : State → State → List (List ℕ) → List (List ℕ) → List Answer → Type 0
  Split a c ls ks rs = (b : State) × (p : List Answer) × (q : List Answer) × AreReplies f a ls p b × AreReplies f b ks q c × (rs ≡ p ++ q)

  pub replies_split : (a c : State) (ls ks : List (List ℕ)) (rs : List Answer) → AreReplies f a (ls ++ ks) rs c → Split a c ls ks rs
  replies_split a c [] ks rs h = (a, [], rs, none, h, refl)
  replies_split a c (l ∷ ls) ks _ (blank {rs} t s h) = let r = replies_split a c ls ks rs h in (r.0, r.1, r.2, blank t s r.3, r.4, r.5)
  replies_split a c (l ∷ ls) ks _ (refused {rs} {c = k} t s z h) = let r = replies_split a c ls ks rs h in (r.0, Error k ∷ r.1, r.2, refused t s z r.3, r.4, ap (λ x. Error k ∷ x) r.5)
  replies_split a c (l ∷ ls) ks _ (answered {next} {a = v} {rs} t s z h) = let r = replies_split next c ls ks rs h in (r.0, v ∷ r.1, r.2, answered t s z r.3, r.4, ap (λ x. v ∷ x) r.5)

  -- no line has no replies, and one has one at most
  no_replies : (a b : State) (rs : List Answer) → AreReplies f a [] rs b → rs ≡ []
  no_replies _ _ _ none = refl

  pub one_or_none : (a b : State) (l : List ℕ) (rs : List Answer) → AreReplies f a (l ∷ []) rs b → (rs ≡ []) ⊎ ((v : Answer) × (rs ≡ v ∷ []))
  one_or_none a b l _ (blank {rs} t s h) = inl (no_replies a b rs h)
  one_or_none a b l _ (refused {rs} {c = k} t s z h) = inr (Error k, ap (λ x. Error k ∷ x) (no_replies a b rs h))
  one_or_none a b l _ (answered {next} {a = v} {rs} t s z h) = inr (v, ap (λ x. v ∷ x) (no_replies next b rs h))

  -- ---- whole replies, and a part of the next
  pub written_part : (done q rest : List Answer) (k : ℕ) → (q ≡ []) ⊎ ((v : Answer) × (q ≡ v ∷ [])) → (k ≡ 0) ⊎ (k < length (flat_map (text f) q))
      → HasWritten f (done ++ (q ++ rest)) (length done) (flat_map (text f) done ++ take k (flat_map (text f) q))
  written_part done q rest k kind less = record {
    whole = omega (arith, length-append done (q ++ rest));
    more = k;
    less = subst (λ (x : List Answer). (k ≡ 0) ⊎ (k < length (flat_map (text f) (take 1 x)))) (sym (drop-append_seam done (q ++ rest))) (next_is q kind less);
    spells =
        ap (λ (x : List Answer). flat_map (text f) x ++ take k (flat_map (text f) q)) (sym (take-append_seam done (q ++ rest)))
        ∙ ap (λ (x : List ℕ). flat_map (text f) (take (length done) (done ++ (q ++ rest))) ++ x) (same q kind less ∙ ap (λ (x : List Answer). take k (flat_map (text f) x)) (sym (drop-append_seam done (q ++ rest))));
  }
    where
      next_is : (p : List Answer) → (p ≡ []) ⊎ ((v : Answer) × (p ≡ v ∷ [])) → (k ≡ 0) ⊎ (k < length (flat_map (text f) p)) → (k ≡ 0) ⊎ (k < length (flat_map (text f) (take 1 (p ++ rest))))
      next_is p kind' (inl e) = inl e
      next_is p (inl e) (inr lt) = absurd (omega (arith, lt, ap (λ (x : List Answer). length (flat_map (text f) x)) e))
      next_is p (inr v) (inr lt) = inr (subst (λ (x : List Answer). k < length (flat_map (text f) (take 1 (x ++ rest)))) (sym v.1) (subst (λ (x : List Answer). k < length (flat_map (text f) x)) v.1 lt))

      none_taken : (x y : List ℕ) → k ≡ 0 → take k x ≡ take k y
      none_taken x y e = subst (λ (j : ℕ). take j x ≡ take j y) (sym e) refl

      same : (p : List Answer) → (p ≡ []) ⊎ ((v : Answer) × (p ≡ v ∷ [])) → (k ≡ 0) ⊎ (k < length (flat_map (text f) p)) → take k (flat_map (text f) p) ≡ take k (flat_map (text f) (p ++ rest))
      same p kind' (inl e) = none_taken (flat_map (text f) p) (flat_map (text f) (p ++ rest)) e
      same p kind' (inr lt) = sym (ap (take k) (flat_map-append (text f) p rest) ∙ take-append-le k (flat_map (text f) p) (flat_map (text f) rest) (omega (arith, lt)))

  module _ (script : List ℕ) (start : Option (List ℕ)) (r : ScriptReader) (left : Option (List ℕ)) (st : State) (old : Option (List ℕ)) (n : ℕ) (h : IsReplied f script start r left st old n) where
    -- ---- a line more
    abbrev pub replied_line : (r' : ScriptReader) (left' : Option (List ℕ)) (st' : State) (new : Option (List ℕ)) (m : ℕ) (l : List ℕ) (b : Bool) → IsBetween script (h.lines ++ (l ∷ [])) r' left' → IsLineTold f l b st st' old new
        → m ≡ n + (if b then 1 else 0) → IsReplied f script start r' left' st' new m
    replied_line r' left' st' new m l b between t e = record {
      lines = h.lines ++ (l ∷ []);
      answers = h.answers ++ t.0;
      between = between;
      replies = replies_on at_first st st' h.lines (l ∷ []) h.answers t.0 h.replies t.1;
      count = omega (arith, length-append h.answers t.0, h.count, t.2, e);
      spells = after_others start old new (flat_map (text f) h.answers) (flat_map (text f) t.0) h.spells t.3 ∙ ap (λ (x : List ℕ). appended x start) (sym (flat_map-append (text f) h.answers t.0));
    }

    -- the replies to a script that has these lines first
    module _ (answers : List Answer) (a : AreScriptReplies f script answers) where
      abbrev rest_of : (more : List (List ℕ)) → a.lines ≡ h.lines ++ more → Split at_first a.last h.lines more a.replies
      rest_of more e = replies_split at_first a.last h.lines more a.replies (subst (λ (ls : List (List ℕ)). AreReplies f at_first ls a.replies a.last) e a.are_replies)

      -- after those to the lines that were taken come further ones
      pub further : (more : List (List ℕ)) → a.lines ≡ h.lines ++ more → (q : List Answer) × AreReplies f st more q a.last × (answers ≡ h.answers ++ (q ++ closing a.is_cut))
      further more e =
          let s = rest_of more e in
          let one = one_reply f at_first h.lines h.answers s.1 st s.0 h.replies s.3 in (
            s.2,
            subst (λ (z : State). AreReplies f z more s.2 a.last) (sym one.1) s.4,
            a.all ∙ ap (λ (x : List Answer). x ++ closing a.is_cut) (s.5 ∙ ap (λ (x : List Answer). x ++ s.2) (sym one.0)) ∙ append_assoc h.answers s.2 (closing a.is_cut),
          )

      -- nothing of a further reply was written
      pub part_none : (more : List (List ℕ)) → a.lines ≡ h.lines ++ more → (bytes : List ℕ) × HasWritten f answers n bytes × (old ≡ appended bytes start)
      part_none more e =
          let q = further more e in
          let w = written_part h.answers [] (q.0 ++ closing a.is_cut) 0 (inl refl) (inl refl) in (
            flat_map (text f) h.answers ++ [],
            subst (λ (i : ℕ). HasWritten f answers i (flat_map (text f) h.answers ++ [])) h.count (subst (λ (x : List Answer). HasWritten f x (length h.answers) (flat_map (text f) h.answers ++ [])) (sym q.2) w),
            h.spells ∙ ap (λ (x : List ℕ). appended x start) (sym (append-nil (flat_map (text f) h.answers))),
          )

      -- .. or a part of the reply to the next line
      pub part_line : (l : List ℕ) (more : List (List ℕ)) (new : Option (List ℕ)) → a.lines ≡ h.lines ++ (l ∷ more) → IsLinePart f l st old new → (bytes : List ℕ) × HasWritten f answers n bytes × (new ≡ appended bytes start)
      part_line l more new e part =
          let q = further (l ∷ more) e in
          let s = replies_split st a.last (l ∷ []) more q.0 q.1 in
          let k = part s.1 s.0 s.3 in
          let w = written_part h.answers s.1 (s.2 ++ closing a.is_cut) k.0 (one_or_none st s.0 l s.1 s.3) k.1 in
          let all : answers ≡ h.answers ++ (s.1 ++ (s.2 ++ closing a.is_cut)) = q.2 ∙ ap (λ (x : List Answer). h.answers ++ (x ++ closing a.is_cut)) s.5 ∙ ap (λ (x : List Answer). h.answers ++ x) (append_assoc s.1 s.2 (closing a.is_cut)) in
          let bytes : List ℕ = flat_map (text f) h.answers ++ take k.0 (flat_map (text f) s.1) in (
            bytes,
            subst (λ (i : ℕ). HasWritten f answers i bytes) h.count (subst (λ (x : List Answer). HasWritten f x (length h.answers) bytes) (sym all) w),
            after_others start old new (flat_map (text f) h.answers) (take k.0 (flat_map (text f) s.1)) h.spells k.2,
          )

      -- .. or of the reply that the script is too long
      pub part_closing : (new : Option (List ℕ)) → a.lines ≡ h.lines → a.is_cut ≡ true → IsPartShown f (Error ScriptTooLong) old new → (bytes : List ℕ) × HasWritten f answers n bytes × (new ≡ appended bytes start)
      part_closing new e cut part =
          let q = further [] (e ∙ sym (append-nil h.lines)) in
          let nil : q.0 ≡ [] = no_replies st a.last q.0 q.1 in
          let end : List Answer = Error ScriptTooLong ∷ [] in
          let all : answers ≡ h.answers ++ (end ++ []) = q.2 ∙ ap (λ (x : List Answer). h.answers ++ (x ++ closing a.is_cut)) nil ∙ ap (λ (b : Bool). h.answers ++ closing b) cut in
          let same : flat_map (text f) end ≡ text f (Error ScriptTooLong) = append-nil (text f (Error ScriptTooLong)) in
          let w = written_part h.answers end [] part.0 (inr (Error ScriptTooLong, refl)) (subst (λ (x : List ℕ). (part.0 ≡ 0) ⊎ (part.0 < length x)) (sym same) part.1) in
          let bytes : List ℕ = flat_map (text f) h.answers ++ take part.0 (flat_map (text f) end) in (
            bytes,
            subst (λ (i : ℕ). HasWritten f answers i bytes) h.count (subst (λ (x : List Answer). HasWritten f x (length h.answers) bytes) (sym all) w),
            after_others start old new (flat_map (text f) h.answers) (take part.0 (flat_map (text f) end)) h.spells (part.2 ∙ ap (λ (x : List ℕ). appended (take part.0 x) old) (sym same)),
          )

    -- ---- the ends
    pub fault_part : IsPart f script start old n
    fault_part answers a =
        let m = first_lines script h.lines a.lines r left a.is_cut h.between a.are_lines in
        part_none answers a m.0 m.1

    pub line_part : (r' : ScriptReader) (left' : Option (List ℕ)) (l : List ℕ) (new : Option (List ℕ)) → IsBetween script (h.lines ++ (l ∷ [])) r' left' → IsLinePart f l st old new → IsPart f script start new n
    line_part r' left' l new between part answers a =
        let m = first_lines script (h.lines ++ (l ∷ [])) a.lines r' left' a.is_cut between a.are_lines in
        part_line answers a l m.0 new (m.1 ∙ append_assoc h.lines (l ∷ []) m.0) part

    pub last_part : (l : List ℕ) (new : Option (List ℕ)) → AreLines script false (h.lines ++ (l ∷ [])) → IsLinePart f l st old new → IsPart f script start new n
    last_part l new are part answers a =
        let one = one_lines script a.is_cut false a.lines (h.lines ++ (l ∷ [])) a.are_lines are in
        part_line answers a l [] new one.1 part

    pub long_part : (new : Option (List ℕ)) → AreLines script true h.lines → IsPartShown f (Error ScriptTooLong) old new → IsPart f script start new n
    long_part new are part answers a =
        let one = one_lines script a.is_cut true a.lines h.lines a.are_lines are in
        part_closing answers a new one.1 one.0 part

    pub end_done : AreLines script false h.lines → IsDone f script start old n
    end_done are = (h.answers, record { is_cut = false; lines = h.lines; replies = h.answers; last = st; are_lines = are; are_replies = h.replies; all = sym (append-nil h.answers) }, h.count, h.spells)

    pub last_done : (l : List ℕ) (b : Bool) (st' : State) (new : Option (List ℕ)) (m : ℕ) → AreLines script false (h.lines ++ (l ∷ [])) → IsLineTold f l b st st' old new → m ≡ n + (if b then 1 else 0) → IsDone f script start new m
    last_done l b st' new m are t e = (
      h.answers ++ t.0,
      record {
        is_cut = false;
        lines = h.lines ++ (l ∷ []);
        replies = h.answers ++ t.0;
        last = st';
        are_lines = are;
        are_replies = replies_on at_first st st' h.lines (l ∷ []) h.answers t.0 h.replies t.1;
        all = sym (append-nil (h.answers ++ t.0));
      },
      omega (arith, length-append h.answers t.0, h.count, t.2, e),
      after_others start old new (flat_map (text f) h.answers) (flat_map (text f) t.0) h.spells t.3 ∙ ap (λ (x : List ℕ). appended x start) (sym (flat_map-append (text f) h.answers t.0)),
    )

    pub long_done : (new : Option (List ℕ)) → AreLines script true h.lines → new ≡ appended (text f (Error ScriptTooLong)) old → IsDone f script start new (n + 1)
    long_done new are e =
        let end : List Answer = Error ScriptTooLong ∷ [] in
        let same : flat_map (text f) end ≡ text f (Error ScriptTooLong) = append-nil (text f (Error ScriptTooLong)) in (
          h.answers ++ end,
          record { is_cut = true; lines = h.lines; replies = h.answers; last = st; are_lines = are; are_replies = h.replies; all = refl },
          omega (arith, length-append h.answers end, h.count),
          after_others start old new (flat_map (text f) h.answers) (flat_map (text f) end) h.spells (e ∙ ap (λ (x : List ℕ). appended x old) (sym same))
              ∙ ap (λ (x : List ℕ). appended x start) (sym (flat_map-append (text f) h.answers end)),
        )

-- ---- how a session ends
rose_later : (a b c : ℕ) → a ≤ b → Rose b c → Rose a c
rose_later a b c le h = omega (arith, le, h)

not_risen : (a c : ℕ) → c ≡ a → a < 2 ^ 64 - 1 → Rose a c → ⊥
not_risen a c e lt h = omega (arith, e, lt, h)

pub ended_by : (f : Facts) (script : List ℕ) (start new : Option (List ℕ)) (n : ℕ) (e : SinkError) → IsPart f script start new n → HasEnded f script start new (stopped_by e n)
ended_by f script start new n refusal.NoMemory h = h
ended_by f script start new n refusal.Fault h = h

pub cause_of : (e : SinkError) (n source source' sink sink' : ℕ) → (e ≡ refusal.Fault → Rose sink sink') → HasCause (stopped_by e n) source source' sink sink'
cause_of refusal.NoMemory n source source' sink sink' h = tt
cause_of refusal.Fault n source source' sink sink' h = h refl

-- .. of a line, of the last one, and of what tells that the script is too long
pub cause_line : (f : Facts) (bytes : List ℕ) (st st' : State) (old new : Option (List ℕ)) (n m source source' sink sink' : ℕ) (o : Option Outcome) → MatchOption o (IsTaken f bytes st st' old new n m) (IsStopped f bytes st old new sink sink' n)
    → IfSome o (λ x. HasCause x source source' sink sink')
cause_line f bytes st st' old new n m source source' sink sink' None t = tt
cause_line f bytes st st' old new n m source source' sink sink' (Some o) t = subst (λ (x : Outcome). HasCause x source source' sink sink') (sym t.1) (cause_of t.0 n source source' sink sink' t.2)

pub cause_last : (f : Facts) (bytes : List ℕ) (st : State) (old new : Option (List ℕ)) (n source source' sink sink' : ℕ) (o : Outcome) → IsLastTaken f bytes st old new sink sink' n o → HasCause o source source' sink sink'
cause_last f bytes st old new n source source' sink sink' o (inl t) = subst (λ (x : Outcome). HasCause x source source' sink sink') (sym t.2) tt
cause_last f bytes st old new n source source' sink sink' o (inr t) = subst (λ (x : Outcome). HasCause x source source' sink sink') (sym t.1) (cause_of t.0 n source source' sink sink' t.2)

pub cause_long : (f : Facts) (old new : Option (List ℕ)) (n source source' sink sink' : ℕ) (o : Outcome) → IsTooLongTold f old new sink sink' n o → HasCause o source source' sink sink'
cause_long f old new n source source' sink sink' o (inl t) = subst (λ (x : Outcome). HasCause x source source' sink sink') (sym t.0) tt
cause_long f old new n source source' sink sink' o (inr t) = subst (λ (x : Outcome). HasCause x source source' sink sink') (sym t.1) (cause_of t.0 n source source' sink sink' t.2)

-- the causes over some turns
pub cause_later : (o : Outcome) (a b c x y z : ℕ) → a ≤ b → x ≤ y → HasCause o b c y z → HasCause o a c x z
cause_later (Done n) a b c x y z p q h = tt
cause_later (ReadFault n) a b c x y z p q h = rose_later a b c p h
cause_later (WriteFault n) a b c x y z p q h = rose_later x y z q h
cause_later (NoMemory n) a b c x y z p q h = tt

-- a steady end has no fault
pub no_fault : (o : Outcome) (a c x z : ℕ) → c ≡ a → z ≡ x → a < 2 ^ 64 - 1 → x < 2 ^ 64 - 1 → HasCause o a c x z → IsNoFault o
no_fault (Done n) a c x z e g p q h = tt
no_fault (ReadFault n) a c x z e g p q h = not_risen a c e p h
no_fault (WriteFault n) a c x z e g p q h = not_risen x z g q h
no_fault (NoMemory n) a c x z e g p q h = tt

module _ (f : Facts) (script : List ℕ) (start : Option (List ℕ)) (r : ScriptReader) (left : Option (List ℕ)) (st : State) (old : Option (List ℕ)) (n : ℕ) (h : IsReplied f script start r left st old n) where
  -- ---- what comes of a turn
  pub after_line : (r' : ScriptReader) (left' : Option (List ℕ)) (bytes : List ℕ) (st' : State) (new : Option (List ℕ)) (m faults faults' : ℕ) (o : Option Outcome) → Comes script h.lines r' left' next.Line → bytes ≡ line_in r'
      → MatchOption o (IsTaken f bytes st st' old new n m) (IsStopped f bytes st old new faults faults' n) → MatchOption o (IsReplied f script start r' left' st' new m) (HasEnded f script start new)
  after_line r' left' bytes st' new m faults faults' None comes e t = replied_line f script start r left st old n h r' left' st' new m comes.0 t.0 comes.3 (t.2 comes.0 (e ∙ comes.2)) t.1
  after_line r' left' bytes st' new m faults faults' (Some o) comes e t =
      subst (HasEnded f script start new) (sym t.1) (ended_by f script start new n t.0 (line_part f script start r left st old n h r' left' comes.0 new comes.3 (t.3 comes.0 (e ∙ comes.2))))

  pub after_last : (r' : ScriptReader) (left' : Option (List ℕ)) (bytes : List ℕ) (new : Option (List ℕ)) (faults faults' : ℕ) (o : Outcome) → Comes script h.lines r' left' next.Last → bytes ≡ line_in r' → IsLastTaken f bytes st old new faults faults' n o → HasEnded f script start new o
  after_last r' left' bytes new faults faults' o comes e (inl t) =
      subst (HasEnded f script start new) (sym t.2) (last_done f script start r left st old n h comes.0 t.3.0 t.1 new t.0 comes.3 (t.3.2 comes.0 (e ∙ comes.2)) t.3.1)
  after_last r' left' bytes new faults faults' o comes e (inr t) =
      subst (HasEnded f script start new) (sym t.1) (ended_by f script start new n t.0 (last_part f script start r left st old n h comes.0 new comes.3 (t.3 comes.0 (e ∙ comes.2))))

  pub after_too_long : (r' : ScriptReader) (left' : Option (List ℕ)) (new : Option (List ℕ)) (faults faults' : ℕ) (o : Outcome) → Comes script h.lines r' left' next.TooLong → IsTooLongTold f old new faults faults' n o → HasEnded f script start new o
  after_too_long r' left' new faults faults' o comes (inl t) = subst (HasEnded f script start new) (sym t.0) (long_done f script start r left st old n h new comes t.1)
  after_too_long r' left' new faults faults' o comes (inr t) = subst (HasEnded f script start new) (sym t.1) (ended_by f script start new n t.0 (long_part f script start r left st old n h new comes t.3))

  pub after_end : (r' : ScriptReader) (left' : Option (List ℕ)) → Comes script h.lines r' left' next.End → HasEnded f script start old (Done n)
  after_end r' left' comes = end_done f script start r left st old n h comes.0

-- ---- before the first turn
abbrev pub first_replied : (f : Facts) (script : List ℕ) (r : ScriptReader) (left : Option (List ℕ)) (st : State) (written : Option (List ℕ)) → st ≡ at_first → left ≡ Some script → ((s : List ℕ) → IsBetween s [] r (Some s)) → IsReplied f script written r left st written 0
first_replied f script r left st written e told fresh = record {
  lines = [];
  answers = [];
  between = subst (λ (o : Option (List ℕ)). IsBetween script [] r o) (sym told) (fresh script);
  replies = subst (λ (z : State). AreReplies f at_first [] [] z) (sym e) none;
  count = refl;
  spells = appended_none written;
}

module _ {K : Type 0} (written : K → Option (List ℕ)) (label : K → List ℕ) (faults : K → ℕ) (steady : K → Bool) where
  pub sink_itself : (a : K) → IsSinkLater written label faults steady a a
  sink_itself a = record { more = ([], appended_none (written a)); label = refl; count = omega arith; steady = refl; still = λ s. refl }

  pub sink_later : (a b c : K) → IsSinkLater written label faults steady a b → IsSinkLater written label faults steady b c → IsSinkLater written label faults steady a c
  sink_later a b c p q = record {
    more = (p.more.0 ++ q.more.0, after_others (written a) (written b) (written c) p.more.0 q.more.0 p.more.1 q.more.1);
    label = q.label ∙ p.label;
    count = omega (arith, p.count, q.count);
    steady = q.steady ∙ p.steady;
    still = λ s. q.still (p.steady ∙ s) ∙ p.still s;
  }

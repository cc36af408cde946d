-- What holds of runs whose sessions ended: those of scripts that are served are done, and whatever the ends, outputs have a beginning.
use Rattle.std.proofs.Common.{◌≡◌, ◌++◌, ℕ, zero, suc, false, List, [], ◌∷◌, Option, Some, map, length, take, drop, slice_get, refl, sym, ap, subst, ◌∙◌, unwrap_or, inr, arith}
use Rattle.std.proofs.lemmas.Grind.{flat_map-append}
use Rattle.std.proofs.lemmas.List.{take-append-drop, append-nil, append_assoc}
use Rattle.std.specs.List.{list_any}
use Rattle.std.specs.FinMap as map
use Rattle.edge_io.specs.Files.{Files, HasFile}
use Rattle.dep_form.specs.declared.facts.Facts.{Facts}
use Rattle.report.specs.Replies.{Answer, text}
use Rattle.session_form.specs.Scripts.{AreScriptReplies, IsScriptText}
use Rattle.run_form.specs.Said.{Ending, Done, ReadFault, WriteFault, NoMemory, session_lines}
use Rattle.run_form.specs.Outputs.{AreServed, none, one, text_of, done_of, IsServed}
use Rattle.run_form.specs.Endings.{IsPart, IsBegun, HasWritten, HaveEnded, KeepsOthers, is_no_memory, is_fault, status_of}

some_is : {A : Type 0} (x y : A) → Some x ≡ Some y → x ≡ y
some_is {A} x y e = ap (λ (o : Option A). unwrap_or o x) e

-- a session that is done ends neither by a fault nor for want of memory
none_fails : (rs : List (List Answer)) → (list_any is_no_memory (map done_of rs) ≡ false) × (list_any is_fault (map done_of rs) ≡ false)
none_fails [] = (refl, refl)
none_fails (r ∷ rs) = none_fails rs

is_zero : (rs : List (List Answer)) → status_of (map done_of rs) ≡ 0
is_zero rs = rw ((none_fails rs).0, (none_fails rs).1) refl

module _ (f : Facts) (m : Files) where
  counts : (ss : List (List ℕ)) (rs : List (List Answer)) → AreServed f m ss rs → length (map done_of rs) ≡ length ss
  counts _ _ none = refl
  counts _ _ (one {scripts} {replies} there are rest) = ap suc (counts scripts replies rest)

  -- what was replied to the script of a number
  record IsReplied (script : List ℕ) (rs : List (List Answer)) (k : ℕ) (e : Ending) : Type 0 where
    bytes : List ℕ
    answers : List Answer
    file : HasFile m script bytes
    replies : AreScriptReplies f bytes answers
    written : slice_get (map (text_of f) rs) k ≡ Some (text_of f answers)
    done : e ≡ done_of answers

  replied : (ss : List (List ℕ)) (rs : List (List Answer)) → AreServed f m ss rs → (k : ℕ) (script : List ℕ) (e : Ending) → slice_get ss k ≡ Some script → slice_get (map done_of rs) k ≡ Some e →
      IsReplied script rs k e
  replied _ _ none k script e here there = absurd (cc here)
  replied _ _ (one {script = x} {bytes} {answers} file are rest) zero script e here there = record {
    bytes = bytes;
    answers = answers;
    file = subst (λ (p : List ℕ). HasFile m p bytes) (some_is x script here) file;
    replies = are;
    written = refl;
    done = sym (some_is (done_of answers) e there);
  }
  replied _ _ (one {scripts} {replies} file are rest) (suc k) script e here there =
      let r = replied scripts replies rest k script e here there in
      record { bytes = r.bytes; answers = r.answers; file = r.file; replies = r.replies; written = r.written; done = r.done }

  pub ended : (scripts : List (List ℕ)) (told : List ℕ) (after : Files) → IsServed f m scripts told after →
      (ends : List Ending) × HaveEnded f m scripts ends after × (status_of ends ≡ 0) × (told ≡ session_lines 1 ends)
  ended scripts told after h = (
    map done_of h.replies,
    record {
      count = counts scripts h.replies h.served;
      each = λ k script e at here.
          let r = replied scripts h.replies h.served k script e at here in
          record {
            bytes = r.bytes;
            there = r.file;
            written = text_of f r.answers;
            wrote = subst (λ (x : Ending). HasWritten f r.bytes x (text_of f r.answers)) (sym r.done) (r.answers, r.replies, refl, refl);
            output = h.outputs.there k script (text_of f r.answers) at r.written;
          };
      others = h.outputs.others;
    },
    is_zero h.replies,
    h.lines,
  )

  -- ---- whatever the ends
  part_begins : (answers : List Answer) (n : ℕ) (bytes : List ℕ) → IsPart f answers n bytes → (left : List ℕ) × (text_of f answers ≡ bytes ++ left)
  part_begins answers n bytes p =
      let back : List ℕ = text_of f (drop n answers) in
      let front : List ℕ = text_of f (take n answers) in
      let whole : text_of f answers ≡ front ++ back = ap (λ (xs : List Answer). text_of f xs) (sym (take-append-drop n answers)) ∙ flat_map-append (text f) (take n answers) (drop n answers) in
      let split : front ++ back ≡ (front ++ take p.more back) ++ drop p.more back =
      ap (λ (xs : List ℕ). front ++ xs) (sym (take-append-drop p.more back)) ∙ sym (append_assoc front (take p.more back) (drop p.more back)) in
      (drop p.more back, whole ∙ split ∙ ap (λ (xs : List ℕ). xs ++ drop p.more back) (sym p.spells))

  -- a script has one text
  abbrev pub HasOneText : Type 0
  HasOneText = (script a b : List ℕ) → IsScriptText f script a → IsScriptText f script b → a ≡ b

  begun : (script : List ℕ) (n : ℕ) (bytes : List ℕ) → IsBegun f script n bytes → (answers : List Answer) → AreScriptReplies f script answers → (left : List ℕ) × (text_of f answers ≡ bytes ++ left)
  begun script n bytes h answers are = part_begins answers n bytes (h answers are)

  begins : HasOneText → (script : List ℕ) (e : Ending) (bytes : List ℕ) → HasWritten f script e bytes → (answers : List Answer) → AreScriptReplies f script answers →
      (left : List ℕ) × (text_of f answers ≡ bytes ++ left)
  begins one_text script (Done n) bytes h answers are =
      ([], one_text script (text_of f answers) bytes (answers, are, refl) (h.0, h.1, h.3) ∙ sym (append-nil bytes))
  begins one_text script (ReadFault n) bytes h answers are = begun script n bytes h answers are
  begins one_text script (WriteFault n) bytes h answers are = begun script n bytes h answers are
  begins one_text script (NoMemory n) bytes h answers are = begun script n bytes h answers are

  end_there : (xs : List (List ℕ)) (es : List Ending) (k : ℕ) (x : List ℕ) → length es ≡ length xs → slice_get xs k ≡ Some x → (e : Ending) × (slice_get es k ≡ Some e)
  end_there [] es k x same at = absurd (cc at)
  end_there (a ∷ xs) [] k x same at = absurd (omega (arith, same))
  end_there (a ∷ xs) (e ∷ es) zero x same at = (e, refl)
  end_there (a ∷ xs) (e ∷ es) (suc k) x same at = end_there xs es k x (omega (arith, same)) at

  pub kept : HasOneText → (scripts : List (List ℕ)) (ends : List Ending) (after : Files) → HaveEnded f m scripts ends after → KeepsOthers f m scripts after
  kept one_text scripts ends after h = record {
    others = h.others;
    outputs = λ k script at.
        let e = end_there scripts ends k script h.count at in
        let r = h.each k script e.0 at e.1 in
        inr (record { bytes = r.bytes; there = r.there; part = r.written; output = r.output; begins = begins one_text r.bytes e.0 r.written r.wrote });
  }

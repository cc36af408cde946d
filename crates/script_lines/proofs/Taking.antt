-- What was taken of a script, byte by byte, and when that is all that is taken.
use Rattle.std.proofs.Common.{◌≡◌, ◌≢◌, ◌≤◌, ◌<◌, ◌+◌, ◌-◌, ◌^◌, ◌++◌, ◌⊎◌, Bool, true, false, ℕ, zero, suc, List, [], ◌∷◌, length, take, drop, get_or, Option, Some, None, refl, sym, ap, subst, ◌∙◌, inl, inr, arith, length-append}
use Rattle.std.specs.Prelude.{All, min, IfSome, MatchOption}
use Rattle.std.specs.Option.{option_map}
use Rattle.std.specs.List.{flat_map}
use Rattle.std.proofs.lemmas.Bool.{cases_lt}
use Rattle.std.proofs.lemmas.List.{append-nil, drop_more, length-take, take_all, take-append-drop, take-append-le, nil_from_length}
use Rattle.std.proofs.lemmas.Option.{same_Some}
use Rattle.std.proofs.lemmas.List.Concat.{flat_map-append}
use Rattle.std.proofs.lemmas.List.Elements.{All-append, All-push}
use Rattle.session_form.specs.Scripts.{IsOneLine, ended, HasLines, IsAllowed, IsTaken, AreLines, of_all, of_rest, of_cut}
use Rattle.script_lines.specs.declared.reader.ScriptReader.{ScriptReader}
use Rattle.script_lines.specs.Limits.{most_lines, most_bytes, kept_bytes}
use Rattle.edge_io.specs.Reads.{Reads}
use Rattle.script_lines.specs.declared.next.Next.{Next}
use Rattle.script_lines.specs.Reading.{unread, line_in, HasTaken, IsBetween, IsWithin, Comes, Ends}
use Rattle.script_lines.proofs.Splitting.{hd, tl, append_is, ended_then, one_splitting, splitting}

-- ---- what is allowed
pub allowed : (taken : List ℕ) (ls : List (List ℕ)) (r : List ℕ) → HasLines taken ls r → length taken ≤ 2 ^ 28 → length ls ≤ 2 ^ 20 → (length ls ≡ 2 ^ 20 → r ≡ []) → IsAllowed taken
allowed taken ls r h few lines full = (
  few,
  λ ks q g.
      let one = one_splitting taken ls ks r q h g in
      (subst (λ (ms : List (List ℕ)). length ms ≤ 2 ^ 20) one.0 lines, λ e. sym one.1 ∙ full (ap length one.0 ∙ e)),
)

taken_whole : (script : List ℕ) → IsAllowed script → IsTaken script script []
taken_whole script a = record {
  begins = sym (append-nil script);
  allowed = a;
  longest = λ more left e b. omega (arith, ap length e, length-append more left);
}

-- a longer beginning goes on with the next byte
goes_on : (taken : List ℕ) (b : ℕ) (after more left : List ℕ) → taken ++ (b ∷ after) ≡ more ++ left → length taken < length more → (m : List ℕ) × (more ≡ taken ++ (b ∷ m))
goes_on [] b after [] left e lt = absurd (omega (arith, lt))
goes_on [] b after (y ∷ m) left e lt = (m, ap (λ z. z ∷ m) (sym (ap (hd 0) e)))
goes_on (x ∷ taken) b after [] left e lt = absurd (omega (arith, lt))
goes_on (x ∷ taken) b after (y ∷ m) left e lt =
    let h = goes_on taken b after m left (ap tl e) (omega (arith, lt)) in
    (h.0, ap (λ z. z ∷ m) (sym (ap (hd 0) e)) ∙ ap (λ z. x ∷ z) h.1)

-- the lines of a text that goes on after an end of a line
pub lines_on : (ls ks : List (List ℕ)) (taken more q : List ℕ) → HasLines taken ls [] → HasLines more ks q → HasLines (taken ++ more) (ls ++ ks) q
lines_on ls ks taken more q h g = record {
  spells =
      ap (λ t. t ++ more) (h.spells ∙ append-nil (flat_map ended ls))
      ∙ ap (λ m. flat_map ended ls ++ m) g.spells
      ∙ sym (append_is (flat_map ended ls) (flat_map ended ks) q)
      ∙ ap (λ t. t ++ q) (sym (flat_map-append ended ls ks));
  each = All-append IsOneLine ls ks h.each g.each;
  last = g.last;
}

none_left : (n : ℕ) (ls ks : List (List ℕ)) → length ls ≡ n → length (ls ++ ks) ≤ n → ks ≡ []
none_left n ls [] e le = refl
none_left n ls (k ∷ ks) e le = absurd (omega (arith, e, le, length-append ls (k ∷ ks)))

-- after the last line that is allowed no byte is
no_more_lines : (taken : List ℕ) (ls : List (List ℕ)) (b : ℕ) (m : List ℕ) → HasLines taken ls [] → length ls ≡ 2 ^ 20 → IsAllowed (taken ++ (b ∷ m)) → ⊥
no_more_lines taken ls b m h e a =
    let s = splitting (b ∷ m) in
    let both = lines_on ls s.0 taken (b ∷ m) s.1 h s.2 in
    let bound = a.1 (ls ++ s.0) s.1 both in
    let none : s.0 ≡ [] = none_left (2 ^ 20) ls s.0 e bound.0 in
    let same : ls ++ s.0 ≡ ls = ap (λ k. ls ++ k) none ∙ append-nil ls in
    let rest : s.1 ≡ [] = bound.1 (ap length same ∙ e) in
    let nothing : b ∷ m ≡ [] = s.2.spells ∙ ap (λ k. flat_map ended k ++ s.1) none ∙ rest in
    absurd (omega (arith, ap length nothing))

taken_cut : (script taken : List ℕ) (b : ℕ) (after : List ℕ) (ls : List (List ℕ)) (r : List ℕ) → script ≡ taken ++ (b ∷ after) → HasLines taken ls r → IsAllowed taken
    → ((length ls ≡ 2 ^ 20) ⊎ (length taken ≡ 2 ^ 28)) → IsTaken script taken (b ∷ after)
taken_cut script taken b after ls r e h a why = record {
  begins = e;
  allowed = a;
  longest = λ more left e' b'. elim (cases_lt (length taken) (length more)) [
    | inl lt ↦ absurd (longer more left e' b' lt why)
    | inr ge ↦ omega (arith, ge)
  ];
}
  where
    longer : (more left : List ℕ) → script ≡ more ++ left → IsAllowed more → length taken < length more → ((length ls ≡ 2 ^ 20) ⊎ (length taken ≡ 2 ^ 28)) → ⊥
    longer more left e' b' lt (inr bytes) = omega (arith, lt, bytes, b'.0)
    longer more left e' b' lt (inl lines) =
        let on = goes_on taken b after more left (sym e ∙ e') lt in
        no_more_lines taken ls b on.0 (subst (HasLines taken ls) ((a.1 ls r h).1 lines) h) lines (subst IsAllowed on.1 b')

-- ---- of what a reader has taken
module _ (script : List ℕ) (lines : List (List ℕ)) (rest : List ℕ) (r : ScriptReader) (left : List ℕ) (t : HasTaken script lines rest r left) where
  abbrev taken : List ℕ
  taken = flat_map ended lines ++ rest

  has : HasLines taken lines rest
  has = record { spells = refl; each = t.each; last = t.last }

  size : r.bytes ≡ length taken
  size = t.sized ∙ sym (length-append (flat_map ended lines) rest)

  is_allowed : IsAllowed taken
  is_allowed = allowed taken lines rest has (omega (arith, size, r.few_bytes)) (omega (arith, t.counted, r.few_lines)) (λ e. t.full (t.counted ∙ e))

  spelled : script ≡ taken ++ (unread r ++ left)
  spelled = t.spells ∙ sym (append_is (flat_map ended lines) rest (unread r ++ left))

  all_taken : unread r ≡ [] → left ≡ [] → script ≡ taken
  all_taken e g = spelled ∙ ap (λ u. taken ++ (u ++ left)) e ∙ ap (λ u. taken ++ u) g ∙ append-nil taken

  whole : unread r ≡ [] → left ≡ [] → IsTaken script taken []
  whole e g = subst (λ s. IsTaken s taken []) (sym (all_taken e g)) (taken_whole taken is_allowed)

  pub comes_end : unread r ≡ [] → left ≡ [] → rest ≡ [] → AreLines script false lines
  comes_end e g n = of_all (whole e g) (subst (HasLines taken lines) n has)

  pub comes_last : unread r ≡ [] → left ≡ [] → rest ≢ [] → AreLines script false (lines ++ (rest ∷ []))
  comes_last e g some = of_rest (whole e g) has some

  pub comes_too_long : (b : ℕ) (u : List ℕ) → unread r ≡ b ∷ u → ((r.lines ≡ most_lines) ⊎ (r.bytes ≡ most_bytes)) → AreLines script true lines
  comes_too_long b u e why =
      let cut = taken_cut script taken b (u ++ left) lines rest (spelled ∙ ap (λ x. taken ++ (x ++ left)) e) has is_allowed (elim why [ inl l ↦ inl (sym t.counted ∙ l) | inr n ↦ inr (sym size ∙ n) ]) in
      of_cut cut (λ n. omega (arith, ap length n)) has

  -- one byte more
  module _ (q : ScriptReader) (b : ℕ) (e : unread r ≡ b ∷ unread q) (more : q.bytes ≡ r.bytes + 1) where
    pub one_byte : b ≢ 10 → q.lines ≡ r.lines → (r.lines ≡ most_lines → ⊥) → HasTaken script lines (rest ++ (b ∷ [])) q left
    one_byte other same not_full = record {
      spells = t.spells ∙ ap (λ x. flat_map ended lines ++ (rest ++ (x ++ left))) e ∙ ap (λ x. flat_map ended lines ++ x) (sym (append_is rest (b ∷ []) (unread q ++ left)));
      each = t.each;
      last = All-push (λ x. x ≢ 10) rest b t.last other;
      counted = same ∙ t.counted;
      sized = omega (arith, more, t.sized, length-append rest (b ∷ []));
      full = λ l. absurd (not_full (sym same ∙ l));
    }

    pub one_end : b ≡ 10 → q.lines ≡ r.lines + 1 → HasTaken script (lines ++ (rest ∷ [])) [] q left
    one_end is one = record {
      spells =
          t.spells ∙ ap (λ x. flat_map ended lines ++ (rest ++ (x ++ left))) (e ∙ ap (λ x. x ∷ unread q) is)
          ∙ ap (λ x. flat_map ended lines ++ x) (sym (ended_then rest (unread q ++ left)))
          ∙ sym (append_is (flat_map ended lines) (ended rest) (unread q ++ left))
          ∙ ap (λ x. x ++ (unread q ++ left)) (sym ended_lines);
      each = All-push IsOneLine lines rest t.each t.last;
      last = λ k d lt. absurd (omega (arith, lt));
      counted = omega (arith, one, t.counted, length-append lines (rest ∷ []));
      sized = omega (arith, more, t.sized, ap length ended_lines, length-append (flat_map ended lines) (ended rest), length-append rest (10 ∷ []));
      full = λ l. refl;
    }
      where
        ended_lines : flat_map ended (lines ++ (rest ∷ [])) ≡ flat_map ended lines ++ ended rest
        ended_lines = flat_map-append ended lines (rest ∷ []) ∙ ap (λ x. flat_map ended lines ++ x) (append-nil (ended rest))

-- ---- what is unread
pub unread_more : (xs : List ℕ) (a e b : ℕ) → a < e → e ≤ length xs → b ≡ get_or xs a b → take (e - a) (drop a xs) ≡ b ∷ take (e - (a + 1)) (drop (a + 1) xs)
unread_more xs a e b lt le here =
    let n : ℕ = e - (a + 1) in
    let is : e - a ≡ suc n = omega (arith, lt) in
    ap (λ k. take k (drop a xs)) is ∙ ap (λ ys. take (suc n) ys) (drop_more xs a b (omega (arith, lt, le))) ∙ ap (λ z. z ∷ take n (drop (a + 1) xs)) (sym here)

nothing_unread : (xs : List ℕ) (a e : ℕ) → e ≤ a → take (e - a) (drop a xs) ≡ []
nothing_unread xs a e le = let is : e - a ≡ 0 = omega (arith, le) in ap (λ k. take k (drop a xs)) is

front_read : (xs l : List ℕ) (n : ℕ) → take n xs ≡ take n l → take (n - 0) (drop 0 xs) ≡ take n l
front_read xs l n h = let is : n - 0 ≡ n = omega arith in ap (λ k. take k xs) is ∙ h

take_twice : (n len : ℕ) (xs : List ℕ) → n ≤ len → take n (take len xs) ≡ take n xs
take_twice zero len xs le = refl
take_twice (suc n) zero xs le = absurd (omega (arith, le))
take_twice (suc n) (suc len) [] le = refl
take_twice (suc n) (suc len) (x ∷ xs) le = ap (λ z. x ∷ z) (take_twice n len xs (omega (arith, le)))

-- what a source put into the front of a chunk
pub front_kept : (items into l : List ℕ) (len n : ℕ) → n ≤ len → Reads n into l → take n (take len (into ++ drop (length into) items)) ≡ take n l
front_kept items into l len n le reads =
    let size : n ≤ length into = omega (arith, ap length reads.front, length-take n into, length-take n l, reads.enough) in
    take_twice n len (into ++ drop (length into) items) le ∙ take-append-le n into (drop (length into) items) size ∙ reads.front

pub filled : (script : List ℕ) (lines : List (List ℕ)) (rest : List ℕ) (r : ScriptReader) (l xs : List ℕ) (n : ℕ) → HasTaken script lines rest r l → r.at ≡ r.end → take n xs ≡ take n l
    → script ≡ flat_map ended lines ++ (rest ++ (take (n - 0) (drop 0 xs) ++ drop n l))
filled script lines rest r l xs n t none front =
    t.spells ∙ ap (λ x. flat_map ended lines ++ (rest ++ (x ++ l))) (nothing_unread r.chunk.items r.at r.end (omega (arith, none)))
    ∙ ap (λ x. flat_map ended lines ++ (rest ++ x)) (sym (take-append-drop n l) ∙ ap (λ x. x ++ drop n l) (sym (front_read xs l n front)))

-- the line that was kept counts for nothing
pub begun : (script : List ℕ) (lines : List (List ℕ)) (r q : ScriptReader) (l : List ℕ) → HasTaken script lines [] r l → unread q ≡ unread r → q.lines ≡ r.lines → q.bytes ≡ r.bytes → HasTaken script lines [] q l
begun script lines r q l t front same bytes = record {
  spells = t.spells ∙ ap (λ x. flat_map ended lines ++ (x ++ l)) (sym front);
  each = t.each;
  last = t.last;
  counted = same ∙ t.counted;
  sized = bytes ∙ t.sized;
  full = λ e. refl;
}

pub at_end : (o now : Option (List ℕ)) (n : ℕ) (buffer : List ℕ) → now ≡ option_map (drop n) o → IfSome o (Reads n buffer) → n ≡ 0 → (l : List ℕ) → now ≡ Some l → l ≡ []
at_end None now n buffer e h z l is = absurd (cc (sym e ∙ is))
at_end (Some k) now n buffer e h z l is =
    let empty : k ≡ [] = h.end.0 z in
    let same : drop n k ≡ l = same_Some (drop n k) l (sym e ∙ is) in
    sym same ∙ ap (λ m. drop m k) z ∙ empty

-- ---- what is kept of a line
kept_none : (rest : List ℕ) → take kept_bytes rest ≡ [] → rest ≡ []
kept_none [] e = refl
kept_none (x ∷ rest) e = absurd (omega (arith, ap length e, length-take kept_bytes (x ∷ rest)))

pub none_kept : (rest : List ℕ) → rest ≡ [] → take kept_bytes rest ≡ []
none_kept rest e = nil_from_length (take kept_bytes rest) (omega (arith, ap length e, length-take kept_bytes rest))

pub kept_more : (xs rest : List ℕ) (b : ℕ) → xs ≡ take kept_bytes rest → length xs < kept_bytes → xs ++ b ∷ [] ≡ take kept_bytes (rest ++ b ∷ [])
kept_more xs rest b e lt =
    let short : length rest < kept_bytes = omega (arith, ap length e, length-take kept_bytes rest, lt) in
    let same : xs ≡ rest = e ∙ take_all kept_bytes rest (omega (arith, short)) in
    ap (λ z. z ++ b ∷ []) same ∙ sym (take_all kept_bytes (rest ++ b ∷ []) (omega (arith, short, length-append rest (b ∷ []))))

pub kept_full : (xs rest : List ℕ) (b : ℕ) → xs ≡ take kept_bytes rest → kept_bytes ≤ length xs → xs ≡ take kept_bytes (rest ++ b ∷ [])
kept_full xs rest b e le =
    let long : kept_bytes ≤ length rest = omega (arith, ap length e, length-take kept_bytes rest, le) in
    e ∙ sym (take-append-le kept_bytes rest (b ∷ []) long)

-- ---- where nothing is left
pub read_on : (script : List ℕ) (lines : List (List ℕ)) (rest : List ℕ) (q : ScriptReader) (left : Option (List ℕ)) (o : Option Next) → MatchOption o (q.at < q.end) (λ n. (q.end ≡ 0) × Ends q n)
    → (q.end ≡ 0 → (l : List ℕ) → left ≡ Some l → l ≡ []) → IsWithin script lines rest q left → MatchOption o (IsWithin script lines rest q left) (Comes script lines q left)
read_on script lines rest q left None h end w = w
read_on script lines rest q left (Some n) h end w =
    let none = nothing_unread q.chunk.items q.at q.end (omega (arith, h.0)) in
    let empty = end h.0 w.0 w.1 in
    elim h.1 [
      | inl e ↦ subst (Comes script lines q left) (sym e.0) (comes_end script lines rest q w.0 w.3 none empty (kept_none rest (sym w.2 ∙ e.1)), w.1 ∙ ap Some empty)
      | inr e ↦ subst (Comes script lines q left) (sym e.0) (rest, w.3.last, w.2, comes_last script lines rest q w.0 w.3 none empty (λ n. e.1 (w.2 ∙ none_kept rest n)), w.1 ∙ ap Some empty)
    ]

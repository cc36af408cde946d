-- Desks that were attended, as the ends of the scripts' sessions.
use Rattle.std.proofs.Common.{◌≡◌, ◌≢◌, ◌<◌, ◌++◌, ◌∷◌, [], ℕ, Bool, true, List, Option, Some, None, IfSome, length, map, take, get_or, slice_get, append-nil, refl, sym, ap, subst, ◌∙◌, arith}
use Rattle.std.specs.Option.{option_map}
use Rattle.std.specs.List.{flat_map}
use Rattle.std.proofs.lemmas.Option.{slice_get-map, slice_get-get_or, slice_get_within}
use Rattle.dep_form.specs.declared.facts.Facts.{Facts}
use Rattle.edge_io.specs.Files.{Files, HasFile}
use Rattle.edge_io.specs.Reads.{appended}
use Rattle.report.specs.Replies.{Answer, text}
use Rattle.session_form.specs.Scripts.{AreScriptReplies}
use Rattle.words.specs.Scripts.{output_of}
use Rattle.sessions.specs.declared.shared.Shared.{Shared}
use Rattle.sessions.specs.declared.desk.Desk.{Desk}
use Rattle.sessions.specs.declared.desk.Outcome.{Outcome}
use Rattle.sessions.specs.declared.desk.Outcome.TheVariants as ends
use Rattle.sessions.specs.Desks as desk
use Rattle.run_form.specs.Outputs.{text_of}
use Rattle.run_form.specs.Endings.{IsPart, HasWritten, IsCaused}
use Rattle.serving.specs.Ends.{IsOpened, IsMade, AreApart}
use Rattle.serving.specs.Attended.{ending_of, IsAttended}
use Rattle.serving.specs.Seated.{source_at, sink_at, outcome_at, AreSeated}
use Rattle.serving.specs.AllEnded.{AreReady, IsEnd, HaveAllEnded}
use Rattle.serving.proofs.Places.{take_old, paired_length}
use Rattle.serving.proofs.SeatedDesks.{map_length}
use Rattle.serving.proofs.EmptyOutputs.{some_same, paired_there}

-- ---- what a session wrote

module _ (f : Facts) (script w : List ℕ) (start new : Option (List ℕ)) (none : start ≡ Some []) (is : new ≡ Some w) where
  spelled : (t : List ℕ) → new ≡ appended t start → w ≡ t
  spelled t e = some_same w t (sym is ∙ (e ∙ ap (appended t) none))

  part_of : (n : ℕ) → desk.IsPart f script start new n → (answers : List Answer) → AreScriptReplies f script answers → IsPart f answers n w
  part_of n h answers are =
      let p = h answers are in
      record { whole = p.1.whole; more = p.1.more; less = p.1.less; spells = spelled p.0 p.2 ∙ p.1.spells }

  pub has_written : (how : Outcome) → desk.HasEnded f script start new how → HasWritten f script (ending_of how) w
  has_written (ends.Done n) (answers, are, count, e) = (answers, are, sym count, spelled (flat_map (text f) answers) e)
  has_written (ends.ReadFault n) h = part_of n h
  has_written (ends.WriteFault n) h = part_of n h
  has_written (ends.NoMemory n) h = part_of n h

is_caused : (sources sinks : List ℕ → Bool) (script : List ℕ) (how : Outcome) → (sources script ≡ true → (n : ℕ) → how ≢ ends.ReadFault n) → (sinks (output_of script) ≡ true → (n : ℕ) → how ≢ ends.WriteFault n)
    → IsCaused sources sinks script (ending_of how)
is_caused sources sinks script (ends.Done n) read write = tt
is_caused sources sinks script (ends.ReadFault n) read write = λ s. read s n refl
is_caused sources sinks script (ends.WriteFault n) read write = λ s. write s n refl
is_caused sources sinks script (ends.NoMemory n) read write = tt

one_outcome : (o : Option Outcome) (how : Outcome) → option_map (λ (x : Outcome). Some x) o ≡ Some (Some how) → o ≡ Some how
one_outcome None how e = absurd cc
one_outcome (Some x) how e = cc

first_item : {A : Type 0} (ds : List A) (k : ℕ) → k < length ds → A
first_item [] k lt = absurd (omega (arith, lt))
first_item (d ∷ ds) k lt = d

module _ {S K : Type 0} (left : S → Option (List ℕ)) (source_faults : S → ℕ) (source_steady : S → Bool)
    (written : K → Option (List ℕ)) (label : K → List ℕ) (sink_faults : K → ℕ) (sink_steady : K → Bool) (sh : Shared) where
  wrote : (files : Option Files) (sources sinks : List ℕ → Bool) (script : List ℕ) (old new : Desk S K) (s : S) (t : K) → old.source ≡ s → old.sink ≡ t → IsOpened left source_steady files sources script s
      → IsMade written label sink_steady files sinks script t → (a : IsAttended left source_faults source_steady written label sink_faults sink_steady sh old new)
      → IfSome files (λ m. (bytes : List ℕ) × HasFile m script bytes × (w : List ℕ) × (written new.sink ≡ Some w) × HasWritten sh.facts bytes (ending_of a.how) w)
  wrote None sources sinks script old new s t of_source of_sink opened made a = tt
  wrote (Some m) sources sinks script old new s t of_source of_sink opened made a =
      let bytes = opened.tells.0 in
      let none : written old.sink ≡ Some [] = ap written of_sink ∙ made.tells in
      let w = a.of_sink.more.0 in
      let is : written new.sink ≡ Some w = a.of_sink.more.1 ∙ ap (appended w) none in
      (bytes, opened.tells.1, w, is, has_written sh.facts bytes w (written old.sink) (written new.sink) none is a.how (a.ended bytes (ap left of_source ∙ opened.tells.2)))

  is_end : (files : Option Files) (sources sinks : List ℕ → Bool) (script : List ℕ) (old new : Desk S K) (s : S) (t : K) → old.source ≡ s → old.sink ≡ t → IsOpened left source_steady files sources script s
      → IsMade written label sink_steady files sinks script t → (a : IsAttended left source_faults source_steady written label sink_faults sink_steady sh old new)
      → IsEnd written label sh.facts files sources sinks script a.how new.sink
  is_end files sources sinks script old new s t of_source of_sink opened made a = record {
    output = a.of_sink.label ∙ (ap label of_sink ∙ made.output);
    wrote = wrote files sources sinks script old new s t of_source of_sink opened made a;
    caused = is_caused sources sinks script a.how (λ e. a.sure_read (ap source_steady of_source ∙ (opened.steadiness ∙ e))) (λ e. a.sure_write (ap sink_steady of_sink ∙ (made.steadiness ∙ e)));
  }

  module _ (opened : List S) (made : List K) (desks desks' : List (Desk S K)) (back : List K) (whole : back ≡ []) (seated : AreSeated sh opened made desks back) (same : length desks' ≡ length desks)
      (each : (i : ℕ) (d : Desk S K) → i < length desks → IsAttended left source_faults source_steady written label sink_faults sink_steady sh (get_or desks i d) (get_or desks' i d))
      (taken : List K) (these : taken ≡ map sink_at desks' ++ back) where
    all_sinks : map sink_at desks ≡ made
    all_sinks = sym (append-nil (map sink_at desks)) ∙ (ap (λ (bs : List K). map sink_at desks ++ bs) (sym whole) ∙ seated.sinks_of)

    taken_are : taken ≡ map sink_at desks'
    taken_are = these ∙ (ap (λ (bs : List K). map sink_at desks' ++ bs) whole ∙ append-nil (map sink_at desks'))

    abbrev Before : K → ℕ → Type 0
    Before s k = (t : K) × (slice_get made k ≡ Some t) × (label s ≡ label t)

    label_at : (k : ℕ) (s : K) → slice_get (map sink_at desks') k ≡ Some s → (some : Desk S K) → k < length desks → Before s k
    label_at k s at some lt =
        let old = get_or desks k some in
        let new = get_or desks' k some in
        let here : slice_get desks k ≡ Some old = slice_get-get_or desks k some lt in
        let there : slice_get desks' k ≡ Some new = slice_get-get_or desks' k some (omega (arith, lt, same)) in
        let is : s ≡ new.sink = some_same s new.sink (sym at ∙ (slice_get-map sink_at desks' k ∙ ap (option_map sink_at) there)) in (
          old.sink,
          ap (λ (l : List K). slice_get l k) (sym all_sinks) ∙ (slice_get-map sink_at desks k ∙ ap (option_map sink_at) here),
          ap label is ∙ (each k some lt).of_sink.label,
        )

    label_before : (k : ℕ) (s : K) → slice_get (map sink_at desks') k ≡ Some s → Before s k
    label_before k s at =
        let lt : k < length desks = omega (arith, same, map_length sink_at desks', slice_get_within (map sink_at desks') k s at) in
        label_at k s at (first_item desks k lt) lt

    -- the sinks have the labels that they had
    pub apart_still : AreApart written label made → AreApart written label taken
    apart_still apart j k s t at bt e =
        let a = label_before j s (ap (λ (l : List K). slice_get l j) (sym taken_are) ∙ at) in
        let b = label_before k t (ap (λ (l : List K). slice_get l k) (sym taken_are) ∙ bt) in
        apart j k a.0 b.0 a.1 b.1 (sym a.2 ∙ (e ∙ b.2))

    module _ (files now : Option Files) (sources sinks : List ℕ → Bool) (scripts : List (List ℕ)) (ready : AreReady left source_steady written label sink_steady files now sources sinks scripts opened made)
        (outcomes : List Outcome) (are : map (λ (o : Outcome). Some o) outcomes ≡ map outcome_at desks') where
      many : length desks ≡ length scripts
      many = sym (map_length sink_at desks) ∙ (ap length all_sinks ∙ paired_length ready.are_made)

      abbrev End : ℕ → List ℕ → Type 0
      End k script = (how : Outcome) × (s : K) × (slice_get outcomes k ≡ Some how) × (slice_get taken k ≡ Some s) × IsEnd written label sh.facts files sources sinks script how s

      ended_at : (k : ℕ) (script : List ℕ) → slice_get scripts k ≡ Some script → (some : Desk S K) → k < length desks → End k script
      ended_at k script at some lt =
          let s = paired_there ready.are_opened k script at in
          let t = paired_there ready.are_made k script at in
          let old = get_or desks k some in
          let new = get_or desks' k some in
          let here : slice_get desks k ≡ Some old = slice_get-get_or desks k some lt in
          let there : slice_get desks' k ≡ Some new = slice_get-get_or desks' k some (omega (arith, lt, same)) in
          let a = each k some lt in
          let of_source : old.source ≡ s.0 = some_same old.source s.0 (ap (option_map source_at) (sym here) ∙ (sym (slice_get-map source_at desks k) ∙ (ap (λ (l : List S). slice_get l k) seated.sources_of ∙ take_old opened (length desks) k s.0 lt s.1))) in
          let of_sink : old.sink ≡ t.0 = some_same old.sink t.0 (ap (option_map sink_at) (sym here) ∙ (sym (slice_get-map sink_at desks k) ∙ (ap (λ (l : List K). slice_get l k) all_sinks ∙ t.1))) in
          let outcome : slice_get outcomes k ≡ Some a.how = one_outcome (slice_get outcomes k) a.how
          (sym (slice_get-map (λ (o : Outcome). Some o) outcomes k) ∙ (ap (λ (l : List (Option Outcome)). slice_get l k) are ∙ (slice_get-map outcome_at desks' k ∙ (ap (option_map outcome_at) there ∙ ap (λ (o : Option Outcome). Some o) a.outcome)))) in (
            a.how,
            new.sink,
            outcome,
            ap (λ (l : List K). slice_get l k) taken_are ∙ (slice_get-map sink_at desks' k ∙ ap (option_map sink_at) there),
            is_end files sources sinks script old new s.0 t.0 of_source of_sink s.2 t.2 a,
          )

      pub all_ended : HaveAllEnded written label sh.facts files now sources sinks scripts outcomes taken
      all_ended = record {
        count = sym (map_length (λ (o : Outcome). Some o) outcomes) ∙ (ap length are ∙ (map_length outcome_at desks' ∙ (same ∙ many)));
        sink_count = ap length taken_are ∙ (map_length sink_at desks' ∙ (same ∙ many));
        each = λ k script at.
            let lt : k < length desks = omega (arith, many, slice_get_within scripts k script at) in
            ended_at k script at (first_item desks k lt) lt;
        created = ready.created;
      }

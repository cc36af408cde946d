-- What a run said and left whose sessions ended, once their sinks were closed.
use Rattle.std.proofs.Common.{◌≡◌, ◌≢◌, ◌⊎◌, ◌<◌, ◌≤◌, ◌∷◌, [], ℕ, zero, suc, Bool, true, false, List, Option, Some, None, IfSome, inl, inr, length, map, slice_get, refl, sym, ap, subst, ◌∙◌, arith}
use Rattle.std.specs.Option.{option_map}
use Rattle.std.proofs.lemmas.Option.{slice_get-map, slice_get_within}
use Rattle.std.specs.FinMap as map_of
use Rattle.dep_form.specs.declared.facts.Facts.{Facts}
use Rattle.edge_io.specs.Faults.{Rose}
use Rattle.edge_io.specs.Files.{Files, HasFile, IsFile, file_set}
use Rattle.edge_io.specs.Reads.{appended}
use Rattle.edge_io.specs.declared.host.Entry.TheVariants.{File}
use Rattle.edge_io.proofs.Places.{insert_keeps}
use Rattle.words.specs.Scripts.{output_of}
use Rattle.sessions.specs.declared.desk.Outcome.{Outcome}
use Rattle.run_form.specs.Said.{Ending}
use Rattle.run_form.specs.Outputs.{HasOutputs, no_text, text_of}
use Rattle.run_form.specs.Endings.{HasWritten, HasEnded, HaveEnded, HasBeginning, KeepsOthers, IsCaused, AreCaused, SaysAfter}
use Rattle.serving.specs.Ends.{AreClosed, AreClosedOrKept, AreCreated}
use Rattle.serving.specs.Attended.{ending_of}
use Rattle.serving.specs.Served.{ScriptsEnd, KeepsPaths}
use Rattle.serving.specs.AllEnded.{IsEnd, HaveAllEnded, RanOn}
use Rattle.serving.proofs.MadeOutputs.{set_there, a_text}
use Rattle.serving.proofs.SeatedDesks.{map_length}
use Rattle.serving.proofs.EmptyOutputs.{some_same, there_at}

-- however sessions end, outputs have a beginning of their scripts' texts
abbrev pub KeepsByEnds : Type 0
KeepsByEnds = (f : Facts) (m : Files) (scripts : List (List ℕ)) (ends : List Ending) (after : Files) → HaveEnded f m scripts ends after → KeepsOthers f m scripts after

-- what a session wrote begins the text of its script
module _ (law : KeepsByEnds) (f : Facts) (m : Files) (script bytes w : List ℕ) (e : Ending) (file : HasFile m script bytes) (wrote : HasWritten f bytes e w) where
  ended_alone : (k : ℕ) (one : List ℕ) (x : Ending) → slice_get (script ∷ []) k ≡ Some one → slice_get (e ∷ []) k ≡ Some x → HasEnded f m one x (file_set m (output_of script) w)
  ended_alone zero one x at et =
      subst (λ (s : List ℕ). HasEnded f m s x (file_set m (output_of script) w)) (some_same script one at)
      (subst (λ (y : Ending). HasEnded f m script y (file_set m (output_of script) w)) (some_same e x et)
      (record { bytes = bytes; there = file; written = w; wrote = wrote; output = set_there m (output_of script) w }))
  ended_alone (suc k) one x at et = absurd (omega (arith, slice_get_within [] k one at))

  kept_alone : KeepsOthers f m (script ∷ []) (file_set m (output_of script) w)
  kept_alone = law f m (script ∷ []) (e ∷ []) (file_set m (output_of script) w) (record {
    count = refl;
    each = ended_alone;
    others = λ path away. insert_keeps m (output_of script) (File w) path (away 0 script refl);
  })

  pub begins : (after : Files) → HasFile after (output_of script) w → (map_of.get after (output_of script) ≡ map_of.get m (output_of script)) ⊎ HasBeginning f m script after
  begins after there = by (kept_alone.outputs 0 script refl)
    where
      same : map_of.get (file_set m (output_of script) w) (output_of script) ≡ map_of.get after (output_of script)
      same = set_there m (output_of script) w ∙ sym there

      by : (map_of.get (file_set m (output_of script) w) (output_of script) ≡ map_of.get m (output_of script)) ⊎ HasBeginning f m script (file_set m (output_of script) w)
          → (map_of.get after (output_of script) ≡ map_of.get m (output_of script)) ⊎ HasBeginning f m script after
      by (inl e) = inl (sym same ∙ e)
      by (inr b) = inr (record { bytes = b.bytes; there = b.there; part = b.part; output = sym same ∙ b.output; begins = b.begins })

module _ {K : Type 0} (written : K → Option (List ℕ)) (label : K → List ℕ) (f : Facts) (sources sinks : List ℕ → Bool) (scripts : List (List ℕ)) (outcomes : List Outcome) (taken : List K) where
  abbrev pub endings : List Ending
  endings = map ending_of outcomes

  module _ (files now : Option Files) (h : HaveAllEnded written label f files now sources sinks scripts outcomes taken) where
    end_at : (k : ℕ) (script : List ℕ) (e : Ending) (at : slice_get scripts k ≡ Some script) → slice_get (map ending_of outcomes) k ≡ Some e → ending_of (h.each k script at).0 ≡ e
    end_at k script e at et = some_same (ending_of (h.each k script at).0) e (sym (slice_get-map ending_of outcomes k ∙ ap (option_map ending_of) (h.each k script at).2) ∙ et)

    caused : AreCaused sources sinks scripts (map ending_of outcomes)
    caused k script e at et = subst (IsCaused sources sinks script) (end_at k script e at et) (h.each k script at).4.caused

    -- the label of each sink is the output of its script
    label_at : (k : ℕ) (s : K) → slice_get taken k ≡ Some s → (script : List ℕ) × (slice_get scripts k ≡ Some script) × (label s ≡ output_of script)
    label_at k s at =
        let script = there_at scripts k (omega (arith, h.sink_count, slice_get_within taken k s at)) in
        let x = h.each k script.0 script.1 in
        (script.0, script.1, ap label (some_same s x.1 (sym at ∙ x.3)) ∙ x.4.output)

  -- .. over told files
  module _ (m n : Files) (h : HaveAllEnded written label f (Some m) (Some n) sources sinks scripts outcomes taken) (outputs : HasOutputs m scripts (map no_text scripts) n) where
    away_from : (path : List ℕ) → ((k : ℕ) (script : List ℕ) → slice_get scripts k ≡ Some script → path ≢ output_of script) → (k : ℕ) (s : K) → slice_get taken k ≡ Some s → path ≢ label s
    away_from path away k s at e = let x = label_at (Some m) (Some n) h k s at in away k x.0 x.1 (e ∙ x.2)

    ended_there : (after : Files) → AreClosed written label n taken after → HaveEnded f m scripts (map ending_of outcomes) after
    ended_there after closed = record {
      count = map_length ending_of outcomes ∙ h.count;
      each = λ k script e at et.
          let x = h.each k script at in
          let w = x.4.wrote in
          record {
            bytes = w.0;
            there = w.1;
            written = w.2;
            wrote = subst (λ (y : Ending). HasWritten f w.0 y w.2) (end_at (Some m) (Some n) h k script e at et) w.4;
            output = subst (λ (p : List ℕ). HasFile after p w.2) x.4.output (closed.there k x.1 w.2 x.3 w.3);
          };
      others = λ path away. closed.others path (away_from path away) ∙ outputs.others path away;
    }

    kept_there : KeepsByEnds → (after : Files) → AreClosedOrKept written label n taken after → KeepsOthers f m scripts after
    kept_there law after kept = record {
      others = λ path away. kept.others path (away_from path away) ∙ outputs.others path away;
      outputs = λ k script at.
          let x = h.each k script at in
          let w = x.4.wrote in
          by k script at x.1 x.4.output w.0 w.2 (ending_of x.0) w.1 w.4 (kept.there k x.1 w.2 x.3 w.3);
    }
      where
        by : (k : ℕ) (script : List ℕ) → slice_get scripts k ≡ Some script → (s : K) → label s ≡ output_of script → (bytes w : List ℕ) (e : Ending) → HasFile m script bytes → HasWritten f bytes e w
            → HasFile after (label s) w ⊎ (map_of.get after (label s) ≡ map_of.get n (label s)) → (map_of.get after (output_of script) ≡ map_of.get m (output_of script)) ⊎ HasBeginning f m script after
        by k script at s is bytes w e file wrote (inl there) = begins law f m script bytes w e file wrote after (subst (λ (p : List ℕ). HasFile after p w) is there)
        by k script at s is bytes w e file wrote (inr same) = inr (record {
          bytes = bytes;
          there = file;
          part = [];
          output = subst (λ (p : List ℕ). map_of.get after p ≡ map_of.get n p) is same ∙ outputs.there k script [] at (a_text scripts k script at);
          begins = λ answers are. (text_of f answers, refl);
        })

    labels_there : (k : ℕ) (s : K) → slice_get taken k ≡ Some s → IsFile n (label s)
    labels_there k s at =
        let x = label_at (Some m) (Some n) h k s at in
        ([], subst (λ (p : List ℕ). HasFile n p []) (sym x.2) (outputs.there k x.0 [] x.1 (a_text scripts k x.0 x.1)))

  -- ---- whether files are told or not
  told_now : (m n : Files) (now : Option Files) → now ≡ Some n → HaveAllEnded written label f (Some m) now sources sinks scripts outcomes taken → HaveAllEnded written label f (Some m) (Some n) sources sinks scripts outcomes taken
  told_now m n now is h = subst (λ (o : Option Files). HaveAllEnded written label f (Some m) o sources sinks scripts outcomes taken) is h

  all_closed_told : (files now next : Option Files) → HaveAllEnded written label f files now sources sinks scripts outcomes taken → IfSome now (λ n. (after : Files) × (next ≡ Some after) × AreClosed written label n taken after)
      → IfSome files (λ m. (after : Files) × (next ≡ Some after) × HaveEnded f m scripts (map ending_of outcomes) after)
  all_closed_told None now next h closed = tt
  all_closed_told (Some m) now next h closed =
      let c = h.created in
      let k : (after : Files) × (next ≡ Some after) × AreClosed written label c.0 taken after =
      subst (λ (o : Option Files). IfSome o (λ (n : Files). (after : Files) × (next ≡ Some after) × AreClosed written label n taken after)) c.1 closed in
      (k.0, k.1, ended_there m c.0 (told_now m c.0 now c.1 h) c.2 k.0 k.2)

  all_kept : KeepsByEnds → (files now next : Option Files) → HaveAllEnded written label f files now sources sinks scripts outcomes taken → IfSome now (λ n. (after : Files) × (next ≡ Some after) × AreClosedOrKept written label n taken after)
      → KeepsPaths f files next scripts
  all_kept law None now next h kept = tt
  all_kept law (Some m) now next h kept =
      let c = h.created in
      let k : (after : Files) × (next ≡ Some after) × AreClosedOrKept written label c.0 taken after =
      subst (λ (o : Option Files). IfSome o (λ (n : Files). (after : Files) × (next ≡ Some after) × AreClosedOrKept written label n taken after)) c.1 kept in
      (k.0, k.1, kept_there m c.0 (told_now m c.0 now c.1 h) c.2 law k.0 k.2)

  no_close_failed : (files now : Option Files) (all : Bool) (P : Type 0) → HaveAllEnded written label f files now sources sinks scripts outcomes taken → IfSome now (λ n. ((k : ℕ) (s : K) → slice_get taken k ≡ Some s → IsFile n (label s)) → all ≡ true)
      → (all ≡ true → P) → IfSome files (λ m. P)
  no_close_failed None now all P h sure go = tt
  no_close_failed (Some m) now all P h sure go =
      let c = h.created in
      go (subst (λ (o : Option Files). IfSome o (λ (n : Files). ((k : ℕ) (s : K) → slice_get taken k ≡ Some s → IsFile n (label s)) → all ≡ true)) c.1 sure (labels_there m c.0 (told_now m c.0 now c.1 h) c.2))

  pub ran_on : KeepsByEnds → (files now next last : Option Files) (said said' said'' : Option (List ℕ)) (is_steady all : Bool) (status : ℕ) → HaveAllEnded written label f files now sources sinks scripts outcomes taken → last ≡ next → said' ≡ said
      → (all ≡ true → IfSome now (λ n. (after : Files) × (next ≡ Some after) × AreClosed written label n taken after))
      → IfSome now (λ n. (after : Files) × (next ≡ Some after) × AreClosedOrKept written label n taken after)
      → (is_steady ≡ true → IfSome now (λ n. ((k : ℕ) (s : K) → slice_get taken k ≡ Some s → IsFile n (label s)) → all ≡ true))
      → (told : List ℕ) × (said'' ≡ appended told said') × SaysAfter (map ending_of outcomes) status told → (status ≢ 3 → all ≡ true) → (is_steady ≡ true → all ≡ true → status ≢ 3)
      → RanOn f files last said said'' sources sinks is_steady scripts status
  ran_on law files now next last said said' said'' is_steady all status h same quiet closed kept sure (told, is, says) whole no_fault = record {
    says = (
      told,
      is ∙ ap (appended told) quiet,
      inr (
        map ending_of outcomes,
        record {
          count = map_length ending_of outcomes ∙ h.count;
          causes = caused files now h;
          closed = λ other. subst (λ (o : Option Files). IfSome files (λ m. (after : Files) × (o ≡ Some after) × HaveEnded f m scripts (map ending_of outcomes) after)) (sym same) (all_closed_told files now next h (closed (whole other)));
        },
        says,
      ),
    );
    keeps = subst (λ (o : Option Files). KeepsPaths f files o scripts) (sym same) (all_kept law files now next h kept);
    sure = λ steady. no_close_failed files now all (status ≢ 3) h (sure steady) (no_fault steady);
  }

-- a close failed, or what came after it
pub rose_on : (a b c : ℕ) (all : Bool) → a ≤ b → b ≤ c → (all ≡ false → Rose a b) → (all ≡ true → Rose b c) → Rose a c
rose_on a b c true le le' before after = omega (arith, le, after refl)
rose_on a b c false le le' before after = omega (arith, le', before refl)

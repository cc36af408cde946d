-- Outputs that were made, and closed with nothing written to them.
use Rattle.std.proofs.Common.{◌≡◌, ◌≢◌, ◌⊎◌, ◌<◌, ◌≤◌, ◌++◌, ◌∷◌, [], ℕ, zero, suc, Bool, List, Option, Some, None, IfSome, inl, inr, length, map, take, get_or, slice_get, length-take, refl, sym, ap, subst, ◌∙◌, arith}
use Rattle.std.specs.Prelude.{codes, Result, Err}
use Rattle.std.proofs.lemmas.Bool.{cases_order, cases_lt}
use Rattle.std.proofs.lemmas.List.{append_cancel_right}
use Rattle.std.proofs.lemmas.Option.{slice_get-get_or, slice_get_within}
use Rattle.std.specs.FinMap as map_of
use Rattle.dep_form.specs.declared.facts.Facts.{Facts}
use Rattle.edge_io.specs.Files.{Files, HasFile, IsFile, IsFolder}
use Rattle.words.specs.Scripts.{output_of, AreScripts}
use Rattle.run_form.specs.Outputs.{HasOutputs, AreFiles, AreFree, IsFirstFolder, IsPathFault, no_script, no_output, no_text, text_of}
use Rattle.run_form.specs.Endings.{HasBeginning, KeepsOthers}
use Rattle.serving.specs.Ends.{ArePaired, no_pair, a_pair, IsOpened, AreOpened, IsMade, AreMade, AreCreated, AreApart, AreClosedOrKept}
use Rattle.serving.specs.Served.{KeepsPaths}
use Rattle.serving.specs.declared.opening.Stop.{Stop}
use Rattle.serving.proofs.MadeOutputs.{is_empty, a_text}
use Rattle.serving.proofs.Places.{take_old, take_from}

pub some_same : {A : Type 0} (x y : A) → Some x ≡ Some y → x ≡ y
some_same x y e = cc

-- why a call of ours was refused
pub same_stop : {A : Type 0} (s t : Stop) → ◌≡◌ {A = Result A Stop} (Err s) (Err t) → s ≡ t
same_stop s t e = cc

-- ---- places

pub at_any : {A : Type 0} (xs : List A) (k : ℕ) (x : A) → slice_get xs k ≡ Some x → (d : A) → get_or xs k d ≡ x
at_any xs k x at d = some_same (get_or xs k d) x (sym (slice_get-get_or xs k d (slice_get_within xs k x at)) ∙ at)

pub there_at : {A : Type 0} (xs : List A) (k : ℕ) → k < length xs → (x : A) × (slice_get xs k ≡ Some x)
there_at [] k lt = absurd (omega (arith, lt))
there_at (x ∷ xs) zero lt = (x, refl)
there_at (x ∷ xs) (suc k) lt = there_at xs k (omega (arith, lt))

take_within : {A : Type 0} (xs : List A) (n k : ℕ) (x : A) → slice_get (take n xs) k ≡ Some x → k < n
take_within xs n k x at = omega (arith, slice_get_within (take n xs) k x at, length-take n xs)

pub paired_there : {A B : Type 0} {P : A → B → Type 0} {xs : List A} {ys : List B} → ArePaired P xs ys → (k : ℕ) (x : A) → slice_get xs k ≡ Some x → (y : B) × (slice_get ys k ≡ Some y) × P x y
paired_there no_pair zero x e = absurd cc
paired_there no_pair (suc k) x e = absurd cc
paired_there {A} {B} {P} (a_pair {x = u} {y = v} p r) zero x e = (v, refl, subst (λ (a : A). P a v) (some_same u x e) p)
paired_there (a_pair p r) (suc k) x e = paired_there r k x e

pub paired_back : {A B : Type 0} {P : A → B → Type 0} {xs : List A} {ys : List B} → ArePaired P xs ys → (k : ℕ) (y : B) → slice_get ys k ≡ Some y → (x : A) × (slice_get xs k ≡ Some x) × P x y
paired_back no_pair zero y e = absurd cc
paired_back no_pair (suc k) y e = absurd cc
paired_back {A} {B} {P} (a_pair {x = u} {y = v} p r) zero y e = (u, refl, subst (λ (b : B). P u b) (some_same v y e) p)
paired_back (a_pair p r) (suc k) y e = paired_back r k y e

-- ---- outputs of scripts that are apart

pub one_output : (a b : List ℕ) → output_of a ≡ output_of b → a ≡ b
one_output a b e = append_cancel_right a b (codes ".out") e

pub one_place : (scripts : List (List ℕ)) → AreScripts scripts → (j k : ℕ) (a b : List ℕ) → slice_get scripts j ≡ Some a → slice_get scripts k ≡ Some b → a ≡ b → j ≡ k
one_place scripts are j k a b at bt e = by (cases_order j k)
  where
    by : (j ≡ k) ⊎ ((j < k) ⊎ (k < j)) → j ≡ k
    by (inl s) = s
    by (inr (inl lt)) = absurd ((are.apart j k a lt (slice_get_within scripts k b bt)).0 (at_any scripts j a at a ∙ (e ∙ sym (at_any scripts k b bt a))))
    by (inr (inr lt)) = absurd ((are.apart k j a lt (slice_get_within scripts j a at)).0 (at_any scripts k b bt a ∙ (sym e ∙ sym (at_any scripts j a at a))))

-- ---- sinks of outputs that were made

module _ {K : Type 0} (written : K → Option (List ℕ)) (label : K → List ℕ) (steady : K → Bool) where
  -- no two have one label
  pub made_apart : (files : Option Files) (sinks : List ℕ → Bool) (all scripts : List (List ℕ)) (made : List K) → AreScripts all → ((k : ℕ) (script : List ℕ) → slice_get scripts k ≡ Some script → slice_get all k ≡ Some script)
      → AreMade written label steady files sinks scripts made → AreApart written label made
  made_apart files sinks all scripts made are within pairs j k s t at bt e =
      let a = paired_back pairs j s at in
      let b = paired_back pairs k t bt in
      one_place all are j k a.0 b.0 (within j a.0 a.1) (within k b.0 b.1) (one_output a.0 b.0 (sym a.2.output ∙ (e ∙ b.2.output)))

  -- outputs to which nothing was written are empty, closed or not
  still : (sinks : List ℕ → Bool) (scripts : List (List ℕ)) (made : List K) (m n after : Files) → AreMade written label steady (Some m) sinks scripts made → HasOutputs m scripts (map no_text scripts) n
      → AreClosedOrKept written label n made after → HasOutputs m scripts (map no_text scripts) after
  still sinks scripts made m n after pairs outputs kept = record {
    count = outputs.count;
    there = λ k script bytes at text.
        let s = paired_there pairs k script at in
        let none : bytes ≡ [] = is_empty scripts k bytes text in
        let before : HasFile n (output_of script) [] = outputs.there k script [] at (a_text scripts k script at) in
        subst (λ (b : List ℕ). HasFile after (output_of script) b) (sym none) (by s.0 script s.2.output before (kept.there k s.0 [] s.1 s.2.tells));
    others = λ path away. kept.others path (λ k s at e. let p = paired_back pairs k s at in away k p.0 p.1 (e ∙ p.2.output)) ∙ outputs.others path away;
  }
    where
      by : (s : K) (script : List ℕ) → label s ≡ output_of script → HasFile n (output_of script) [] → HasFile after (label s) [] ⊎ (map_of.get after (label s) ≡ map_of.get n (label s)) → HasFile after (output_of script) []
      by s script is before (inl f) = subst (λ (p : List ℕ). HasFile after p []) is f
      by s script is before (inr e) = subst (λ (p : List ℕ). map_of.get after p ≡ map_of.get n p) is e ∙ before

  pub created_still : (files : Option Files) (sinks : List ℕ → Bool) (scripts : List (List ℕ)) (made : List K) (now next : Option Files) → AreMade written label steady files sinks scripts made → AreCreated scripts files now
      → IfSome now (λ n. (after : Files) × (next ≡ Some after) × AreClosedOrKept written label n made after) → AreCreated scripts files next
  created_still None sinks scripts made now next pairs created kept = tt
  created_still (Some m) sinks scripts made now next pairs (n, is, outputs) kept =
      let k : (after : Files) × (next ≡ Some after) × AreClosedOrKept written label n made after =
      subst (λ (o : Option Files). IfSome o (λ (x : Files). (after : Files) × (next ≡ Some after) × AreClosedOrKept written label x made after)) is kept in
      (k.0, k.1, still sinks scripts made m n k.0 pairs outputs k.2)

-- ---- scripts that are open

pub are_files : {S : Type 0} (left : S → Option (List ℕ)) (steady : S → Bool) (files : Option Files) (sources : List ℕ → Bool) (scripts : List (List ℕ)) (opened : List S) → AreOpened left steady files sources scripts opened → IfSome files (λ m. AreFiles m scripts)
are_files left steady None sources scripts opened pairs = tt
are_files left steady (Some m) sources scripts opened pairs = λ k script at. let s = paired_there pairs k script at in (s.2.tells.0, s.2.tells.1)

-- ---- what is kept

pub unchanged : (f : Facts) (files now : Option Files) (all : List (List ℕ)) → now ≡ files → KeepsPaths f files now all
unchanged f None now all e = tt
unchanged f (Some m) now all e = (m, e, record { others = λ path away. refl; outputs = λ k script at. inl refl })

made_outputs : (f : Facts) (m after : Files) (all : List (List ℕ)) (n : ℕ) → AreScripts all → AreFiles m all → HasOutputs m (take n all) (map no_text (take n all)) after → KeepsOthers f m all after
made_outputs f m after all n are files outputs = record {
  others = λ path away. outputs.others path (λ k script at. away k script (take_from all n k script at));
  outputs = λ k script at. by k script at (cases_lt k n);
}
  where
    by : (k : ℕ) (script : List ℕ) → slice_get all k ≡ Some script → (k < n) ⊎ (n ≤ k) → (map_of.get after (output_of script) ≡ map_of.get m (output_of script)) ⊎ HasBeginning f m script after
    by k script at (inl lt) =
        let early = take_old all n k script lt at in
        let file : IsFile m script = files k script at in
        inr (record {
          bytes = file.0;
          there = file.1;
          part = [];
          output = outputs.there k script [] early (a_text (take n all) k script early);
          begins = λ answers these. (text_of f answers, refl);
        })
    by k script at (inr late) = inl (outputs.others (output_of script) (λ j other there e.
        let same : j ≡ k = one_place all are j k other script (take_from all n j other there) at (sym (one_output script other e)) in
        omega (arith, same, late, take_within all n j other there)))

-- outputs of some of the scripts were made
pub made_keeps : (f : Facts) (files now : Option Files) (all : List (List ℕ)) (n : ℕ) → AreScripts all → IfSome files (λ m. AreFiles m all) → AreCreated (take n all) files now → KeepsPaths f files now all
made_keeps f None now all n are told created = tt
made_keeps f (Some m) now all n are told (after, is, outputs) = (after, is, made_outputs f m after all n are told outputs)

-- .. of all of them
all_made : (f : Facts) (m after : Files) (all : List (List ℕ)) → AreFiles m all → HasOutputs m all (map no_text all) after → KeepsOthers f m all after
all_made f m after all files outputs = record {
  others = outputs.others;
  outputs = λ k script at.
      let file : IsFile m script = files k script at in
      inr (record { bytes = file.0; there = file.1; part = []; output = outputs.there k script [] at (a_text all k script at); begins = λ answers these. (text_of f answers, refl) });
}

pub all_made_keeps : (f : Facts) (files now : Option Files) (all : List (List ℕ)) → IfSome files (λ m. AreFiles m all) → AreCreated all files now → KeepsPaths f files now all
all_made_keeps f None now all told created = tt
all_made_keeps f (Some m) now all told (after, is, outputs) = (after, is, all_made f m after all told outputs)

-- ---- why a path isn't what is wanted

pub no_script_there : (files now : Option Files) (all : List (List ℕ)) → now ≡ files → IfSome files (λ m. (k : ℕ) × (script : List ℕ) × (slice_get all k ≡ Some script) × (IsFile m script → ⊥))
    → IfSome files (λ m. (after : Files) × (now ≡ Some after) × IsPathFault m all after)
no_script_there None now all e gone = tt
no_script_there (Some m) now all e (k, script, at, gone) = (m, e, no_script k script at gone)

pub no_output_there : (files now : Option Files) (all : List (List ℕ)) → IfSome files (λ m. AreFiles m all) → (n : ℕ) → AreCreated (take n all) files now → IfSome files (λ m. IsFirstFolder m all n)
    → IfSome files (λ m. (after : Files) × (now ≡ Some after) × IsPathFault m all after)
no_output_there None now all told n created first = tt
no_output_there (Some m) now all told n (after, is, outputs) first = (after, is, no_output {k = n} told first outputs)

-- Outputs that are made one after another.
use Rattle.std.proofs.Common.{◌≡◌, ◌⊎◌, ◌<◌, ◌+◌, ◌++◌, ◌∷◌, [], ℕ, suc, Bool, true, false, cond, List, Option, Some, None, IfSome, inl, inr, length, map, take, get_or, slice_get, refl, sym, ap, subst, ◌∙◌, arith}
use Rattle.std.proofs.lemmas.Cmp.{eq_by_cmp_equiv, nat_list_cmp_total}
use Rattle.std.proofs.lemmas.Option.{slice_get-map}
use Rattle.std.specs.FinMap as map_of
use Rattle.std.specs.FinMap.{get-insert}
use Rattle.std.specs.Option.{option_map}
use Rattle.edge_io.specs.declared.host.Entry.{Entry}
use Rattle.edge_io.specs.declared.host.Entry.TheVariants.{Folder, File}
use Rattle.edge_io.specs.Files.{Files, HasFile, IsFolder, file_set}
use Rattle.edge_io.proofs.Places.{insert_keeps}
use Rattle.words.specs.Scripts.{output_of}
use Rattle.run_form.specs.Outputs.{HasOutputs, AreFree, IsFirstFolder, no_text}
use Rattle.serving.specs.Ends.{AreCreated, IsMade, AreMade}
use Rattle.serving.proofs.Places.{snoc_cases, snoc_last, snoc_old, take_old, take_next, there_is, within, paired_next}

pub set_there : (m : Files) (path bytes : List ℕ) → HasFile (file_set m path bytes) path bytes
set_there m path bytes =
    map_of.get-insert nat_list_cmp_total m path (File bytes) path ∙ ap (λ (b : Bool). cond b (Some (File bytes)) (map_of.get m path)) ((eq_by_cmp_equiv nat_list_cmp_total).refl path)

-- what has these bytes at a path still has them after these bytes were put anywhere
set_keeps : (m : Files) (path q bytes : List ℕ) → HasFile m q bytes → HasFile (file_set m path bytes) q bytes
set_keeps m path q bytes h = map_of.get-insert nat_list_cmp_total m path (File bytes) q ∙ either _ h
  where
    either : (b : Bool) → map_of.get m q ≡ Some (File bytes) → cond b (Some (File bytes)) (map_of.get m q) ≡ Some (File bytes)
    either true e = refl
    either false e = e

-- a path has no folder where it has a file
not_both : (m : Files) (path bytes : List ℕ) → HasFile m path bytes → IsFolder m path → ⊥
not_both m path bytes h f = absurd (let e : ◌≡◌ {A = Option Entry} (Some (File bytes)) (Some Folder) = sym h ∙ f in cc)

length_map : {A B : Type 0} (f : A → B) (xs : List A) → length (map f xs) ≡ length xs
length_map f [] = refl
length_map f (x ∷ xs) = ap suc (length_map f xs)

-- every text of outputs that were only made is empty
pub is_empty : (scripts : List (List ℕ)) (k : ℕ) (bytes : List ℕ) → slice_get (map no_text scripts) k ≡ Some bytes → bytes ≡ []
is_empty scripts k bytes e = by (slice_get scripts k) (sym (slice_get-map no_text scripts k) ∙ e)
  where
    by : (o : Option (List ℕ)) → option_map no_text o ≡ Some bytes → bytes ≡ []
    by None e = absurd cc
    by (Some s) e = sym cc

pub a_text : (scripts : List (List ℕ)) (k : ℕ) (script : List ℕ) → slice_get scripts k ≡ Some script → slice_get (map no_text scripts) k ≡ Some []
a_text scripts k script e = slice_get-map no_text scripts k ∙ ap (option_map no_text) e

module _ (m n : Files) (done : List (List ℕ)) (outputs : HasOutputs m done (map no_text done) n) (script : List ℕ) where
  -- one more output
  pub made_more : HasOutputs m (done ++ script ∷ []) (map no_text (done ++ script ∷ [])) (file_set n (output_of script) [])
  made_more = record {
    count = length_map no_text (done ++ script ∷ []);
    there = λ k one bytes at text.
        let none : bytes ≡ [] = is_empty (done ++ script ∷ []) k bytes text in
        subst (λ b. HasFile (file_set n (output_of script) []) (output_of one) b) (sym none) (by k one (snoc_cases done script k one at));
    others = λ path away.
        insert_keeps n (output_of script) (File []) path (away (length done) script (snoc_last done script))
        ∙ outputs.others path (λ k one at. away k one (snoc_old done script k one at));
  }
    where
      by : (k : ℕ) (one : List ℕ) → (slice_get done k ≡ Some one) ⊎ (script ≡ one) → HasFile (file_set n (output_of script) []) (output_of one) []
      by k one (inl at) = set_keeps n (output_of script) (output_of one) [] (outputs.there k one [] at (a_text done k one at))
      by k one (inr e) = subst (λ s. HasFile (file_set n (output_of script) []) (output_of s) []) e (set_there n (output_of script) [])

  -- a folder at the next output was there before
  pub folder_before : IsFolder n (output_of script) → IsFolder m (output_of script)
  folder_before f = sym (outputs.others (output_of script) (λ k one at e. not_both n (output_of one) [] (outputs.there k one [] at (a_text done k one at)) (subst (IsFolder n) e f))) ∙ f

  -- .. and one that was there before, where none stood at the outputs that were made, is there
  pub folder_still : AreFree m done → IsFolder m (output_of script) → IsFolder n (output_of script)
  folder_still free f = outputs.others (output_of script) (λ k one at e. free k one at (subst (IsFolder m) e f)) ∙ f

  pub free_more : AreFree m done → (IsFolder n (output_of script) → ⊥) → AreFree m (done ++ script ∷ [])
  free_more free away k one at f = by (snoc_cases done script k one at)
    where
      by : (slice_get done k ≡ Some one) ⊎ (script ≡ one) → ⊥
      by (inl old) = free k one old f
      by (inr e) = away (folder_still free (subst (λ s. IsFolder m (output_of s)) (sym e) f))

-- nothing is made yet
pub made_none : (files now : Option Files) → now ≡ files → AreCreated [] files now
made_none None now e = tt
made_none (Some m) now e = (m, e, record { count = refl; there = λ k one bytes at text. absurd (omega (arith, within [] k one at)); others = λ path away. refl })

pub free_none : (files : Option Files) → IfSome files (λ m. AreFree m [])
free_none None = tt
free_none (Some m) = λ k one at f. absurd (omega (arith, within [] k one at))

module _ (files now : Option Files) (scripts : List (List ℕ)) (i : ℕ) (script : List ℕ) (lt : i < length scripts) (there : (d : List ℕ) → get_or scripts i d ≡ script) (so : AreCreated (take i scripts) files now) where
  pub created_next : (after : Option Files) → after ≡ option_map (λ m. file_set m (output_of script) []) now → AreCreated (take (i + 1) scripts) files after
  created_next after e = subst (λ ss. AreCreated ss files after) (sym (take_next scripts i script lt there)) (by files so)
    where
      by : (o : Option Files) → AreCreated (take i scripts) o now → AreCreated (take i scripts ++ script ∷ []) o after
      by None s = tt
      by (Some m) (n, is, outputs) =
          (file_set n (output_of script) [], e ∙ ap (option_map (λ (f : Files). file_set f (output_of script) [])) is, made_more m n (take i scripts) outputs script)

  pub free_next : IfSome files (λ m. AreFree m (take i scripts)) → IfSome now (λ m. IsFolder m (output_of script) → ⊥) → IfSome files (λ m. AreFree m (take (i + 1) scripts))
  free_next free away = by files so free
    where
      by : (o : Option Files) → AreCreated (take i scripts) o now → IfSome o (λ m. AreFree m (take i scripts)) → IfSome o (λ m. AreFree m (take (i + 1) scripts))
      by None s f = tt
      by (Some m) (n, is, outputs) f =
          let gone : IsFolder n (output_of script) → ⊥ = subst (λ (o : Option Files). IfSome o (λ (m : Files). IsFolder m (output_of script) → ⊥)) is away in
          subst (λ ss. AreFree m ss) (sym (take_next scripts i script lt there)) (free_more m n (take i scripts) outputs script f gone)

  pub first_folder : IfSome files (λ m. AreFree m (take i scripts)) → IfSome now (λ m. IsFolder m (output_of script)) → IfSome files (λ m. IsFirstFolder m scripts i)
  first_folder free folder = by files so free
    where
      by : (o : Option Files) → AreCreated (take i scripts) o now → IfSome o (λ m. AreFree m (take i scripts)) → IfSome o (λ m. IsFirstFolder m scripts i)
      by None s f = tt
      by (Some m) (n, is, outputs) f = record {
        script = script;
        there = there_is scripts i script lt there;
        folder = folder_before m n (take i scripts) outputs script (subst (λ (o : Option Files). IfSome o (λ (m : Files). IsFolder m (output_of script))) is folder);
        before = λ j other less at. f j other (take_old scripts i j other less at);
      }

-- one more sink
pub sink_next : {K : Type 0} (written : K → Option (List ℕ)) (label : K → List ℕ) (steady : K → Bool) (files now : Option Files) (sinks sinks' : List ℕ → Bool) (scripts : List (List ℕ)) (i : ℕ) (script : List ℕ) (made made' : List K) (s : K)
    → i < length scripts → ((d : List ℕ) → get_or scripts i d ≡ script) → AreCreated (take i scripts) files now → sinks' ≡ sinks
    → AreMade written label steady files sinks (take i scripts) made → IsMade written label steady now sinks' script s → made' ≡ made ++ s ∷ [] → AreMade written label steady files sinks (take (i + 1) scripts) made'
sink_next written label steady files now sinks sinks' scripts i script made made' s lt there so alike before is e =
    paired_next (IsMade written label steady files sinks) scripts i script made made' s lt there before (by files so) e
  where
    by : (o : Option Files) → AreCreated (take i scripts) o now → IsMade written label steady o sinks script s
    by None c = record { tells = tt; output = is.output; steadiness = is.steadiness ∙ ap (λ (f : List ℕ → Bool). f (output_of script)) alike }
    by (Some m) (n, told, outputs) = record {
      tells = subst (λ (o : Option Files). IfSome o (λ (m : Files). written s ≡ Some [])) told is.tells;
      output = is.output;
      steadiness = is.steadiness ∙ ap (λ (f : List ℕ → Bool). f (output_of script)) alike;
    }

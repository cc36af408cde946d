-- The files of scripts and outputs, opened, made and closed.
use Rattle.std.specs.Prelude.{◌≡◌, ◌≢◌, ◌⊎◌, ℕ, Bool, List, [], ◌∷◌, map, Option, Some, IfSome, slice_get}
use Rattle.std.specs.FinMap as map_of
use Rattle.edge_io.specs.Files.{Files, HasFile}
use Rattle.words.specs.Scripts.{output_of}
use Rattle.run_form.specs.Outputs.{HasOutputs, no_text}

-- the items of two lists stand for one another, place by place
module _ {A B : Type 0} (P : A → B → Type 0) where
  pub data ArePaired : List A → List B → Type 0 where
    no_pair : ArePaired [] []
    a_pair : {x : A} {y : B} {xs : List A} {ys : List B} → P x y → ArePaired xs ys → ArePaired (x ∷ xs) (y ∷ ys)

module _ {S : Type 0} (left : S → Option (List ℕ)) (steady : S → Bool) where
  -- the source is over the bytes of the script's file, and as steady as the host says
  pub record IsOpened (files : Option Files) (sources : List ℕ → Bool) (script : List ℕ) (s : S) : Type 0 where
    pub tells : IfSome files (λ m. (bytes : List ℕ) × HasFile m script bytes × (left s ≡ Some bytes))
    pub steadiness : steady s ≡ sources script

  -- a source over each script, in order
  abbrev pub AreOpened : Option Files → (List ℕ → Bool) → List (List ℕ) → List S → Type 0
  AreOpened files sources scripts opened = ArePaired (IsOpened files sources) scripts opened

-- these outputs are there, empty, and every other path has what it had
abbrev pub AreCreated : List (List ℕ) → Option Files → Option Files → Type 0
AreCreated scripts files files_after = IfSome files (λ m. (after : Files) × (files_after ≡ Some after) × HasOutputs m scripts (map no_text scripts) after)

module _ {K : Type 0} (written : K → Option (List ℕ)) (label : K → List ℕ) (steady : K → Bool) where
  -- nothing is written to the sink of the script's output, which is as steady as the host says
  pub record IsMade (files : Option Files) (sinks : List ℕ → Bool) (script : List ℕ) (s : K) : Type 0 where
    pub tells : IfSome files (λ m. written s ≡ Some [])
    pub output : label s ≡ output_of script
    pub steadiness : steady s ≡ sinks (output_of script)

  -- a sink for each script's output, in order
  abbrev pub AreMade : Option Files → (List ℕ → Bool) → List (List ℕ) → List K → Type 0
  AreMade files sinks scripts made = ArePaired (IsMade files sinks) scripts made

module _ {K : Type 0} (written : K → Option (List ℕ)) (label : K → List ℕ) where
  -- no two sinks have one label
  abbrev pub AreApart : List K → Type 0
  AreApart sinks = (j k : ℕ) (s t : K) → slice_get sinks j ≡ Some s → slice_get sinks k ≡ Some t → label s ≡ label t → j ≡ k

  -- the file at the sink's label holds what was written, where the sink tells; others have what they had
  abbrev pub IsClosed : K → Option Files → Option Files → Type 0
  IsClosed s files files_after = IfSome files (λ m. (after : Files) × (files_after ≡ Some after)
      × ((path : List ℕ) → path ≢ label s → map_of.get after path ≡ map_of.get m path) × IfSome (written s) (λ w. HasFile after (label s) w))

  -- .. at the label of each of the sinks
  pub record AreClosed (before : Files) (closed : List K) (after : Files) : Type 0 where
    pub others : (path : List ℕ) → ((k : ℕ) (s : K) → slice_get closed k ≡ Some s → path ≢ label s) → map_of.get after path ≡ map_of.get before path
    pub there : (k : ℕ) (s : K) (bytes : List ℕ) → slice_get closed k ≡ Some s → written s ≡ Some bytes → HasFile after (label s) bytes

  -- .. or what it had, where a close failed
  pub record AreClosedOrKept (before : Files) (closed : List K) (after : Files) : Type 0 where
    pub others : (path : List ℕ) → ((k : ℕ) (s : K) → slice_get closed k ≡ Some s → path ≢ label s) → map_of.get after path ≡ map_of.get before path
    pub there : (k : ℕ) (s : K) (bytes : List ℕ) → slice_get closed k ≡ Some s → written s ≡ Some bytes →
        (HasFile after (label s) bytes) ⊎ (map_of.get after (label s) ≡ map_of.get before (label s))

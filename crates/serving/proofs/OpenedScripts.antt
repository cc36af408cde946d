-- Scripts that are opened one after another.
use Rattle.std.proofs.Common.{◌≡◌, ◌<◌, ◌+◌, ◌++◌, ◌∷◌, [], ℕ, Bool, List, Option, Some, None, IfSome, length, take, get_or, slice_get, subst}
use Rattle.edge_io.specs.Files.{Files, IsFile}
use Rattle.serving.specs.Ends.{IsOpened, AreOpened}
use Rattle.serving.proofs.Places.{paired_next, there_is}

module _ {S : Type 0} (left : S → Option (List ℕ)) (steady : S → Bool) (files now : Option Files) (sources sources' : List ℕ → Bool) (same : now ≡ files) (alike : sources' ≡ sources)
    (scripts : List (List ℕ)) (i : ℕ) (script : List ℕ) (lt : i < length scripts) (there : (d : List ℕ) → get_or scripts i d ≡ script) where
  pub opened_more : (opened opened' : List S) → AreOpened left steady files sources (take i scripts) opened
      → (s : S) × IsOpened left steady now sources' script s × (opened' ≡ opened ++ s ∷ []) → AreOpened left steady files sources (take (i + 1) scripts) opened'
  opened_more opened opened' so (s, is, e) =
      paired_next (IsOpened left steady files sources) scripts i script opened opened' s lt there so
      (subst (λ (o : Option Files). IsOpened left steady o sources script s) same (subst (λ (t : List ℕ → Bool). IsOpened left steady now t script s) alike is)) e

  pub no_file : IfSome now (λ m. IsFile m script → ⊥) → IfSome files (λ m. (k : ℕ) × (one : List ℕ) × (slice_get scripts k ≡ Some one) × (IsFile m one → ⊥))
  no_file gone = by_files files (subst (λ (o : Option Files). IfSome o (λ (m : Files). IsFile m script → ⊥)) same gone)
    where
      by_files : (o : Option Files) → IfSome o (λ m. IsFile m script → ⊥) → IfSome o (λ m. (k : ℕ) × (one : List ℕ) × (slice_get scripts k ≡ Some one) × (IsFile m one → ⊥))
      by_files None n = tt
      by_files (Some m) n = (i, script, there_is scripts i script lt there, n)

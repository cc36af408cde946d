-- Outputs with the same texts are the same files.
use Rattle.std.proofs.Common.{◌≡◌, ◌≢◌, ◌⊎◌, ℕ, zero, suc, List, [], ◌∷◌, Option, Some, length, slice_get, refl, sym, ap, ◌∙◌, inl, inr, arith, unwrap_or}
use Rattle.std.specs.FinMap as map
use Rattle.edge_io.specs.Files.{Files, HasFile}
use Rattle.session_form.proofs.SomePlaces.{same_bytes}
use Rattle.words.specs.Scripts.{output_of}
use Rattle.run_form.specs.Outputs.{HasOutputs, IsNoOutput}

-- the path is where the replies to one of the scripts go
abbrev IsOutput : List (List ℕ) → List ℕ → Type 0
IsOutput scripts path = (k : ℕ) × (script : List ℕ) × (slice_get scripts k ≡ Some script) × (path ≡ output_of script)

one_some : (a b : List ℕ) → Some a ≡ Some b → a ≡ b
one_some a b same = ap (λ (o : Option (List ℕ)). unwrap_or o a) same

later : (x : List ℕ) (xs : List (List ℕ)) (path : List ℕ) → path ≢ output_of x → IsNoOutput xs path → IsNoOutput (x ∷ xs) path
later x xs path other rest zero script at e = other (e ∙ ap (λ (s : List ℕ). output_of s) (sym (one_some x script at)))
later x xs path other rest (suc k) script at e = rest k script at e

find_output : (scripts : List (List ℕ)) (path : List ℕ) → IsOutput scripts path ⊎ IsNoOutput scripts path
find_output [] path = inr (λ k script at e. absurd (cc at))
find_output (x ∷ xs) path = elim (same_bytes path (output_of x)) [
  | inl e ↦ inl (0, x, refl, e)
  | inr other ↦ elim (find_output xs path) [
    | inl there ↦ inl (suc there.0, there.1, there.2, there.3)
    | inr none ↦ inr (later x xs path other none)
  ]
]

-- what stands in a list at a place of another one that is as long
at_place : (xs ys : List (List ℕ)) (k : ℕ) (x : List ℕ) → length ys ≡ length xs → slice_get xs k ≡ Some x → (y : List ℕ) × (slice_get ys k ≡ Some y)
at_place [] ys k x same at = absurd (cc at)
at_place (a ∷ xs) [] k x same at = absurd (omega (arith, same))
at_place (a ∷ xs) (b ∷ ys) zero x same at = (b, refl)
at_place (a ∷ xs) (b ∷ ys) (suc k) x same at = at_place xs ys k x (omega (arith, same)) at

pub one_writing : (m : Files) (scripts texts : List (List ℕ)) (a b : Files) → HasOutputs m scripts texts a → HasOutputs m scripts texts b → (path : List ℕ) → map.get a path ≡ map.get b path
one_writing m scripts texts a b first second path = elim (find_output scripts path) [
  | inl there ↦
      let text = at_place scripts texts there.0 there.1 first.count there.2 in
      let here : HasFile a (output_of there.1) text.0 = first.there there.0 there.1 text.0 there.2 text.1 in
      let same : HasFile b (output_of there.1) text.0 = second.there there.0 there.1 text.0 there.2 text.1 in
      ap (λ (p : List ℕ). map.get a p) there.3 ∙ here ∙ sym same ∙ ap (λ (p : List ℕ). map.get b p) (sym there.3)
  | inr none ↦ first.others path none ∙ sym (second.others path none)
]

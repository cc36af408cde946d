-- One sink more that is closed, in the order of a list.
use Rattle.std.proofs.Common.{◌≡◌, ◌<◌, ◌≤◌, ◌+◌, ◌++◌, ◌∷◌, [], ℕ, Bool, true, false, List, Option, Some, None, IfSome, length, map, map-id, take, get_or, slice_get, refl, sym, ap, subst, ◌∙◌, arith}
use Rattle.std.proofs.lemmas.List.{take_more}
use Rattle.edge_io.specs.Faults.{Rose}
use Rattle.edge_io.specs.Files.{Files, IsFile}
use Rattle.serving.specs.Ends.{AreApart, AreClosed, AreClosedOrKept}
use Rattle.serving.proofs.ClosedSinks.{ClosedSoFar, file_still}
use Rattle.serving.proofs.Places.{take_from}

-- a fault of this close or of one before it
pub fault_next : (a b c : ℕ) (all all' : Bool) → a ≤ b → b ≤ c → (all ≡ false → Rose a b) → (all' ≡ false → all ≡ true → Rose b c) → all' ≡ false → Rose a c
fault_next a b c true all' le le' before this e = omega (arith, le, this e refl)
fault_next a b c false all' le le' before this e = omega (arith, le', before refl)

module _ {K : Type 0} (written : K → Option (List ℕ)) (label : K → List ℕ) (sinks ys : List K) (s : K) (apart : AreApart written label sinks)
    (so_far : map (λ y. y) ys ≡ take (length ys) sinks) (turn : (length ys < length sinks) × (s ≡ get_or sinks (length ys) s)) where
  up_to : ys ++ s ∷ [] ≡ take (length ys + 1) sinks
  up_to = ap (λ (ks : List K). ks ++ s ∷ []) (sym (map-id ys) ∙ so_far) ∙ (ap (λ (k : K). take (length ys) sinks ++ k ∷ []) turn.1 ∙ sym (take_more sinks (length ys) s turn.0))

  -- no two of the sinks up to the next one have one label
  pub apart_next : AreApart written label (ys ++ s ∷ [])
  apart_next j k a b at bt e =
      apart j k a b (take_from sinks (length ys + 1) j a (subst (λ (ks : List K). slice_get ks j ≡ Some a) up_to at)) (take_from sinks (length ys + 1) k b (subst (λ (ks : List K). slice_get ks k ≡ Some b) up_to bt)) e

  -- where all labels were files before, no close of a steady host fails
  pub sure_next : (files now : Option Files) (all all' : Bool) → slice_get sinks (length ys) ≡ Some s → ClosedSoFar written label files now ys all
      → IfSome files (λ m. ((k : ℕ) (t : K) → slice_get sinks k ≡ Some t → IsFile m (label t)) → all ≡ true) → (all ≡ true → IfSome now (λ a. IsFile a (label s) → all' ≡ true))
      → IfSome files (λ m. ((k : ℕ) (t : K) → slice_get sinks k ≡ Some t → IsFile m (label t)) → all' ≡ true)
  sure_next None now all all' at so before this = tt
  sure_next (Some m) now all all' at so before this = λ each.
      let still : IfSome now (λ (a : Files). IsFile a (label s)) = file_still written label (Some m) now ys s all apart_next so (each (length ys) s at) in
      let told : now ≡ Some so.0 = so.1 in
      subst (λ (o : Option Files). IfSome o (λ (a : Files). IsFile a (label s) → all' ≡ true)) told (this (before each)) (subst (λ (o : Option Files). IfSome o (λ (a : Files). IsFile a (label s))) told still)

-- all that were to be closed were
pub sure_none : (files : Option Files) (P : Files → Type 0) → IfSome files (λ m. P m → true ≡ true)
sure_none None P = tt
sure_none (Some m) P = λ p. refl

-- .. or some of them were
module _ {K : Type 0} (written : K → Option (List ℕ)) (label : K → List ℕ) (files now : Option Files) (ys : List K) (all : Bool) (so : ClosedSoFar written label files now ys all) (sinks : List K) (over : map (λ y. y) ys ≡ sinks) where
  at_end : ClosedSoFar written label files now sinks all
  at_end = subst (λ (ks : List K). ClosedSoFar written label files now ks all) (sym (map-id ys) ∙ over) so

  pub are_closed : all ≡ true → IfSome files (λ m. (after : Files) × (now ≡ Some after) × AreClosed written label m sinks after)
  are_closed e = by files at_end
    where
      by : (o : Option Files) → ClosedSoFar written label o now sinks all → IfSome o (λ m. (after : Files) × (now ≡ Some after) × AreClosed written label m sinks after)
      by None h = tt
      by (Some m) (after, is, kept, closed) = (after, is, closed e)

  pub are_kept : IfSome files (λ m. (after : Files) × (now ≡ Some after) × AreClosedOrKept written label m sinks after)
  are_kept = by files at_end
    where
      by : (o : Option Files) → ClosedSoFar written label o now sinks all → IfSome o (λ m. (after : Files) × (now ≡ Some after) × AreClosedOrKept written label m sinks after)
      by None h = tt
      by (Some m) (after, is, kept, closed) = (after, is, kept)

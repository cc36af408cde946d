-- What each class selects for each signature, as far as it was asked.
use Rattle.std.specs.Prelude.{◌≡◌, ◌⊎◌, ◌<◌, ℕ, List, All, AllPairs, Contains, Option, Some, None, length, slice_get}
use Rattle.slicer_ids.specs.declared.ids.ClassId.{ClassId}
use Rattle.slicer_ids.specs.declared.ids.MethodId.{MethodId}
use Rattle.class_form.specs.declared.class_file.ClassFile.{ClassFile}
use Rattle.hierarchy.specs.declared.tree.Select.TheVariants.{Folder, Abstract, Outside}
use Rattle.hierarchy.specs.Selections.{IsSelection}
use Rattle.constraint_form.specs.ConstraintSystems.{PairBefore}

-- a signature, a class, and the method that it selects; none where it is abstract
abbrev pub Choice : Type 0
Choice = ℕ × ClassId × Option MethodId

abbrev pub ChoiceBefore : Choice → Choice → Type 0
ChoiceBefore a b = PairBefore (a.0, a.1.0) (b.0, b.1.0)

-- the class selects it for a name and descriptor
abbrev pub IsChosen : List ClassFile → List ℕ × List ℕ → ℕ → Option MethodId → Type 0
IsChosen classes nd c None = IsSelection classes c nd.0 nd.1 Abstract
IsChosen classes nd c (Some m) = IsSelection classes c nd.0 nd.1 (Folder m)

-- .. for the signature of this number
abbrev pub IsChoiceOf : List ClassFile → List (List ℕ × List ℕ) → Choice → Type 0
IsChoiceOf classes gs x = (nd : List ℕ × List ℕ) × (slice_get gs x.0 ≡ Some nd) × (x.1.0 < length classes) × IsChosen classes nd x.1.0 x.2

-- a choice of the class for the signature is listed, or it selects none and none is
abbrev pub IsAsked : List ClassFile → List Choice → List ℕ × List ℕ → ℕ → ClassId → Type 0
IsAsked classes xs nd g c =
    ((o : Option MethodId) × Contains xs (g, c, o))
    ⊎ (((o : Option MethodId) → Contains xs (g, c, o) → ⊥) × IsSelection classes c.0 nd.0 nd.1 Outside)

-- the choices for the pairs of a signature and a class before one pair
pub record AreChoicesUpTo (classes : List ClassFile) (gs : List (List ℕ × List ℕ)) (g c : ℕ) (xs : List Choice) : Type 0 where
  pub each : All (λ (x : Choice). IsChoiceOf classes gs x × PairBefore (x.0, x.1.0) (g, c)) xs
  pub order : AllPairs ChoiceBefore xs
  pub asked : (nd : List ℕ × List ℕ) (h : ℕ) (d : ClassId) → slice_get gs h ≡ Some nd → d.0 < length classes → PairBefore (h, d.0) (g, c) → IsAsked classes xs nd h d

-- all choices, in order
pub record AreChoices (classes : List ClassFile) (gs : List (List ℕ × List ℕ)) (xs : List Choice) : Type 0 where
  pub each : All (IsChoiceOf classes gs) xs
  pub order : AllPairs ChoiceBefore xs
  pub asked : (nd : List ℕ × List ℕ) (g : ℕ) (c : ClassId) → slice_get gs g ≡ Some nd → c.0 < length classes → IsAsked classes xs nd g c

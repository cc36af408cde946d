-- Pairs of classes of which the one is a subclass of the other.
use Rattle.std.specs.Prelude.{◌<◌, ℕ, List, length}
use Rattle.slicer_ids.specs.declared.ids.ClassId.{ClassId}
use Rattle.class_form.specs.Classes.{IsSub}
use Rattle.class_form.specs.declared.class_file.ClassFile.{ClassFile}
use Rattle.constraint_form.specs.ConstraintSystems.{PairBefore}

-- by the first class, then by the second
abbrev pub ClassesBefore : ClassId × ClassId → ClassId × ClassId → Type 0
ClassesBefore a b = PairBefore (a.0.0, a.1.0) (b.0.0, b.1.0)

-- the first class of the folder is a subclass of the second
abbrev pub IsSubPair : List ClassFile → ClassId × ClassId → Type 0
IsSubPair classes p = (p.0.0 < length classes) × (p.1.0 < length classes) × IsSub classes p.0.0 p.1.0

-- .. up to a pair
abbrev pub IsSubPairUpTo : List ClassFile → ℕ → ℕ → ClassId × ClassId → Type 0
IsSubPairUpTo classes a b p = IsSubPair classes p × PairBefore (p.0.0, p.1.0) (a, b)

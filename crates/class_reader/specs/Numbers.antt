-- Texts of a pool by numbers, and the names and descriptors of members by these.
use Rattle.std.specs.Prelude.{◌≡◌, ◌⊎◌, ◌<◌, Bool, ℕ, zero, suc, List, length, map, Option, Some, None, slice_get, get_or, if◌then◌else◌, IsSome, All}
use Rattle.std.specs.List.{list_any}
use Rattle.std.specs.Str.{bytes_eq}
use Rattle.std.specs.Ordering.{nat_cmp, ordering_then, is_eq}
use Rattle.std.specs.Cmp.Lexicographic.{slice_cmp}
use Rattle.std.specs.BTreeMap as tree
use Rattle.std.specs.BTreeMap.{BTreeMap}
use Rattle.std.specs.BTreeSet as set
use Rattle.std.specs.BTreeSet.{BTreeSet}
use Rattle.std.specs.declared.cmp.Ordering.{Ordering}
use denote.Bor.{Bor}
use Rattle.class_form.specs.Pools.{utf_at}
use Rattle.class_form.specs.declared.pool.Pool.{Pool}
use Rattle.class_form.specs.declared.pool.Constant.{Constant}
use Rattle.class_form.specs.declared.pool.Constant.TheVariants.{Utf8}
use Rattle.class_form.specs.declared.class_file.Member.{Member}

-- the number of a text
abbrev pub first_in : BTreeMap (Bor (List ℕ)) ℕ → List ℕ → Option ℕ
first_in m s = tree.get_by (λ (k : Bor (List ℕ)). slice_cmp nat_cmp s k.now) m

-- a text has the number that it has, or else the next
abbrev pub IsFirst : List ℕ → ℕ → (List ℕ → Option ℕ) → (List ℕ → Option ℕ) → ℕ → Type 0
IsFirst t next old new n =
    ((s : List ℕ) → new s ≡ (if bytes_eq t s then Some n else old s)) × ((old t ≡ Some n) ⊎ ((old t ≡ None) × (n ≡ next)))

abbrev pub IsNumbered : Constant → ℕ → (List ℕ → Option ℕ) → (List ℕ → Option ℕ) → ℕ → Type 0
IsNumbered (Utf8 t) next old new n = IsFirst t next old new n
IsNumbered c next old new n = (s : List ℕ) → new s ≡ old s

-- the first constants are numbered
pub record IsNumbering (cs : List Constant) (i : ℕ) (numbers : List ℕ) (number : List ℕ → Option ℕ) : Type 0 where
  pub len : length numbers ≡ i
  pub met : (j : ℕ) (s : List ℕ) → j < i → slice_get cs j ≡ Some (Utf8 s) → number s ≡ Some (get_or numbers j 0)
  pub kept : (s : List ℕ) (n : ℕ) → number s ≡ Some n → slice_get cs n ≡ Some (Utf8 s)

-- the number of the text at an index
abbrev pub number_at : List ℕ → ℕ → ℕ
number_at numbers zero = 0
number_at numbers (suc i) = get_or numbers i 0

-- texts are equal exactly where their numbers are
abbrev pub AreNumbersOf : Pool → List ℕ → Type 0
AreNumbersOf p numbers = (i j : ℕ) (s t : List ℕ) → utf_at p i ≡ Some s → utf_at p j ≡ Some t → (number_at numbers i ≡ number_at numbers j → s ≡ t) × (s ≡ t → number_at numbers i ≡ number_at numbers j)

abbrev pub pair_cmp : ℕ × ℕ → ℕ × ℕ → Ordering
pair_cmp x y = ordering_then (nat_cmp x.0 y.0) (nat_cmp x.1 y.1)

abbrev pub has_pair : BTreeSet (ℕ × ℕ) → ℕ × ℕ → Bool
has_pair s k = set.contains pair_cmp s k

-- the numbers of a name and a descriptor
abbrev pub numbers_of : List ℕ → ℕ × ℕ → ℕ × ℕ
numbers_of numbers q = (number_at numbers q.0, number_at numbers q.1)

abbrev pub names_of : List Member → List (ℕ × ℕ)
names_of ms = map (λ m. (m.name, m.descriptor)) ms

-- the set has the numbers of these names and descriptors
abbrev pub IsSeen : List ℕ → BTreeSet (ℕ × ℕ) → List (ℕ × ℕ) → Type 0
IsSeen numbers seen names = (k : ℕ × ℕ) → has_pair seen k ≡ list_any (λ q. is_eq (pair_cmp (numbers_of numbers q) k)) names

-- names and descriptors are texts
abbrev pub AreTexts : Pool → List (ℕ × ℕ) → Type 0
AreTexts p names = All (λ q. IsSome (utf_at p q.0) × IsSome (utf_at p q.1)) names

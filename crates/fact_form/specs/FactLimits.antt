-- The limits of nodes and of the words of summaries.
use Rattle.std.specs.Prelude.{◌≡◌, ◌⊎◌, ◌<◌, ◌≤◌, ◌+◌, ◌*◌, ◌/◌, ◌^◌, ℕ, suc, List, Some, length, slice_get, sum_by}
use Rattle.slicer_ids.specs.Sets.{IsListOf}
use Rattle.slicer_ids.specs.declared.ids.MethodId.{MethodId}
use Rattle.slicer_ids.specs.declared.limits.LimitKind.TheVariants.{Nodes, MemoWords}
use Rattle.dep_form.specs.declared.rules.TooMany.{TooMany}
use Rattle.dep_form.specs.declared.rules.TooMany.TheVariants.{NoMemory, Limit}
use Rattle.dep_form.specs.Summaries.{HasSize}
use Rattle.program_form.specs.Programs.{Program}
use Rattle.program_form.specs.Effects.{Location}
use Rattle.program_form.specs.Nodes.{Kind, Formal, HeapIn, Return, Thrown, HeapOut, Node, IsNode}

-- an argument, or a location that the method uses
pub data IsFormalKind : Kind → Type 0 where
  argument : {i : ℕ} → IsFormalKind (Formal i)
  location : {l : Location} → IsFormalKind (HeapIn l)

-- what a method answers, what it throws, or a location that it changes
pub data IsExitKind : Kind → Type 0 where
  answer : IsExitKind Return
  exception : IsExitKind Thrown
  location : {l : Location} → IsExitKind (HeapOut l)

-- a formal of the method
abbrev pub IsFormalOf : Program → MethodId → Node → Type 0
IsFormalOf p m a = IsNode p a × (a.method ≡ m) × IsFormalKind a.kind

-- an exit of a method
abbrev pub IsExit : Program → Node → Type 0
IsExit p a = IsNode p a × IsExitKind a.kind

-- for each exit how many words of 64 bits have a bit for each formal of its method
pub record AreWidths (p : Program) (exits : List Node) (widths : List ℕ) : Type 0 where
  pub size : length exits ≡ length widths
  pub each : (i : ℕ) (a : Node) (w : ℕ) → slice_get exits i ≡ Some a → slice_get widths i ≡ Some w →
      (n : ℕ) × HasSize (IsFormalOf p a.method) n × (w ≡ (n + 63) / 64)

-- the words of the rows of summaries: each exit has a row for each of the two modes, a gate and the words of its width
abbrev pub IsMemoSize : Program → ℕ → Type 0
IsMemoSize p n =
    (exits : List Node) × (widths : List ℕ) × IsListOf exits (IsExit p) × AreWidths p exits widths × (n ≡ sum_by (λ w. 2 * suc w) widths)

-- nodes and words are within their limits
pub record IsWithinLimits (p : Program) : Type 0 where
  pub nodes : (n : ℕ) × HasSize (IsNode p) n × (n ≤ 2 ^ 24)
  pub words : (n : ℕ) × IsMemoSize p n × (n ≤ 2 ^ 25)

-- so many nodes, or else so many words, are too many
abbrev pub IsTooMany : Program → TooMany → Type 0
IsTooMany p NoMemory = Unit {0}
IsTooMany p (Limit kind n) =
    ((kind ≡ Nodes) × (2 ^ 24 < n) × HasSize (IsNode p) n)
    ⊎ ((kind ≡ MemoWords) × (2 ^ 25 < n) × IsMemoSize p n × ((k : ℕ) × HasSize (IsNode p) k × (k ≤ 2 ^ 24)))

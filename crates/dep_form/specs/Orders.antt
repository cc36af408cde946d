-- The orders of lists in which a look-up searches by halving, as comparisons.
use Rattle.std.specs.Prelude.{◌≡◌, ℕ, List, AllPairs}
use Rattle.std.specs.declared.cmp.Ordering.{Ordering}
use Rattle.std.specs.declared.cmp.Ordering.TheVariants.{Less}
use Rattle.std.specs.Ordering.{nat_cmp, ordering_then}
use Rattle.std.specs.Cmp.Lexicographic.{slice_cmp}
use Rattle.slicer_ids.specs.declared.ids.ClassId.{ClassId}
use Rattle.slicer_ids.specs.declared.ids.NodeId.{NodeId}
use Rattle.slicer_ids.specs.declared.ids.Statement.{Statement}

-- by method, then by program counter
abbrev pub statement_cmp : Statement → Statement → Ordering
statement_cmp a b = ordering_then (nat_cmp a.method.0 b.method.0) (nat_cmp a.pc b.pc)

-- by number
abbrev pub node_cmp : NodeId → NodeId → Ordering
node_cmp a b = nat_cmp a.0 b.0

-- by class, then by line
abbrev pub line_cmp : ClassId × ℕ → ClassId × ℕ → Ordering
line_cmp a b = ordering_then (nat_cmp a.0.0 b.0.0) (nat_cmp a.1 b.1)

-- a method by its class, name and descriptor
pub record MethodKey : Type 0 where
  pub class : ClassId
  pub name : List ℕ
  pub descriptor : List ℕ

-- by class, then by the bytes of the name, then by those of the descriptor
abbrev pub method_cmp : MethodKey → MethodKey → Ordering
method_cmp a b = ordering_then (nat_cmp a.class.0 b.class.0) (ordering_then (slice_cmp nat_cmp a.name b.name) (slice_cmp nat_cmp a.descriptor b.descriptor))

-- the keys of the list's items rise
abbrev pub RiseBy : {X K : Type 0} → (K → K → Ordering) → (X → K) → List X → Type 0
RiseBy cmp key xs = AllPairs (λ a b. cmp (key a) (key b) ≡ Less) xs

-- The nodes of methods and of the root, by what they are read from.
use Rattle.std.specs.Prelude.{◌≡◌, ◌⊎◌, ◌<◌, ℕ, suc, Bool, List, Some, Contains, count_by, length, slice_get, sum_by}
use Rattle.std.specs.Global.{Vec}
use Rattle.slicer_ids.specs.Sets.{IsOrderedListOf}
use Rattle.dep_form.specs.Constraints.{SystemHolds}
use Rattle.dep_form.specs.PointsTo.{Reached}
use Rattle.dep_form.specs.Nodes.{ComesBefore, is_exit, is_formal}
use Rattle.fact_form.specs.FactTables.{words_in}
use Rattle.slicer_ids.specs.declared.ids.MethodId.{MethodId}
use Rattle.class_form.specs.declared.body.Body.{Body}
use Rattle.dep_form.specs.declared.node.Node.{Node}
use Rattle.worklists.specs.Growth.{FromOne}
use Rattle.node_tables.specs.Statements.{AtEntry, AtEntryCall, AtExit, AtInstr}
use Rattle.node_tables.specs.declared.scene.Scene.{Scene}

-- the body of the method stands at this place
abbrev pub IsBodyAt : List Body → MethodId → ℕ → Body → Type 0
IsBodyAt bodies m k b = (slice_get bodies k ≡ Some b) × (b.method ≡ m)

-- the nodes of the statements of a method
abbrev pub AtBody : Scene → MethodId → Node → Type 0
AtBody x m n = (b : Body) × Contains x.bodies.now b × (b.method ≡ m) × FromOne (AtInstr x.system.now x.effects.now b) b.instrs n

-- the nodes of a method
abbrev pub AtMethod : Scene → MethodId → Bool → Node → Type 0
AtMethod x m answers n =
    AtEntry x.system.now x.effects.now m n ⊎ (AtBody x m n ⊎ AtExit x.system.now x.effects.now m answers n)

-- the nodes of the root
abbrev pub AtRoot : Scene → Node → Type 0
AtRoot x n = (k : ℕ) × (t : MethodId) × (slice_get x.entries.now k ≡ Some t) × AtEntryCall x.system.now x.effects.now k t n

-- the nodes of a method, where it may run
abbrev pub AtReached : Scene → MethodId → Node → Type 0
AtReached x m n =
    SystemHolds x.system.now (Reached m) × ((answers : Bool) × (slice_get x.answering.now m.0 ≡ Some answers) × AtMethod x m answers n)

-- the nodes of the root's call of this number
abbrev pub AtEntryNumber : Scene → ℕ → Node → Type 0
AtEntryNumber x k n = (t : MethodId) × (slice_get x.entries.now k ≡ Some t) × AtEntryCall x.system.now x.effects.now k t n

-- the row of each method, and last that of the root
pub record AreRows (x : Scene) (rows : List (List Node)) : Type 0 where
  pub count : length rows ≡ suc (length x.system.now.methods)
  pub methods : (m : MethodId) (ks : List Node) → m.0 < length x.system.now.methods → slice_get rows m.0 ≡ Some ks → IsOrderedListOf ComesBefore ks (AtReached x m)
  pub root : (ks : List Node) → slice_get rows (length x.system.now.methods) ≡ Some ks → IsOrderedListOf ComesBefore ks (AtRoot x)

-- so many are the nodes of which P holds
abbrev pub HasNodes : (Node → Type 0) → ℕ → Type 0
HasNodes P n = (ks : List Node) × IsOrderedListOf ComesBefore ks P × (n ≡ length ks)

-- a row of so many nodes, with so many formals and exits
pub record IsCounted (P : Node → Type 0) (nodes formals exits : ℕ) : Type 0 where
  pub row : List Node
  pub listed : IsOrderedListOf ComesBefore row P
  pub size : nodes ≡ length row
  pub formals_are : formals ≡ count_by is_formal row
  pub exits_are : exits ≡ count_by is_exit row

-- how many nodes the rows of the first methods have, and how many words
abbrev pub AreTotals : Scene → ℕ → ℕ → ℕ → Type 0
AreTotals x count nodes words =
    (rows : List (List Node)) × (length rows ≡ count)
    × ((m : MethodId) (ks : List Node) → slice_get rows m.0 ≡ Some ks → IsOrderedListOf ComesBefore ks (AtReached x m))
    × (nodes ≡ sum_by length rows) × (words ≡ sum_by words_in rows)

-- .. of all, and of the root
abbrev pub AreAllTotals : Scene → ℕ → ℕ → Type 0
AreAllTotals x nodes words = (rows : List (List Node)) × AreRows x rows × (nodes ≡ sum_by length rows) × (words ≡ sum_by words_in rows)

-- the rows of the first methods
pub record AreMethodRows (x : Scene) (rows : List (Vec Node)) (count : ℕ) : Type 0 where
  pub size : length rows ≡ count
  pub each : (m : MethodId) (row : Vec Node) → slice_get rows m.0 ≡ Some row → IsOrderedListOf ComesBefore row.items (AtReached x m)

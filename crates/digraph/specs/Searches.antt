-- A search in depth: what holds while it goes on.
use Rattle.std.specs.Prelude.{◌≡◌, ℕ, ◌+◌, ◌*◌, ◌<◌, ◌≤◌, ◌⊎◌, Bool, List, length, Contains, All, sum, count_by, not, slice_index}
use Rattle.std.specs.Global.{Vec}
use Rattle.digraph.specs.Graphs.{targets, HasEdge, IsMarked}
use Rattle.digraph.specs.Orders.{LeadsBack}

-- done: nodes whose edges were all followed, listed in `order`; met: nodes that were met; left: how many edges of a node are still
-- to be followed, from the last to the first; stack: a path of met nodes that aren't done
pub record IsSearch (g : List (Vec ℕ)) (done met : List Bool) (left order stack : List ℕ) : Type 0 where
  pub done_len : length done ≡ length g
  pub met_len : length met ≡ length g
  pub left_len : length left ≡ length g
  pub nodes : All (λ n. n < length g) order
  pub stack_nodes : All (λ n. n < length g) stack
  pub back : LeadsBack g order
  pub listed : (n : ℕ) → IsMarked done n → Contains order n
  pub some_left : (n : ℕ) → slice_index left n ≤ length (targets g n)
  pub passed : (n k : ℕ) → slice_index left n ≤ k → k < length (targets g n) → IsMarked done (slice_index (targets g n) k)
  pub waits : (n : ℕ) → IsMarked met n → IsMarked done n ⊎ Contains stack n
  pub path : (i : ℕ) → i + 1 < length stack → HasEdge g (slice_index stack i) (slice_index stack (i + 1))

-- how many steps are left, at most
abbrev pub steps_left : List Bool → List ℕ → List ℕ → ℕ
steps_left met left stack = sum left + 2 * count_by not met + length stack

-- One slice of nodes that are named in two ways, and what it needs.
use Rattle.std.proofs.Common.{◌≡◌, ◌↔◌, ◌<◌, List, Contains, All, Result, Ok, Err, sym, subst}
use Rattle.std.specs.Prelude.{OnOk}
use Rattle.std.proofs.lemmas.List.Elements.{All-contains_itself, All-weaker}
use Rattle.slicer_ids.specs.declared.ids.NodeId.{NodeId}
use Rattle.slicer_ids.specs.declared.ids.Statement.{Statement}
use Rattle.slicer_ids.specs.declared.ids.Mode.{Mode}
use Rattle.slicer_ids.specs.Sets.{IsOrderedListOf}
use Rattle.slicer_ids.specs.Order.{StatementBefore}
use Rattle.slicer_ids.proofs.GrowingOrder.{reworded}
use Rattle.dep_form.specs.declared.access.Access.{Access}
use Rattle.dep_form.specs.declared.facts.Facts.{Facts}
use Rattle.dep_form.specs.Firsts.{node_count}
use Rattle.dep_form.specs.LookUps.{IsAccessAt}
use Rattle.dep_form.specs.Slices.{ModeEdges, StatementsOf, NodesOf}
use Rattle.dep_form.proofs.Monotone.{slice-wider}
use Rattle.graph_store.specs.declared.pass.GraphPass.{GraphPass}
use Rattle.graph_store.specs.Store.{Keeps}
use Rattle.summary_memo.specs.declared.view.View.{View}
use Rattle.summary_memo.specs.Places.{gate_of}
use Rattle.summary_memo.specs.Rule.{Knows}
use Rattle.thin_slice.specs.Walks.{IsAllFetched}
use Rattle.thin_slice.proofs.Located.{node_below}
use Rattle.session_walk.specs.Knowledge.{Sees, KnowsRows, HasRows}
use Rattle.session_slices.specs.Needs.{SliceOf, HasNeeded}

pub same_slice : (f : Facts) (mode : Mode) (S T : NodeId → Type 0) → ((n : NodeId) → S n → T n) → (n : NodeId) → SliceOf f mode S n → SliceOf f mode T n
same_slice f mode S T v n h = slice-wider (ModeEdges f.inputs mode) (ModeEdges f.inputs mode) (λ e x. x) S T v n h

-- the same nodes
pub statements_reworded : (f : Facts) (P Q : NodeId → Type 0) (ss : List Statement) → ((n : NodeId) → P n ↔ Q n) → IsOrderedListOf StatementBefore ss (StatementsOf f.inputs P) → IsOrderedListOf StatementBefore ss (StatementsOf f.inputs Q)
statements_reworded f P Q ss same h = reworded StatementBefore ss (StatementsOf f.inputs P) (StatementsOf f.inputs Q) (λ s x. (x.0, (same x.0).0 x.1, x.2)) (λ s x. (x.0, (same x.0).1 x.1, x.2)) h

pub needed_reworded : (f : Facts) (mode : Mode) (P Q : NodeId → Type 0) (p : GraphPass) (v : View) → ((n : NodeId) → Q n → P n) → HasNeeded f mode P p v → HasNeeded f mode Q p v
needed_reworded f mode P Q p v back h = record {
  graphs = λ m x. h.graphs m (x.0, x.1, back x.0 x.2, x.3);
  rows = λ e x. h.rows e (x.0, x.1, back x.0 x.2);
}

-- of the seeds of a walk
pub all_needed : (f : Facts) (mode : Mode) (seeds : List NodeId) (p : GraphPass) (v : View) → IsAllFetched f mode seeds (Sees f p) (KnowsRows f mode v) → HasNeeded f mode (SliceOf f mode (Contains seeds)) p v
all_needed f mode seeds p v h = record { graphs = h.graphs; rows = h.rows }

pub needed_all : (f : Facts) (mode : Mode) (seeds : List NodeId) (p : GraphPass) (v : View) → HasNeeded f mode (SliceOf f mode (Contains seeds)) p v → IsAllFetched f mode seeds (Sees f p) (KnowsRows f mode v)
needed_all f mode seeds p v h = record { graphs = h.graphs; rows = h.rows }

-- what a session had it has later
pub needed_later : (f : Facts) (mode : Mode) (P : NodeId → Type 0) (p q : GraphPass) (v w : View) → Keeps p q → Knows v w → HasNeeded f mode P p v → HasNeeded f mode P q w
needed_later f mode P p q v w keeps knows h = record {
  graphs = λ m x. let s = h.graphs m x in (
    s.0,
    record {
      input = s.1.input;
      value = s.1.value;
      is_input = s.1.is_input;
      known = keeps.known m.0 s.1.value s.1.known;
      given = keeps.given m.0 s.0 s.1.given;
      shared = s.1.shared;
      right = s.1.right;
    },
  );
  rows = λ e x. let k = h.rows e x in (k.0, knows.gates (gate_of f e mode, k.0) k.1, k.2);
}

-- the nodes of an access's object are nodes of the facts
pub object_nodes : (f : Facts) (s : Statement) (a : Access) → IsAccessAt f s a → All (λ (n : NodeId). n.0 < node_count f.inputs) a.object
object_nodes f s a at = f.access_nodes at.0 (s, a) at.1

pub same_seeds : (f : Facts) (mode : Mode) (S T : NodeId → Type 0) → ((n : NodeId) → S n ↔ T n) → (n : NodeId) → SliceOf f mode S n ↔ SliceOf f mode T n
same_seeds f mode S T same n = (same_slice f mode S T (λ m. (same m).0) n, same_slice f mode T S (λ m. (same m).1) n)

-- a slice of other seeds that are the same nodes: its statements, and what it needs
module _ (f : Facts) (mode : Mode) (S T : NodeId → Type 0) (same : (n : NodeId) → S n ↔ T n) where
  pub statements_of_seeds : (ss : List Statement) → IsOrderedListOf StatementBefore ss (StatementsOf f.inputs (SliceOf f mode S)) → IsOrderedListOf StatementBefore ss (StatementsOf f.inputs (SliceOf f mode T))
  statements_of_seeds ss h = statements_reworded f (SliceOf f mode S) (SliceOf f mode T) ss (same_seeds f mode S T same) h

  pub needed_of_seeds : (p : GraphPass) (v : View) → HasNeeded f mode (SliceOf f mode S) p v → HasNeeded f mode (SliceOf f mode T) p v
  needed_of_seeds p v h = needed_reworded f mode (SliceOf f mode S) (SliceOf f mode T) p v (λ n. (same_seeds f mode S T same n).1) h

  pub needed_for_seeds : (p : GraphPass) (v : View) → HasNeeded f mode (SliceOf f mode T) p v → HasNeeded f mode (SliceOf f mode S) p v
  needed_for_seeds p v h = needed_reworded f mode (SliceOf f mode T) (SliceOf f mode S) p v (λ n. (same_seeds f mode S T same n).0) h

  pub rows_for_seeds : (v : View) → HasRows f mode (SliceOf f mode T) v → HasRows f mode (SliceOf f mode S) v
  rows_for_seeds v h = λ e x. h e (x.0, x.1, (same_seeds f mode S T same x.0).0 x.2)

pub on_ok_to : {X E P Q : Type 0} (r : Result X E) → (P → Q) → OnOk r P → OnOk r Q
on_ok_to (Ok x) to h = to h
on_ok_to (Err e) to h = tt

-- what holds anyway
pub on_ok : {X E P : Type 0} (r : Result X E) → P → OnOk r P
on_ok (Ok x) p = p
on_ok (Err e) p = tt

-- ---- the nodes that were listed for statements
pub listed_seeds : (f : Facts) (seeds : List Statement) (found nodes items : List NodeId) → ((n : NodeId) → Contains found n ↔ Contains nodes n) → nodes ≡ items → ((n : NodeId) → Contains items n ↔ NodesOf f.inputs (Contains seeds) n)
    → (n : NodeId) → Contains found n ↔ NodesOf f.inputs (Contains seeds) n
listed_seeds f seeds found nodes items same is members n = (
  λ c. (members n).0 (subst (λ (xs : List NodeId). Contains xs n) is ((same n).0 c)),
  λ h. (same n).1 (subst (λ (xs : List NodeId). Contains xs n) (sym is) ((members n).1 h)),
)

pub nodes_below : (f : Facts) (seeds : List Statement) (nodes items : List NodeId) → nodes ≡ items → ((n : NodeId) → Contains items n ↔ NodesOf f.inputs (Contains seeds) n) → All (λ (n : NodeId). n.0 < node_count f.inputs) nodes
nodes_below f seeds nodes items is members =
    subst (All (λ (n : NodeId). n.0 < node_count f.inputs)) (sym is)
    (All-weaker (Contains items) (λ n. n.0 < node_count f.inputs) (λ n c. let h = (members n).0 c in node_below f n h.0.method h.2.0 h.2.1) items (All-contains_itself items))

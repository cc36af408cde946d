-- Edges between two rows, as they are gathered.
use Rattle.std.proofs.Common.{◌≡◌, ◌↔◌, ◌+◌, ℕ, List, Option, Some, None, sym, ap, subst, ◌∙◌}
use Rattle.std.specs.Prelude.{slice_get}
use Rattle.std.proofs.lemmas.Option.{same_Some}
use Rattle.dep_form.specs.declared.node.Edge.{Edge}
use Rattle.dep_form.specs.declared.node.Label.{Label}
use Rattle.dep_form.specs.declared.node.Node.{Node}
use Rattle.edge_tables.specs.Rows.{IsEdgeBetween, IsFoundEdge, IsStartedEdge, edge_of}

pub started_is : (from first b : ℕ) (end : Option ℕ) (l : Label) → end ≡ Some b → (x : Edge) → (x ≡ edge_of from (first + b) l) ↔ IsStartedEdge from first end l x
started_is from first b end l is x = (λ e. (b, is, e), λ (c, at, e). e ∙ ap (λ (z : ℕ). edge_of from (first + z) l) (same_Some c b (sym at ∙ is)))

pub found_is : (from a : ℕ) (start : Option ℕ) (to : ℕ) (end : Option ℕ) (l : Label) → start ≡ Some a → (x : Edge) → IsStartedEdge (from + a) to end l x ↔ IsFoundEdge from start to end l x
found_is from a start to end l is x = (λ h. (a, is, h), λ (c, at, h). subst (λ (z : ℕ). IsStartedEdge (from + z) to end l x) (same_Some c a (sym at ∙ is)) h)

pub between_is : (from : ℕ) (xs : List Node) (k : Node) (to : ℕ) (ys : List Node) (j : Node) (start end : Option ℕ) (l : Label) → ((i : ℕ) → (start ≡ Some i) ↔ (slice_get xs i ≡ Some k)) → ((i : ℕ) → (end ≡ Some i) ↔ (slice_get ys i ≡ Some j))
    → (x : Edge) → IsFoundEdge from start to end l x ↔ IsEdgeBetween from xs k to ys j l x
between_is from xs k to ys j start end l starts ends x = (λ (a, f, (b, g, e)). (a, b, (starts a).0 f, (ends b).0 g, e), λ (a, b, f, g, e). (a, (starts a).1 f, (b, (ends b).1 g, e)))

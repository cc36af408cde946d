-- What the bits of a row to hand say.
use Rattle.std.proofs.Common.{◌≡◌, ◌<◌, ◌*◌, ℕ, List, length, Some, sym, subst, ap, ◌∙◌, arith}
use Rattle.std.proofs.Props.{props}
use Rattle.std.specs.Prelude.{slice_get}
use Rattle.std.proofs.lemmas.Option.{same_Some}
use Rattle.slicer_ids.specs.declared.ids.NodeId.{NodeId}
use Rattle.slicer_ids.specs.declared.ids.MethodId.{MethodId}
use Rattle.slicer_ids.specs.declared.ids.CallId.{CallId}
use Rattle.slicer_ids.specs.declared.ids.ExitId.{ExitId}
use Rattle.slicer_ids.specs.declared.ids.Mode.{Mode}
use Rattle.dep_form.specs.declared.facts.Facts.{Facts}
use Rattle.dep_form.specs.declared.input.MethodInput.{MethodInput}
use Rattle.dep_form.specs.declared.node.Node.{Node}
use Rattle.dep_form.specs.declared.node.Label.TheVariants.{Call}
use Rattle.dep_form.specs.Inputs.{IsEdge, IsInputOf, IsNodeOf, formal_count}
use Rattle.dep_form.specs.Phases.{edge}
use Rattle.dep_form.specs.Summaries.{IsExitAt, IsRow}
use Rattle.tabulate.specs.Frames.{count, method_of, row}
use Rattle.tabulate.proofs.Fitting.{of_node, for_formal, IsFormalOf}

-- the input of a node's method is one
pub one_input : (p : Facts) (n : NodeId) (a b : MethodId) (i j : MethodInput) (k : Node) → IsInputOf p.inputs a i → IsNodeOf i n k → IsInputOf p.inputs b j → method_of p n.0 ≡ b.0 → i ≡ j
one_input p n a b i j k x y z own =
    let here : method_of p n.0 ≡ a.0 = (of_node p n a k (i, x, y)).1 in
    let place : a.0 ≡ b.0 = sym here ∙ own in
    same_Some i j (same_Some (Some i) (Some j) (sym (subst (λ (m : ℕ). slice_get p.inputs m ≡ Some (Some i)) place x) ∙ z))

module _ (p : Facts) (mode : Mode) (d : ExitId) (e : NodeId) (bits : List ℕ) (r : IsRow p mode d bits) (at : IsExitAt p d e) (el : e.0 < count p) where
  -- the row has a bit for each formal of the exit's method
  pub formal_within : (a g : NodeId) (k : CallId) → IsEdge p.inputs (edge a (Call k) g) → method_of p g.0 ≡ method_of p e.0 → row p g.0 < 64 * length bits
  formal_within a g k c own = for_formal p a g k (row p g.0 < 64 * length bits) (hlevel props) c low
    where
      low : IsFormalOf p g → row p g.0 < 64 * length bits
      low f =
          let w = r.size in
          let node_is : w.2 ≡ e = same_Some w.2 e (sym w.4 ∙ at) in
          let same : w.1 ≡ f.input = one_input p e w.0 f.method w.1 f.input w.3 w.5 (subst (λ (n : NodeId). IsNodeOf w.1 n w.3) node_is w.6) f.there (sym own ∙ f.owned) in
          omega (arith, f.below, w.7, ap formal_count same)

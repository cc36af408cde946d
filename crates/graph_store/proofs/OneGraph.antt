-- An input has one graph.
use Rattle.std.proofs.Common.{◌≡◌, ◌⊎◌, ◌<◌, ◌+◌, ℕ, zero, suc, List, [], ◌∷◌, length, Some, refl, sym, ap, ◌∙◌, subst, inl, inr, arith}
use Rattle.std.specs.Prelude.{slice_get}
use Rattle.std.proofs.lemmas.Option.{slice_get_within, slice_get-get_or}
use Rattle.slicer_ids.specs.Sets.{IsOrderedListOf}
use Rattle.slicer_ids.proofs.Ordered.{one_ordered}
use Rattle.slicer_ids.specs.declared.ids.NodeId.{NodeId}
use Rattle.dep_form.specs.declared.node.Edge.{Edge}
use Rattle.dep_form.specs.declared.input.MethodInput.{MethodInput}
use Rattle.dep_form.specs.declared.graph.Graph.{Graph}
use Rattle.dep_form.specs.Inputs.{IsEdgeOf}
use Rattle.dep_form.specs.Graphs.{IsGraphOf, EdgeBefore}

-- of two edges not each comes before the other
not_both : (a b : Edge) → EdgeBefore a b → EdgeBefore b a → ⊥
not_both a b (inl x) (inl y) = omega (arith, x, y)
not_both a b (inl x) (inr (ys, inl yp)) = omega (arith, x, ap (λ (n : NodeId). n.0) ys, yp)
not_both a b (inl x) (inr (ys, inr (yt, inl yp))) = omega (arith, x, ap (λ (n : NodeId). n.0) ys, ap (λ (n : NodeId). n.0) yt, yp)
not_both a b (inl x) (inr (ys, inr (yt, inr (yk, yp)))) = omega (arith, x, ap (λ (n : NodeId). n.0) ys, ap (λ (n : NodeId). n.0) yt, yk, yp)
not_both a b (inr (xs, inl xp)) (inl y) = omega (arith, ap (λ (n : NodeId). n.0) xs, xp, y)
not_both a b (inr (xs, inl xp)) (inr (ys, inl yp)) = omega (arith, ap (λ (n : NodeId). n.0) xs, xp, ap (λ (n : NodeId). n.0) ys, yp)
not_both a b (inr (xs, inl xp)) (inr (ys, inr (yt, inl yp))) = omega (arith, ap (λ (n : NodeId). n.0) xs, xp, ap (λ (n : NodeId). n.0) ys, ap (λ (n : NodeId). n.0) yt, yp)
not_both a b (inr (xs, inl xp)) (inr (ys, inr (yt, inr (yk, yp)))) = omega (arith, ap (λ (n : NodeId). n.0) xs, xp, ap (λ (n : NodeId). n.0) ys, ap (λ (n : NodeId). n.0) yt, yk, yp)
not_both a b (inr (xs, inr (xt, inl xp))) (inl y) = omega (arith, ap (λ (n : NodeId). n.0) xs, ap (λ (n : NodeId). n.0) xt, xp, y)
not_both a b (inr (xs, inr (xt, inl xp))) (inr (ys, inl yp)) = omega (arith, ap (λ (n : NodeId). n.0) xs, ap (λ (n : NodeId). n.0) xt, xp, ap (λ (n : NodeId). n.0) ys, yp)
not_both a b (inr (xs, inr (xt, inl xp))) (inr (ys, inr (yt, inl yp))) = omega (arith, ap (λ (n : NodeId). n.0) xs, ap (λ (n : NodeId). n.0) xt, xp, ap (λ (n : NodeId). n.0) ys, ap (λ (n : NodeId). n.0) yt, yp)
not_both a b (inr (xs, inr (xt, inl xp))) (inr (ys, inr (yt, inr (yk, yp)))) = omega (arith, ap (λ (n : NodeId). n.0) xs, ap (λ (n : NodeId). n.0) xt, xp, ap (λ (n : NodeId). n.0) ys, ap (λ (n : NodeId). n.0) yt, yk, yp)
not_both a b (inr (xs, inr (xt, inr (xk, xp)))) (inl y) = omega (arith, ap (λ (n : NodeId). n.0) xs, ap (λ (n : NodeId). n.0) xt, xk, xp, y)
not_both a b (inr (xs, inr (xt, inr (xk, xp)))) (inr (ys, inl yp)) = omega (arith, ap (λ (n : NodeId). n.0) xs, ap (λ (n : NodeId). n.0) xt, xk, xp, ap (λ (n : NodeId). n.0) ys, yp)
not_both a b (inr (xs, inr (xt, inr (xk, xp)))) (inr (ys, inr (yt, inl yp))) = omega (arith, ap (λ (n : NodeId). n.0) xs, ap (λ (n : NodeId). n.0) xt, xk, xp, ap (λ (n : NodeId). n.0) ys, ap (λ (n : NodeId). n.0) yt, yp)
not_both a b (inr (xs, inr (xt, inr (xk, xp)))) (inr (ys, inr (yt, inr (yk, yp)))) = omega (arith, ap (λ (n : NodeId). n.0) xs, ap (λ (n : NodeId). n.0) xt, xk, xp, ap (λ (n : NodeId). n.0) ys, ap (λ (n : NodeId). n.0) yt, yk, yp)

-- lists with the same items are one
same_items : {X : Type 0} (xs ys : List X) → length xs ≡ length ys → ((k : ℕ) (x y : X) → slice_get xs k ≡ Some x → slice_get ys k ≡ Some y → x ≡ y) → xs ≡ ys
same_items [] [] e same = refl
same_items [] (y ∷ ys) e same = absurd (omega (arith, e))
same_items (x ∷ xs) [] e same = absurd (omega (arith, e))
same_items (x ∷ xs) (y ∷ ys) e same =
    let head : x ≡ y = same zero x y refl refl in
    let tail : xs ≡ ys = same_items xs ys (omega (arith, e)) (λ k u v p q. same (suc k) u v p q) in
    λ i. head i ∷ tail i

pub one_graph_of : (i : MethodInput) (g h : Graph) → IsGraphOf i g → IsGraphOf i h → g ≡ h
one_graph_of i g h a b =
    let method = a.method ∙ sym b.method in
    let first = a.first ∙ sym b.first in
    let incoming = same_items g.incoming h.incoming (a.size ∙ sym b.size)
    (λ k es fs p q. one_ordered EdgeBefore (λ e. IsEdgeOf i e × (e.to.0 ≡ i.first.0 + k)) es fs (λ x y _ _. not_both x y) (a.edges k es p) (b.edges k fs q)) in
    λ t. record { method = method t; first = first t; incoming = incoming t }

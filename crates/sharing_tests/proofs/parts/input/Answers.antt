use Rattle.std.proofs.Common.{◌≡◌, ◌<◌, ◌≤◌, ◌+◌, ◌++◌, ◌∙◌, ℕ, List, [], Contains, length, sym, subst, ap, arith}
use Rattle.std.specs.List.Sorted.{IsPartitionedBy}
use Rattle.dep_form.specs.declared.node.Node.{Node}
use Rattle.dep_form.specs.declared.node.Edge.{Edge}
use Rattle.dep_form.specs.Among.{IsAmong}
use Rattle.dep_form.specs.Nodes.{is_formal}
use Rattle.sharing_tests.proofs.PartInput.{small, leading, ending}
use Rattle.sharing_tests.proofs.parts.input.Goals as goal

nodes_are : (xs ys zs none : List Node) → zs ≡ xs → xs ≡ none ++ ys → none ≡ [] → zs ≡ ys
nodes_are xs ys zs none a b e = a ∙ b ∙ ap (λ ks. ks ++ ys) e

edges_are : (xs ys zs none : List Edge) → zs ≡ xs → xs ≡ none ++ ys → none ≡ [] → zs ≡ ys
edges_are xs ys zs none a b e = a ∙ b ∙ ap (λ ks. ks ++ ys) e

pub invariant_of-result-clause-few : goal.invariant_of-result-clause-few
invariant_of-result-clause-few c =
    let all = nodes_are c.extend_from_slice.new.self.items c.args.nodes.now c.from_vec.result c.new-all.result.items c.from_vec.ensures c.in_ok-extend_from_slice.ensures.items c.new-all.ensures.items in
    let le = small c.args.first c.args.nodes.now c.args.edges.now c.requires in
    let h : length c.from_vec.result < 4294967296 = omega (arith, le, ap length all) in
    h

pub invariant_of-result-clause-formals_first : goal.invariant_of-result-clause-formals_first
invariant_of-result-clause-formals_first c =
    let all = nodes_are c.extend_from_slice.new.self.items c.args.nodes.now c.from_vec.result c.new-all.result.items c.from_vec.ensures c.in_ok-extend_from_slice.ensures.items c.new-all.ensures.items in
    subst (IsPartitionedBy is_formal) (sym all) (leading c.args.first c.args.nodes.now c.args.edges.now c.requires)

pub invariant_of-result-clause-small : goal.invariant_of-result-clause-small
invariant_of-result-clause-small c =
    let all = nodes_are c.extend_from_slice.new.self.items c.args.nodes.now c.from_vec.result c.new-all.result.items c.from_vec.ensures c.in_ok-extend_from_slice.ensures.items c.new-all.ensures.items in
    let le = small c.args.first c.args.nodes.now c.args.edges.now c.requires in
    let h : c.args.first + length c.from_vec.result ≤ 4294967296 = omega (arith, le, ap length all) in
    h

pub invariant_of-result-clause-ends : goal.invariant_of-result-clause-ends
invariant_of-result-clause-ends c =
    let all = nodes_are c.extend_from_slice.new.self.items c.args.nodes.now c.from_vec.result c.new-all.result.items c.from_vec.ensures c.in_ok-extend_from_slice.ensures.items c.new-all.ensures.items in
    let direct = edges_are c.extend_from_slice-2.new.self.items c.args.edges.now c.from_vec-3.result c.new-direct.result.items c.from_vec-3.ensures c.in_ok-extend_from_slice-2.ensures.items c.new-direct.ensures.items in
    λ e k. subst (λ (ns : List Node). IsAmong c.args.first ns e.to.0) (sym all) (ending c.args.first c.args.nodes.now c.args.edges.now c.requires e (subst (λ (es : List Edge). Contains es e) direct k))

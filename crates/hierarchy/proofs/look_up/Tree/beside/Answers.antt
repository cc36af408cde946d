use Rattle.std.proofs.Common.{Some, None, ap, length, arith}
use Rattle.hierarchy.proofs.Chains.{super_within}
use Rattle.hierarchy.proofs.Descents.{place_below, place_falls}
use Rattle.hierarchy.proofs.Resolving.{beside_here, beside_beyond, beside_nowhere}
use Rattle.hierarchy.proofs.Rows.{super_edge}
use Rattle.hierarchy.proofs.look_up.Tree.beside.Goals as goal

pub first_beyond-requires-clause-class : goal.first_beyond-requires-clause-class
first_beyond-requires-clause-class c = omega (arith, c.requires.tree.interface_edges.len, c.loop.invariant.within)

pub returns-in-Some : goal.returns-in-Some
returns-in-Some c = c.loop.invariant.back (Some c.in-Some.found) (beside_here c.args.self.now c.requires.tree c.args.places.now c.loop.at c.in-Some.found c.in-Some.ensures)

pub returns-in_default-super_of : goal.returns-in_default-super_of
returns-in_default-super_of c = c.loop.invariant.back None (beside_nowhere c.args.self.now c.requires.tree c.args.places.now c.loop.at c.in_default.ensures c.in_default-super_of.ensures)

pub loop-preserved : goal.loop-preserved
loop-preserved c =
    let t = c.requires.tree in
    let tree = c.args.self.now in
    let next = c.in-Some-super_of.next in
    let falls = place_falls tree.parents.edges.items tree.order.items c.loop.at next t.parent_search.back
    (super_edge tree.classes.items tree.parents.edges.items t.ordered.order t.parent_edges c.loop.at next c.in-Some-super_of.ensures) in
    let before = c.loop.invariant.places in
    record {
      within = super_within tree.classes.items c.loop.at next c.in-Some-super_of.ensures;
      places = omega (arith, falls, before);
      back = λ found u. c.loop.invariant.back found (beside_beyond tree t c.args.places.now c.loop.at next found c.in_default.ensures c.in-Some-super_of.ensures u);
    }

pub unreachable-requires : goal.unreachable-requires
unreachable-requires c =
    let t = c.requires.tree in
    let tree = c.args.self.now in
    let p = place_below tree.parents.edges.items tree.order.items c.args.class t.parent_search.back (omega (arith, t.parent_edges.len, c.requires.class)) in
    let i = c.loop.invariant.places in
    omega (arith, p.0, i, ap length c.as_slice-order.ensures.value)

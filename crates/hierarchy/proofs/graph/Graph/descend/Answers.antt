use Rattle.std.proofs.Common.{arith}
use Rattle.std.proofs.lemmas.Bool.{iff_false}
use Rattle.hierarchy.proofs.Descents.{found_here, found_below, place_below, place_falls, leads_on}
use Rattle.hierarchy.proofs.graph.Graph.descend.Goals as goal

pub returns-then-is_one_of : goal.returns-then-is_one_of
returns-then-is_one_of c = c.loop.invariant.back c.loop.at
    (found_here c.args.self.now.edges.items c.args.order.now c.requires.graph.back c.args.places.now c.loop.at (c.is_one_of.ensures.0 c.if-is_one_of.true))

pub loop-preserved : goal.loop-preserved
loop-preserved c =
    let g = c.args.self.now.edges.items in
    let h = leads_on g c.args.places.now c.loop.at c.next-at.result c.requires.graph.edges c.next-at.ensures in
    let falls = place_falls g c.args.order.now c.loop.at c.next-at.result c.requires.graph.back h.0 in
    let before = c.loop.invariant.places in
    record {
      within = h.1;
      leads = h.2;
      places = omega (arith, falls, before);
      back = λ n f. c.loop.invariant.back n (found_below g c.args.order.now c.requires.graph.back c.args.places.now c.loop.at c.next-at.result n (iff_false c.is_one_of.ensures c.if-is_one_of.false) c.next-at.ensures f);
    }

pub unreachable-requires : goal.unreachable-requires
unreachable-requires c =
    let p = place_below c.args.self.now.edges.items c.args.order.now c.args.class c.requires.graph.back c.requires.class in
    let i = c.loop.invariant.places in
    omega (arith, p.0, i)

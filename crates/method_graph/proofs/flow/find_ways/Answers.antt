use Rattle.std.proofs.Common.{◌<◌, ◌/◌, ◌∙◌, sym, subst, arith}
use Rattle.method_graph.specs.Flows.{AreWays, Follows}
use Rattle.method_graph.proofs.Following.{ways_there}
use Rattle.method_graph.proofs.flow.find_ways.Goals as goal

pub loop-going-preserved : goal.loop-going-preserved
loop-going-preserved c =
    let flow = c.args.flow.now in
    let same = c.follow_all-going.ensures.frame.1 in
    let new = c.follow_all-going.new.self.words.items in
    record {
      points = c.follow_all-going.ensures.frame.0 ∙ c.loop-going.invariant.points;
      sound = subst (λ n. AreWays flow n new) (sym same) (c.follow_all-going.ensures.sound c.loop-going.invariant.sound);
      follows = λ e p q g. subst (λ n. Follows n new p q) (sym same) (c.follow_all-going.ensures.follows e p q g);
    }

pub returns-clause-ways : goal.returns-clause-ways
returns-clause-ways c = λ p q p_in q_in.
    let rows = c.loop-going.ways.rows in
    let in_row : q / 64 < c.loop-going.ways.width = omega (arith, q_in, rows.wide, c.loop-going.invariant.points) in (
      λ h. c.loop-going.invariant.sound p q in_row h,
      λ l. ways_there c.args.flow.now c.args.points c.loop-going.ways.width c.loop-going.ways.words.items c.requires (omega (arith, rows.wide, c.loop-going.invariant.points)) (c.loop-going.invariant.follows c.loop-going-test.false) p q l,
    )

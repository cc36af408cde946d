use Rattle.std.proofs.Common.{◌≡◌, ℕ, ◌-◌, ◌<◌, length, get_or, sym, subst, ◌∙◌, arith}
use Rattle.std.proofs.lemmas.List.{get_or_default}
use Rattle.std.proofs.lemmas.List.Elements.{Contains-get_or}
use Rattle.method_graph.specs.Flows.{AreWays, Follows}
use Rattle.method_graph.proofs.Words.{adds_then}
use Rattle.method_graph.proofs.Following.{round_more}
use Rattle.method_graph.proofs.flow.Ways.follow_all.Goals as goal

pub loop-done-preserved : goal.loop-done-preserved
loop-done-preserved c =
    let flow = c.args.flow.now in
    let w = c.args.self.now.width in
    let v = c.loop-done.self.width in
    let same : v ≡ w = c.loop-done.invariant.width in
    let k = length flow - 1 - c.loop-done.done in
    let lt : k < length flow = omega (arith, c.loop-done-test.true) in
    let step : ℕ × ℕ = get_or flow k (0, 0) in
    let new = c.follow-here.new.self.words.items in
    record {
      points = c.follow-here.ensures.frame.0 ∙ c.loop-done.invariant.points;
      width = c.follow-here.ensures.frame.1 ∙ same;
      adds = rw c.either-changed.ensures (adds_then _ _ _ c.loop-done.changed c.follow-here.result c.loop-done.invariant.adds c.follow-here.ensures.adds);
      sound = λ s. subst (λ n. AreWays flow n new) same (c.follow-here.ensures.sound flow (Contains-get_or flow k (0, 0) lt) (subst (λ n. AreWays flow n c.loop-done.self.words.items) (sym same) (c.loop-done.invariant.sound s)));
      follows = λ e. round_more flow w c.args.self.now.words.items c.loop-done.self.words.items new c.loop-done.changed c.follow-here.result c.loop-done.done c.loop-done-test.true
          c.loop-done.invariant.adds c.follow-here.ensures.adds c.loop-done.invariant.follows
          (λ q d. subst (λ (s : ℕ × ℕ). Follows w new s.0 s.1) (get_or_default flow k (0, 0) d lt) (subst (λ n. Follows n new step.0 step.1) same (c.follow-here.ensures.follows q)))
          (sym c.either-changed.ensures ∙ e);
    }

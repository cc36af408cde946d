use Rattle.std.proofs.Common.{◌≤◌, take, All, subst, arith}
use Rattle.std.proofs.lemmas.List.{take_all}
use Rattle.std.proofs.lemmas.List.Elements.{All-more, All-weaker}
use Rattle.class_form.specs.declared.body.Point.{Point}
use Rattle.reaching_defs.proofs.points.deepest.Goals as goal

pub loop-point-preserved : goal.loop-point-preserved
loop-point-preserved c =
    let x = c.point-item.result in
    let xs = c.args.points.now in
    let here : x.depth ≤ c.larger-depth.result = omega (arith, c.larger-depth.ensures.second) in
    record {
      within = All-more (λ (p : Point). p.depth ≤ c.larger-depth.result) xs c.loop-point.point-index x c.loop-point-test.true
          (All-weaker (λ (p : Point). p.depth ≤ c.loop-point.depth) (λ (p : Point). p.depth ≤ c.larger-depth.result) (λ p le. omega (arith, c.larger-depth.ensures.first, le)) (take c.loop-point.point-index xs) c.loop-point.invariant.within)
          (subst (λ (p : Point). p.depth ≤ c.larger-depth.result) c.point-item.is here);
      some = omega (arith, c.larger-depth.ensures.first, c.loop-point.invariant.some);
      small = grind (arith, c.larger-depth.ensures.one);
    }

pub returns-clause-within : goal.returns-clause-within
returns-clause-within c = subst (All (λ (p : Point). p.depth ≤ c.loop-point.depth)) (take_all c.loop-point.point-index c.args.points.now c.loop-point-test.false) c.loop-point.invariant.within

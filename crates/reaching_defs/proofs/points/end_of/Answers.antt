use Rattle.std.proofs.Common.{◌<◌, take, All, subst, arith}
use Rattle.std.proofs.lemmas.List.{take_all}
use Rattle.std.proofs.lemmas.List.Elements.{All-more, All-weaker}
use Rattle.class_form.specs.declared.body.Point.{Point}
use Rattle.reaching_defs.proofs.points.end_of.Goals as goal

pub loop-point-preserved : goal.loop-point-preserved
loop-point-preserved c =
    let x = c.point-item.result in
    let xs = c.args.points.now in
    let here : x.pc < c.larger-end.result = omega (arith, c.larger-end.ensures.second) in
    record {
      within = All-more (λ (p : Point). p.pc < c.larger-end.result) xs c.loop-point.point-index x c.loop-point-test.true
          (All-weaker (λ (p : Point). p.pc < c.loop-point.end) (λ (p : Point). p.pc < c.larger-end.result) (λ p lt. omega (arith, c.larger-end.ensures.first, lt)) (take c.loop-point.point-index xs) c.loop-point.invariant.within)
          (subst (λ (p : Point). p.pc < c.larger-end.result) c.point-item.is here);
      small = grind (arith, c.larger-end.ensures.one);
    }

pub returns-clause-within : goal.returns-clause-within
returns-clause-within c = subst (All (λ (p : Point). p.pc < c.loop-point.end)) (take_all c.loop-point.point-index c.args.points.now c.loop-point-test.false) c.loop-point.invariant.within

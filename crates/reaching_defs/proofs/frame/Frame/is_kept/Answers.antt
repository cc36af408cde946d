use Rattle.std.proofs.Common.{rules, ap, arith}
use Rattle.std.specs.Prelude.{IsTrue}
use Rattle.class_form.specs.declared.body.Point.{Point}
use Rattle.reaching_defs.proofs.Places.{one_point}
use Rattle.reaching_defs.proofs.frame.Frame.is_kept.Goals as goal

pub returns-then-slot-self : goal.returns-then-slot-self
returns-then-slot-self c = (
  λ h. absurd (cc h),
  λ h.
      let is = one_point c.args.self.now.shape.now.points c.args.self.now.index.now c.args.pc h.0 c.point_at-target.result.now c.requires.frame.index h.1.0 h.1.1 c.point_at-target.ensures.0 c.point_at-target.ensures.1 in
      absurd (omega (arith, h.2.0, ap (λ (q : Point). q.depth) is)),
)

pub returns : goal.returns
returns c =
    let yes : IsTrue c.args.leaves = search rules in
    let leaves = c.requires.leaves.0 yes in
    (λ h. (c.point_at-target.result.now, c.point_at-target.ensures, (omega arith, leaves.0, leaves.1)), λ h. search rules)

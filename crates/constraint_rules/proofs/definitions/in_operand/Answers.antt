use Rattle.worklists.specs.Growth.{FromOne}
use Rattle.constraint_rules.specs.Slots.{IsNumberOfUse}
use Rattle.constraint_rules.proofs.SlotNumbers.{from_nothing, to_defined, from_defined}
use Rattle.constraint_rules.proofs.definitions.in_operand.Goals as goal

pub returns : goal.returns
returns c = λ p s names i has asked at x.
    let b = c.args.body.now in
    let q = c.args.point.now in
    let same = from_nothing (FromOne (IsNumberOfUse p s b q.pc c.args.operand) q.uses) c.new-vars.result.items c.push_uses.new.vars.items c.new-vars.ensures.items (c.in_ok-push_uses.ensures p s has) x in (
      λ h. to_defined p s names asked b q i c.requires.body.flow.order c.requires.point at c.args.operand x (same.0 h),
      λ h. same.1 (from_defined p s names asked b q i c.requires.body.flow.order c.requires.point at c.args.operand x h),
    )
